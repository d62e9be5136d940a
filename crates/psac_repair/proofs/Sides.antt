-- Both sides of a par at once: each begins on its part of the pass, and what both tell is told of the par.
use Rattle.std.proofs.Common.{◌≡◌, ℕ, ◌+◌, not, ◌&&◌, Bool, true, false, List, ◌++◌, Some, None, refl, ap, sym, ◌∙◌, subst, inl, inr, ⊎_elim, append_assoc}
use Rattle.std.proofs.lemmas.List.Elements.{Contains-append_cases}
use Rattle.psac_ops.specs.declared.plain.Handle.{Handle}
use Rattle.psac_syntax.specs.declared.program.Stmt.{Stmt}
use Rattle.psac_syntax.specs.declared.program.Func.{Func}
use Rattle.psac_slots.specs.Handles.{Member}
use Rattle.psac_values.specs.declared.view.ValueView.{ValueView}
use Rattle.psac_values.specs.declared.view.OwnedView.{OwnedView}
use Rattle.psac_values.specs.declared.view.KnownView.{KnownView}
use Rattle.psac_values.specs.Steps.{left_of, right_of, joined}
use Rattle.psac_values.specs.Knowing.{Has, United, all_words}
use Rattle.psac_model.specs.declared.ends.CapKind.{CapKind}
use Rattle.psac_model.specs.declared.ends.End.TheVariants.{Done, Stop}
use Rattle.psac_model.specs.Names.{Env}
use Rattle.psac_model.specs.Expression.{Setting}
use Rattle.psac_laws.specs.Standing.{Standing, in_both}
use Rattle.psac_laws.proofs.Places.{none_some, test_or, not_both}
use Rattle.psac_traced.specs.Rec.{Rec, S, P, writes}
use Rattle.psac_traced.specs.Places.{Makes, IsApart}
use Rattle.psac_traced.specs.Parts.{IsClosed}
use Rattle.psac_traced.specs.Mending.{mended}
use Rattle.psac_trace.specs.Rights.{Heap, held, Named, Within, Wider, Sees, Tidy, Target, Kept}
use Rattle.psac_model.specs.declared.ends.End.{End}
use Rattle.psac_ops.specs.Named.{same_handle}
use Rattle.psac_traced.specs.Mended.{Mended}
use Rattle.psac_cut_repair.specs.Based.{CutMends}
use Rattle.psac_cut_repair.proofs.Cutting.{mended_cut}
use Rattle.psac_repair.specs.Ended.{Ended, Good, Fault, Other, both_ended}
use Rattle.psac_trace.specs.Laws.{NewMade}
use Rattle.psac_trace.proofs.Heaps.{held_front, held_either, in_front, in_back, in_either, named_more, names_back, wider_in, within_fresh, fresh_sides}
use Rattle.psac_trace.proofs.Forks.{left_has, right_has, left_from, left_sees, right_sees, joined_kept, joined_sees_left, joined_sees_right, lent_left, left_right, right_shares, shares_left}
use Rattle.psac_repair.specs.Scope.{Scope, GoesAlong, ReadsAlong, Fills}
use Rattle.psac_repair.specs.Stood.{Stood, Owned}
use Rattle.psac_repair.specs.Divided.{writes_slot, neither}
use Rattle.psac_repair.specs.Mends.{Still, Renewed, ToldCut, Told, Needs, Tells, TellsPart}
use Rattle.psac_repair.proofs.Drawing.{Sum, draw_all, draw_both, most_both}
use Rattle.psac_repair.proofs.Fills.{scope_right, fills_second, target_either, targets_apart}
use Rattle.psac_repair.proofs.Before.{Always, AtPair, filled}
use Rattle.psac_repair.proofs.Steps.{scope_of, none_of, ready_from, within_base, distinct_append, part_end}
use Rattle.psac_repair.proofs.Tells.{pair_at, pair_scope, to_left, to_right, to_whole, old_left, stood_left, to_parts}
use Rattle.psac_repair.proofs.Forked.{Touches, left_touched, right_touched, left_sees_on, right_sees_on, owned_on}

module _ (w : Setting Handle) (funcs : List Func) (Q : List Stmt → Type 0) (closed : IsClosed funcs Q) (go : GoesAlong w funcs) (reading : ReadsAlong w) (l k r : Rec Handle) (apart : IsApart (S (P l k) r)) where
  module _ (v : ValueView) (tidy : Tidy v) (ol : Owned v l) (ok : Owned v k) (room : ℕ) (body : List Stmt) (env : Env Handle) (heap base : Heap) (st end : Standing) (s : Stood w funcs Q v (S (P l k) r) room body env heap base st end) (o : AtPair w funcs Q closed go reading l k r room body env heap st end) where
    abbrev One : List ℕ
    One = o.parts.one

    abbrev Two : List ℕ
    Two = o.parts.two

    whole_left : (m : Handle) → Target o.now One o.here m → Target st end.unwritten env m
    whole_left m t = to_whole w funcs Q closed go reading l k r apart v room body env heap base st end s o m (to_left w funcs Q closed go reading l k r apart v room body env heap base st end s o m t)

    whole_right : (m : Handle) → Target o.now Two o.here m → Target st end.unwritten env m
    whole_right m t = to_whole w funcs Q closed go reading l k r apart v room body env heap base st end s o m (to_right w funcs Q closed go reading l k r apart v room body env heap base st end s o m t)

    pub left_fills : Fills Always (Makes l) o.now One o.here heap (writes l)
    left_fills = old_left w funcs Q closed go reading l k r apart v room body env heap base st end s o

    right_fills : Fills Always (Makes k) o.now Two o.here (writes l ++ heap) (writes k)
    right_fills = subst (λ z. Fills Always (Makes k) o.now z o.here (writes l ++ heap) (writes k)) o.two_is (filled w funcs Q closed go reading k o.inner o.rs o.here (writes l ++ heap) o.now o.two_end apart.0.1 (o.other left_fills))

    pub sides_apart : (m : Handle) → Touches l m → Touches k m → ⊥
    sides_apart m (inl a) (inl b) = apart.0.2 m a b
    sides_apart m (inl a) (inr b) = elim (right_fills.spares m tt b) [ inl t ↦ s.beside m (inl (inl a)) (whole_right m t) | inr c ↦ apart.0.2 m a c ]
    sides_apart m (inr a) (inl b) = elim (left_fills.spares m tt a) [ inl t ↦ s.beside m (inl (inr b)) (whole_left m t) | inr c ↦ apart.0.2 m c b ]
    sides_apart m (inr a) (inr b) =
        elim (left_fills.spares m tt a) [
          | inl t ↦
              elim (right_fills.spares m tt b) [
                | inl u ↦ targets_apart w o.now o.mid end.unwritten o.here base o.ls o.rs o.parts (pair_scope w funcs Q closed go reading l k r apart v room body env heap base st end s o) o.seq.narrows m t u
                | inr c ↦ s.beside m (inl (inr c)) (whole_left m t)
              ]
          | inr c ↦ elim (right_fills.spares m tt b) [ inl u ↦ s.beside m (inl (inl c)) (whole_right m u) | inr d ↦ apart.0.2 m c d ]
        ]

    none_whole : (m : Handle) → Target st end.unwritten env m → held base m ≡ None
    none_whole = none_of w st end.unwritten env base (scope_of w st end.unwritten env v base s.ready)

    left_out : (m : Handle) → Touches l m → held base m ≡ None
    left_out m (inl a) = s.unused m (inl (inl a))
    left_out m (inr a) = elim (left_fills.spares m tt a) [ inl t ↦ none_whole m (whole_left m t) | inr c ↦ s.unused m (inl (inl c)) ]

    pub right_out : (m : Handle) → Touches k m → held base m ≡ None
    right_out m (inl a) = s.unused m (inl (inr a))
    right_out m (inr a) = elim (right_fills.spares m tt a) [ inl t ↦ none_whole m (whole_right m t) | inr c ↦ s.unused m (inl (inr c)) ]

    abbrev Sh : ℕ → Bool
    Sh = neither l k

    abbrev Ri : ℕ → Bool
    Ri = writes_slot k

    abbrev L : ValueView
    L = left_of Sh Ri v

    abbrev K : ValueView
    K = right_of Sh Ri v

    -- each side begins
    pub fork_left : Stood w funcs Q L l o.inner o.ls o.here heap base o.now o.one_end
    fork_left =
        let q = stood_left w funcs Q closed go reading l k r apart v room body env heap base st end s o in
        record {
          so = q.so;
          meets = q.meets;
          left_it = q.left_it;
          before = q.before;
          ready = ready_from w o.now o.one_end.unwritten o.here L base (scope_of w o.now o.one_end.unwritten o.here v base q.ready)
              (λ m x e. left_sees_on v tidy l k ol ok sides_apart m x (s.ready.sees m x e) (λ i. none_some (sym (right_out m i) ∙ e)))
              (λ m t. left_touched v tidy l k ol ok sides_apart m (inr (left_fills.done m (subst (λ z. Target o.now z o.here m) o.one_is t))));
          unmade = q.unmade;
          unused = q.unused;
          beside = q.beside;
        }

    pub fork_right : Stood w funcs Q K k o.inner o.rs o.here (writes l ++ heap) base o.now o.two_end
    fork_right =
        let q = o.other left_fills in
        record {
          so = q.so;
          meets = q.meets;
          left_it = q.left_it;
          before = q.before;
          ready = ready_from w o.now o.two_end.unwritten o.here K base
              (subst (λ z. Scope w o.now z o.here base) (sym o.two_is) (scope_right w o.now o.mid end.unwritten o.here base o.ls o.rs o.parts (pair_scope w funcs Q closed go reading l k r apart v room body env heap base st end s o) o.seq.narrows))
              (λ m x e. right_sees_on v tidy l k ol ok sides_apart m x (s.ready.sees m x e) (λ i. none_some (sym (left_out m i) ∙ e)))
              (λ m t. right_touched v tidy l k ol ok sides_apart m (inr (right_fills.done m (subst (λ z. Target o.now z o.here m) o.two_is t))));
          unmade = q.unmade;
          unused = λ m i. s.unused m (inl (inr i));
          beside = q.beside;
        }

    pub own_left : Owned L l
    own_left = owned_on v L l (left_touched v tidy l k ol ok sides_apart) (λ m x i sx. left_sees_on v tidy l k ol ok sides_apart m x sx (sides_apart m i)) ol

    pub own_right : Owned K k
    own_right = owned_on v K k (right_touched v tidy l k ol ok sides_apart) (λ m x i sx. right_sees_on v tidy l k ol ok sides_apart m x sx (λ j. sides_apart m j i)) ok

    -- what both sides leave, joined
    module _ (a b j : ValueView) (ka : Kept L a) (kb : Kept K b) (is : j ≡ joined a b) (un : United a b j) where
      both_still : Still o.now One o.here l L a → Still o.now Two o.here k K b → Still o.now (in_both One Two) o.here (P l k) v j
      both_still fa fb m x h free made sx =
          elim (test_or (Sh m.slot)) [
            | inl e ↦
                (let f : Ri m.slot ≡ false = second_not (writes_slot l m.slot) (Ri m.slot) e in
                let sl = left_sees Sh Ri v m x sx (λ g. f) in
                joined_sees_left Sh Ri v tidy a b j ka kb is un m x (
                  sl.0,
                  sl.1,
                  ⊎_elim
                      (λ (q : (z : OwnedView) × Member z L.mine × (z.of ≡ m) × (z.words ≡ all_words sl.0)). absurd (not_both e (left_from Sh Ri v m (q.0, q.1, q.2)).1))
                      (λ (q : (z : KnownView) × Member z L.known × (z.of ≡ m) × (z.words ≡ all_words sl.0)). inr (q.0, subst (Member q.0) (sym ka.known) q.1, q.2, q.3))
                      sl.2,
                  sl.3,
                  sl.4,
                ))
            | inr e ↦
                elim (test_or (Ri m.slot)) [
                  | inl f ↦ joined_sees_right Sh Ri v tidy a b j ka kb is un m x (fb m x (right_has Sh Ri v m h e f) (λ t. free (to_right w funcs Q closed go reading l k r apart v room body env heap base st end s o m t)) (λ i. made (inr i)) (right_sees Sh Ri v m x sx (λ g q. f)))
                  | inr f ↦ joined_sees_left Sh Ri v tidy a b j ka kb is un m x (fa m x (left_has Sh Ri v m h e f) (λ t. free (to_left w funcs Q closed go reading l k r apart v room body env heap base st end s o m t)) (λ i. made (inl i)) (left_sees Sh Ri v m x sx (λ g. f)))
                ]
          ]
        where
          second_not : (p q : Bool) → (not p && not q) ≡ true → q ≡ false
          second_not true q e = absurd cc
          second_not false true e = absurd cc
          second_not false false e = refl

      both_made : (xs ys : List Handle) → NewMade L a xs → NewMade K b ys → NewMade v j (xs ++ ys)
      both_made xs ys p q =
          record {
            distinct = distinct_append xs ys p.distinct q.distinct (λ m i n. left_right Sh Ri v tidy a b j ka kb is un m m (p.has m i) (q.has m n) refl);
            lacked = λ m i.
                elim (Contains-append_cases xs ys m i) [
                  | inl c ↦ record {
                    mine = λ z mz e.
                        let hz : Has v z.of = (z, mz, refl) in
                        elim (test_or (Sh z.of.slot)) [
                          | inl f ↦ (let sh = lent_left Sh Ri v tidy a b j ka kb is un z.of hz f in (p.lacked m c).known sh.0 (subst (Member sh.0) ka.known sh.1) (ap (λ (y : Handle). y.slot) sh.2 ∙ e))
                          | inr f ↦
                              elim (test_or (Ri z.of.slot)) [
                                | inl g ↦ left_right Sh Ri v tidy a b j ka kb is un m z.of (p.has m c) (kb.mine z.of (right_has Sh Ri v z.of hz f g)) (sym e)
                                | inr g ↦ (let hl = left_has Sh Ri v z.of hz f g in (p.lacked m c).mine hl.0 hl.1 (ap (λ (y : Handle). y.slot) hl.2 ∙ e))
                              ]
                        ];
                    known = λ z mz e. (let sh = shares_left Sh Ri v tidy a b j ka kb is un z.of (z, mz, refl) in (p.lacked m c).known sh.0 (subst (Member sh.0) ka.known sh.1) (ap (λ (y : Handle). y.slot) sh.2 ∙ e));
                  }
                  | inr c ↦ record {
                    mine = λ z mz e.
                        let hz : Has v z.of = (z, mz, refl) in
                        elim (test_or (Sh z.of.slot)) [
                          | inl f ↦ (let sh = lent_left Sh Ri v tidy a b j ka kb is un z.of hz f in (q.lacked m c).known sh.0 (subst (Member sh.0) ka.known sh.1) (ap (λ (y : Handle). y.slot) sh.2 ∙ e))
                          | inr f ↦
                              elim (test_or (Ri z.of.slot)) [
                                | inl g ↦ (let hl = right_has Sh Ri v z.of hz f g in (q.lacked m c).mine hl.0 hl.1 (ap (λ (y : Handle). y.slot) hl.2 ∙ e))
                                | inr g ↦ left_right Sh Ri v tidy a b j ka kb is un z.of m (ka.mine z.of (left_has Sh Ri v z.of hz f g)) (q.has m c) e
                              ]
                        ];
                    known = λ z mz e. (let sh = shares_left Sh Ri v tidy a b j ka kb is un z.of (z, mz, refl) in (q.lacked m c).known sh.0 (subst (Member sh.0) ka.known sh.1) (ap (λ (y : Handle). y.slot) sh.2 ∙ e));
                  }
                ];
            has = λ m i. elim (Contains-append_cases xs ys m i) [ inl c ↦ un.has m (inl (p.has m c)) | inr c ↦ un.has m (inr (q.has m c)) ];
          }

      both_renewed : (one two : Heap) → Renewed o.now One o.here l L a base one → Renewed o.now Two o.here k K b base two → Renewed o.now (in_both One Two) o.here (P l k) v j base (two ++ one)
      both_renewed one two ml mr =
          let assoc : (two ++ one) ++ base ≡ two ++ (one ++ base) = append_assoc two one base in
          record {
            fills = record {
              closed = λ m c e. subst (λ h. Named h c) (sym assoc) (⊎_elim
                  (λ (q : held two m ≡ Some c). named_more (two ++ base) (two ++ (one ++ base)) (λ z i. wider_in two one base z i) c (mr.fills.closed m c (held_front two base m c q)))
                  (λ (q : (held two m ≡ None) × (held (one ++ base) m ≡ Some c)). names_back two (one ++ base) c (ml.fills.closed m c q.1))
                  (held_either two (one ++ base) m c (ap (λ h. held h m) (sym assoc) ∙ e)));
              done = λ m t. elim (target_either w o.now o.mid end.unwritten o.here base o.ls o.rs o.parts (pair_scope w funcs Q closed go reading l k r apart v room body env heap base st end s o) o.seq.narrows m t) [ inl p ↦ in_back two one m (ml.fills.done m p) | inr p ↦ in_front two one m (mr.fills.done m p) ];
              spares = λ m h i.
                  elim (test_or (Sh m.slot)) [
                    | inl e ↦
                        elim (in_either two one m i) [
                          | inl p ↦ absurd (right_shares Sh Ri v tidy a b j ka kb is un m m (mr.owned m p) (lent_left Sh Ri v tidy a b j ka kb is un m h e) refl)
                          | inr p ↦ absurd (ka.tidy.apart m m (ml.owned m p) (lent_left Sh Ri v tidy a b j ka kb is un m h e) refl)
                        ]
                    | inr e ↦
                        elim (test_or (Ri m.slot)) [
                          | inl f ↦
                              (let here = right_has Sh Ri v m h e f in
                              elim (in_either two one m i) [
                                | inl p ↦ elim (mr.fills.spares m here p) [ inl t ↦ inl (to_right w funcs Q closed go reading l k r apart v room body env heap base st end s o m t) | inr c ↦ inr (inr c) ]
                                | inr p ↦ absurd (left_right Sh Ri v tidy a b j ka kb is un m m (ml.owned m p) (kb.mine m here) refl)
                              ])
                          | inr f ↦
                              (let here = left_has Sh Ri v m h e f in
                              elim (in_either two one m i) [
                                | inl p ↦ absurd (left_right Sh Ri v tidy a b j ka kb is un m m (ka.mine m here) (mr.owned m p) refl)
                                | inr p ↦ elim (ml.fills.spares m here p) [ inl t ↦ inl (to_left w funcs Q closed go reading l k r apart v room body env heap base st end s o m t) | inr c ↦ inr (inl c) ]
                              ])
                        ]
                  ];
            };
            sees = λ m c e. ⊎_elim
                (λ (q : held two m ≡ Some c). joined_sees_right Sh Ri v tidy a b j ka kb is un m c (mr.sees m c (held_front two base m c q)))
                (λ (q : (held two m ≡ None) × (held (one ++ base) m ≡ Some c)). joined_sees_left Sh Ri v tidy a b j ka kb is un m c (ml.sees m c q.1))
                (held_either two (one ++ base) m c (ap (λ h. held h m) (sym assoc) ∙ e));
            owned = λ m i. elim (in_either two one m i) [ inl p ↦ un.has m (inr (mr.owned m p)) | inr p ↦ un.has m (inl (ml.owned m p)) ];
          }

      on_left : Within base (Sees a) → Within base (Sees j)
      on_left f m x e = joined_sees_left Sh Ri v tidy a b j ka kb is un m x (f m x e)

      -- a side that ended is one that was cut short at its end
      cut_of : (old new : Rec Handle) (end : End) → ((other : Heap) → Wider base other → Mended w funcs Q other old new end)
          → CutMends same_handle w funcs Q base old new 0
      cut_of old new end run = record { run = λ other wi. mended_cut w funcs Q other old new end (run other wi) }

      cut_forked : (drawn more all : CapKind → ℕ) → Sum drawn more all → ToldCut w funcs Q l L a base drawn
          → ToldCut w funcs Q k K b base more → ToldCut w funcs Q (P l k) v j base all
      cut_forked drawn more all sum ta tb = (
        P ta.0 tb.0,
        ta.1 + tb.1,
        record { run = λ other wi. inl (ta.1, tb.1, ta.2.run other wi, tb.2.run other wi, refl) },
        both_made (mended w.same l ta.0).created (mended w.same k tb.0).created ta.3 tb.3,
        most_both drawn more all (mended w.same l ta.0).added (mended w.same k tb.0).added ta.1 tb.1 (ta.1 + tb.1) refl sum ta.4 tb.4,
        on_left ta.5,
      )

      pub told_forked : (drawn more all : CapKind → ℕ) → Sum drawn more all → (one two : Ended)
          → Told w funcs Q o.now One o.here l L a base drawn one → Told w funcs Q o.now Two o.here k K b base more two
          → Told w funcs Q o.now (in_both One Two) o.here (P l k) v j base all (both_ended one two)
      told_forked drawn more all sum (Good c) (Good d) ta tb = (
        record { run = λ other wi. (Done, Done, ta.0.run other wi, tb.0.run (writes c ++ other) (within_fresh (writes c) base other ta.0.fresh wi), refl); fresh = fresh_sides base (writes c) (writes d) ta.0.fresh tb.0.fresh },
        both_renewed (writes c) (writes d) ta.1 tb.1,
        both_still ta.2 tb.2,
        both_made (mended w.same l c).created (mended w.same k d).created ta.3 tb.3,
        draw_both drawn more all (mended w.same l c).added (mended w.same k d).added sum ta.4 tb.4,
      )
      told_forked drawn more all sum (Good c) (Fault why n) ta tb = (
        P c tb.0,
        record { run = λ other wi. (Done, Stop why n, ta.0.run other wi, tb.1.run (writes c ++ other) (within_fresh (writes c) base other ta.0.fresh wi), refl); fresh = fresh_sides base (writes c) (writes tb.0) ta.0.fresh tb.1.fresh },
        on_left (within_base (writes c) base a ta.0.fresh ta.1.sees),
        both_still ta.2 tb.3,
        both_made (mended w.same l c).created (mended w.same k tb.0).created ta.3 tb.4,
        draw_both drawn more all (mended w.same l c).added (mended w.same k tb.0).added sum ta.4 tb.5,
      )
      told_forked drawn more all sum (Fault why n) (Good d) ta tb = (
        P ta.0 d,
        record { run = λ other wi. (Stop why n, Done, ta.1.run other wi, tb.0.run (writes ta.0 ++ other) (within_fresh (writes ta.0) base other ta.1.fresh wi), refl); fresh = fresh_sides base (writes ta.0) (writes d) ta.1.fresh tb.0.fresh },
        on_left ta.2,
        both_still ta.3 tb.2,
        both_made (mended w.same l ta.0).created (mended w.same k d).created ta.4 tb.3,
        draw_both drawn more all (mended w.same l ta.0).added (mended w.same k d).added sum ta.5 tb.4,
      )
      told_forked drawn more all sum (Fault why n) (Fault or_why i) ta tb = (
        P ta.0 tb.0,
        record { run = λ other wi. (Stop why n, Stop or_why i, ta.1.run other wi, tb.1.run (writes ta.0 ++ other) (within_fresh (writes ta.0) base other ta.1.fresh wi), refl); fresh = fresh_sides base (writes ta.0) (writes tb.0) ta.1.fresh tb.1.fresh },
        on_left ta.2,
        both_still ta.3 tb.3,
        both_made (mended w.same l ta.0).created (mended w.same k tb.0).created ta.4 tb.4,
        draw_both drawn more all (mended w.same l ta.0).added (mended w.same k tb.0).added sum ta.5 tb.5,
      )
      told_forked drawn more all sum (Good c) (Other want) ta tb =
          let seen = within_base (writes c) base a ta.0.fresh ta.1.sees in
          cut_forked drawn more all sum (c, 0, cut_of l c Done ta.0.run, ta.3, draw_all drawn (mended w.same l c).added ta.4, seen) tb
      told_forked drawn more all sum (Fault why n) (Other want) ta tb =
          let draws = draw_all drawn (mended w.same l ta.0).added ta.5 in
          cut_forked drawn more all sum (ta.0, 0, cut_of l ta.0 (Stop why n) ta.1.run, ta.4, draws, ta.2) tb
      told_forked drawn more all sum (Other want) (Good d) ta tb =
          let seen = within_base (writes d) base b tb.0.fresh tb.1.sees in
          cut_forked drawn more all sum ta (d, 0, cut_of k d Done tb.0.run, tb.3, draw_all more (mended w.same k d).added tb.4, seen)
      told_forked drawn more all sum (Other want) (Fault why n) ta tb =
          let draws = draw_all more (mended w.same k tb.0).added tb.5 in
          cut_forked drawn more all sum ta (tb.0, 0, cut_of k tb.0 (Stop why n) tb.1.run, tb.4, draws, tb.2)
      told_forked drawn more all sum (Other want) (Other or_want) ta tb = cut_forked drawn more all sum ta tb

  -- the sides of a fork begin
  module _ (v : ValueView) (tidy : Tidy v) (ol : Owned v l) (ok : Owned v k) where
    abbrev pub LeftView : ValueView
    LeftView = left_of (neither l k) (writes_slot k) v

    abbrev pub RightView : ValueView
    RightView = right_of (neither l k) (writes_slot k) v

    pub needs_fork_left : Needs w funcs Q (S (P l k) r) v → Needs w funcs Q l LeftView
    needs_fork_left n =
        let o = pair_at w funcs Q closed go reading l k r apart v n.0 n.1 n.2 n.3 n.4 n.5 n.6 n.7 in
        (o.inner, o.ls, o.here, n.3, n.4, o.now, o.one_end, fork_left v tidy ol ok n.0 n.1 n.2 n.3 n.4 n.5 n.6 n.7 o)

    pub needs_fork_right : Needs w funcs Q (S (P l k) r) v → Needs w funcs Q k RightView
    needs_fork_right n =
        let o = pair_at w funcs Q closed go reading l k r apart v n.0 n.1 n.2 n.3 n.4 n.5 n.6 n.7 in
        (o.inner, o.rs, o.here, writes l ++ n.3, n.4, o.now, o.two_end, fork_right v tidy ol ok n.0 n.1 n.2 n.3 n.4 n.5 n.6 n.7 o)

    pub owned_fork_left : Needs w funcs Q (S (P l k) r) v → Owned LeftView l
    owned_fork_left n =
        let o = pair_at w funcs Q closed go reading l k r apart v n.0 n.1 n.2 n.3 n.4 n.5 n.6 n.7 in
        own_left v tidy ol ok n.0 n.1 n.2 n.3 n.4 n.5 n.6 n.7 o

    pub owned_fork_right : Needs w funcs Q (S (P l k) r) v → Owned RightView k
    owned_fork_right n =
        let o = pair_at w funcs Q closed go reading l k r apart v n.0 n.1 n.2 n.3 n.4 n.5 n.6 n.7 in
        own_right v tidy ol ok n.0 n.1 n.2 n.3 n.4 n.5 n.6 n.7 o

    -- and what both tell is told of the par
    pub tells_forked : (a b j : ValueView) → Kept LeftView a → Kept RightView b → j ≡ joined a b → United a b j → Owned v r
        → (drawn more all : CapKind → ℕ) → Sum drawn more all → (one two : Ended) → Tells w funcs Q l LeftView a drawn one
        → Tells w funcs Q k RightView b more two → TellsPart w funcs Q (P l k) r v j all (both_ended one two)
    tells_forked a b j ka kb is un or drawn more all sum one two ta tb room body env heap base st end s =
        let o = pair_at w funcs Q closed go reading l k r apart v room body env heap base st end s in
        let lf = left_fills v tidy ol ok room body env heap base st end s o in
        let rf = right_fills v tidy ol ok room body env heap base st end s o in
        let scope = o.seq.along heap s.before in
        let whole = fills_second w o.now o.mid end.unwritten o.here heap o.ls o.rs o.parts scope o.seq.narrows Always (Makes l) (writes l) lf (λ z g. tt) (λ z i g. s.beside z (inl (inl i)) (whole_right v tidy ol ok room body env heap base st end s o z g)) Always (Makes k) (writes k) (λ z i. i) rf in
        part_end w funcs Q closed go reading room body env heap base st end o.now o.mid o.here (in_both o.parts.one o.parts.two) o.seq (P l k) r v j s apart or (joined_kept (neither l k) (writes_slot k) v tidy a b j ka kb is un) o.inner o.rest ((writes k ++ writes l) ++ heap) (o.more whole) all (both_ended one two)
        (told_forked v tidy ol ok room body env heap base st end s o a b j ka kb is un drawn more all sum one two
        (to_parts w funcs Q closed go reading l k r apart LeftView o.now o.one_end.unwritten o.parts.one o.here l a base drawn one o.one_is (ta o.inner o.ls o.here heap base o.now o.one_end (fork_left v tidy ol ok room body env heap base st end s o)))
        (to_parts w funcs Q closed go reading l k r apart RightView o.now o.two_end.unwritten o.parts.two o.here k b base more two o.two_is (tb o.inner o.rs o.here (writes l ++ heap) base o.now o.two_end (fork_right v tidy ol ok room body env heap base st end s o))))
