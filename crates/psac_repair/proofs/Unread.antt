-- What a new record reads that came of an old one: what it wrote before, or what the base has. So it reads nothing that is still to
-- be written behind it.
use Rattle.std.proofs.Common.{◌≡◌, ℕ, false, List, ◌∷◌, ◌++◌, None, ap, sym, ◌∙◌, subst, inl, inr, ⊎_elim}
use Rattle.psac_ops.specs.declared.plain.Handle.{Handle}
use Rattle.psac_ops.specs.Value.{Value}
use Rattle.psac_ops.specs.Named.{same_handle}
use Rattle.psac_syntax.specs.declared.program.Stmt.{Stmt}
use Rattle.psac_syntax.specs.declared.program.Func.{Func}
use Rattle.psac_values.specs.declared.view.ValueView.{ValueView}
use Rattle.psac_model.specs.declared.ends.End.{End}
use Rattle.psac_model.specs.declared.ends.End.TheVariants.{Done, Stop}
use Rattle.psac_model.specs.declared.ends.CapKind.{CapKind}
use Rattle.psac_model.specs.Names.{Env}
use Rattle.psac_model.specs.Tree.{Reads}
use Rattle.psac_model.specs.Expression.{Setting}
use Rattle.psac_model.specs.Run.{with_reads}
use Rattle.psac_laws.specs.Standing.{Standing, in_both}
use Rattle.psac_laws.proofs.Places.{not_true, none_some}
use Rattle.psac_traced.specs.Rec.{Rec, E, A, W, S, P, R, writes}
use Rattle.psac_traced.specs.Holds.{Holds}
use Rattle.psac_traced.specs.Places.{Makes, IsApart}
use Rattle.psac_traced.specs.Parts.{IsClosed, IsBody}
use Rattle.psac_traced.specs.Mended.{Mended, Behind}
use Rattle.psac_traced.proofs.Holds.{traced_holds}
use Rattle.psac_record.specs.Kept.{Kept as Tree, Stands, links_of, bare}
use Rattle.psac_values.specs.Knowing.{Has}
use Rattle.psac_trace.specs.Rights.{Heap, held, In, Target, Tidy, Kept}
use Rattle.psac_trace.proofs.Heaps.{handle_or, in_either}
use Rattle.psac_trace.proofs.Raised.{links_in, slots_apart}
use Rattle.psac_repair.specs.Scope.{Scope, GoesAlong, ReadsAlong, Fills}
use Rattle.psac_repair.specs.Stood.{Stood, Owned}
use Rattle.psac_repair.specs.Ended.{Good}
use Rattle.psac_repair.specs.Mends.{Needs, Tells, TellsPart}
use Rattle.psac_repair.specs.Divided.{writes_slot}
use Rattle.psac_repair.specs.Rewired.{Unread}
use Rattle.psac_repair.proofs.Fills.{fills_more, fills_second, target_right}
use Rattle.psac_repair.proofs.Before.{Always, Left, AtReader, AtPair, at_made, at_wrote, at_inner, at_reader, at_pair, no_pair, no_block, part_target, filled}
use Rattle.psac_repair.proofs.Steps.{scope_of, none_of, left_of_stood}
use Rattle.psac_repair.proofs.Tells.{stood_left}
use Rattle.psac_repair.proofs.Sides.{left_fills, sides_apart, right_out}
use Rattle.psac_repair.proofs.Forked.{Touches, slot_touch, touched_owned}

module _ (w : Setting Handle) (funcs : List Func) (Q : List Stmt → Type 0) (closed : IsClosed funcs Q) (go : GoesAlong w funcs) (reading : ReadsAlong w) where
  abbrev Here : Rec Handle → ℕ → List Stmt → Env Handle → Heap → Standing → Standing → Type 0
  Here = Left w funcs Q closed go reading

  abbrev Comes : Heap → Rec Handle → Rec Handle → End → Type 0
  Comes = Mended w funcs Q

  -- a record that comes of this one holds over its heap
  abbrev Minds : Rec Handle → Type 0
  Minds r = (room : ℕ) (body : List Stmt) (env : Env Handle) (heap : Heap) (st end : Standing) → IsApart r → Here r room body env heap st end → (new : Rec Handle) (other : Heap) (e : End) → Comes other r new e → Holds w.same other new

  -- and so does a part of it, and the rest stands somewhere
  pub record PartMinds (t r : Rec Handle) (room : ℕ) (body : List Stmt) (env : Env Handle) (heap : Heap) (st end : Standing) : Type 0 where
    pub part : (new : Rec Handle) (other : Heap) (e : End) → Comes other t new e → Holds w.same other new
    pub inner : ℕ
    pub rest : List Stmt
    pub here : Env Handle
    pub over : Heap
    pub mid : Standing
    pub more : Here r inner rest here over mid end

  behind : (e : End) (more : Type 0) (new : Rec Handle) (end : End) (other : Heap) → Behind e more new end → (more → Holds w.same other new) → Holds w.same other new
  behind Done more new end other b f = f b
  behind (Stop why line) more new end other b f = subst (Holds w.same other) (sym b.0) tt

  minds_end : Minds E
  minds_end room body env heap st end apart l E other e m = tt
  minds_end room body env heap st end apart l (A n k) other e m = absurd m
  minds_end room body env heap st end apart l (W n u k) other e m = absurd m
  minds_end room body env heap st end apart l (S t k) other e m = absurd m
  minds_end room body env heap st end apart l (P t k) other e m = absurd m
  minds_end room body env heap st end apart l (R a b c d t) other e m = absurd m

  minds_made : (m : Handle) (r : Rec Handle) → Minds r → Minds (A m r)
  minds_made m r go_on room body env heap st end apart l (A n k) other e c =
      let o = at_made w funcs Q closed go reading room body env heap st end m r apart l in
      go_on o.inner o.rest o.here heap o.mid end apart.1 o.more k other e c.1
  minds_made m r go_on room body env heap st end apart l E other e c = absurd c
  minds_made m r go_on room body env heap st end apart l (W n u k) other e c = absurd c
  minds_made m r go_on room body env heap st end apart l (S t k) other e c = absurd c
  minds_made m r go_on room body env heap st end apart l (P t k) other e c = absurd c
  minds_made m r go_on room body env heap st end apart l (R a b x d t) other e c = absurd c

  minds_wrote : (m : Handle) (v : Value Handle) (r : Rec Handle) → Minds r → Minds (W m v r)
  minds_wrote m v r go_on room body env heap st end apart l (W n u k) other e c =
      let o = at_wrote w funcs Q closed go reading room body env heap st end m v r l in
      go_on o.inner o.rest o.here ((m, v) ∷ heap) o.mid end apart o.more k ((n, u) ∷ other) e c.2
  minds_wrote m v r go_on room body env heap st end apart l E other e c = absurd c
  minds_wrote m v r go_on room body env heap st end apart l (A n k) other e c = absurd c
  minds_wrote m v r go_on room body env heap st end apart l (S t k) other e c = absurd c
  minds_wrote m v r go_on room body env heap st end apart l (P t k) other e c = absurd c
  minds_wrote m v r go_on room body env heap st end apart l (R a b x d t) other e c = absurd c

  part_inner : (t r : Rec Handle) → IsBody t → Minds t → (room : ℕ) (body : List Stmt) (env : Env Handle) (heap : Heap) (st end : Standing) → IsApart (S t r) → Here (S t r) room body env heap st end → PartMinds t r room body env heap st end
  part_inner t r b one room body env heap st end apart l =
      let o = at_inner w funcs Q closed go reading room body env heap st end t r b apart l in
      let f = filled w funcs Q closed go reading t o.inner o.first o.there heap o.names o.inner_end apart.0 o.one in
      let g = fills_more Always Always (Makes t) (Makes t) o.now o.names o.left o.inner_end.unwritten o.here o.there heap (writes t) (λ z h. h) (λ z h. h) o.out o.into f in
      record {
        part = λ new other e c. one o.inner o.first o.there heap o.names o.inner_end apart.0 o.one new other e c;
        inner = o.inner;
        rest = o.rest;
        here = o.here;
        over = writes t ++ heap;
        mid = o.mid;
        more = o.more g;
      }

  part_reader : (level number : ℕ) (saved : Env Handle) (reads : Reads Handle) (t r : Rec Handle) → Minds t → (room : ℕ) (body : List Stmt) (env : Env Handle) (heap : Heap) (st end : Standing) → IsApart (S (R level number saved reads t) r) → Here (S (R level number saved reads t) r) room body env heap st end → PartMinds (R level number saved reads t) r room body env heap st end
  part_reader level number saved reads t r one room body env heap st end apart l =
      let s = o.steps in
      let b = s.begins heap reads (o.seq.along heap l.before) o.seen in
      let f = filled w funcs Q closed go reading t level o.first (with_reads saved o.items reads) heap s.names s.inner_end apart.0 o.one in
      let g = fills_more Always Always (Makes t) (Makes t) o.now s.names s.left s.inner_end.unwritten saved (with_reads saved o.items reads) heap (writes t) (λ z h. h) (λ z h. h) b.out b.into f in
      record { part = block; inner = level; rest = o.rest; here = saved; over = writes t ++ heap; mid = s.mid; more = o.more g }
    where
      o : AtReader w funcs Q closed go reading level number saved reads t r room body env heap st end
      o = at_reader w funcs Q closed go reading room body env heap st end level number saved reads t r apart l

      block : (new : Rec Handle) (other : Heap) (e : End) → Comes other (R level number saved reads t) new e → Holds w.same other new
      block (R a x c again u) other e m = (
        m.4,
        ⊎_elim
            (λ q. one level o.first (with_reads saved o.items reads) heap o.steps.names o.steps.inner_end apart.0 o.one u other e q.1)
            (λ q. traced_holds w funcs level o.first (with_reads saved o.items again) other u e (q.1 o.stmt o.rest o.line o.items o.first o.is o.so))
            m.5,
      )
      block E other e m = absurd m
      block (A n k) other e m = absurd m
      block (W n u k) other e m = absurd m
      block (S u k) other e m = absurd m
      block (P u k) other e m = absurd m

  part_pair : (l k r : Rec Handle) → Minds l → Minds k → (room : ℕ) (body : List Stmt) (env : Env Handle) (heap : Heap) (st end : Standing) → IsApart (S (P l k) r) → Here (S (P l k) r) room body env heap st end → PartMinds (P l k) r room body env heap st end
  part_pair l k r one two room body env heap st end apart lf =
      let g = subst (λ z. Fills Always (Makes k) o.now z o.here (writes l ++ heap) (writes k)) o.two_is (filled w funcs Q closed go reading k o.inner o.rs o.here (writes l ++ heap) o.now o.two_end apart.0.1 (o.other f)) in
      let h = fills_second w o.now o.mid end.unwritten o.here heap o.ls o.rs o.parts scope o.seq.narrows Always (Makes l) (writes l) f (λ z t. tt) (λ z j t. lf.beside z (inl (inl j)) (part_target w funcs Q closed go reading st end env o.now o.mid o.here (in_both o.parts.one o.parts.two) o.seq z (target_right w o.now o.mid end.unwritten o.here heap o.ls o.rs o.parts scope o.seq.narrows z t))) Always (Makes k) (writes k) (λ z i. i) g in
      record { part = both; inner = o.inner; rest = o.rest; here = o.here; over = (writes k ++ writes l) ++ heap; mid = o.mid; more = o.more h }
    where
      o : AtPair w funcs Q closed go reading l k r room body env heap st end
      o = at_pair w funcs Q closed go reading room body env heap st end l k r apart lf

      scope : Scope w o.now end.unwritten o.here heap
      scope = o.seq.along heap lf.before

      f : Fills Always (Makes l) o.now o.parts.one o.here heap (writes l)
      f = subst (λ z. Fills Always (Makes l) o.now z o.here heap (writes l)) o.one_is (filled w funcs Q closed go reading l o.inner o.ls o.here heap o.now o.one_end apart.0.0 o.one)

      both : (new : Rec Handle) (other : Heap) (e : End) → Comes other (P l k) new e → Holds w.same other new
      both (P t u) other e m = (
        one o.inner o.ls o.here heap o.now o.one_end apart.0.0 o.one t other m.0 m.2,
        two o.inner o.rs o.here (writes l ++ heap) o.now o.two_end apart.0.1 (o.other f) u (writes t ++ other) m.1 m.3,
      )
      both E other e m = absurd m
      both (A n x) other e m = absurd m
      both (W n u x) other e m = absurd m
      both (S u x) other e m = absurd m
      both (R a b c d u) other e m = absurd m

  minds_step : (t r : Rec Handle) → ((room : ℕ) (body : List Stmt) (env : Env Handle) (heap : Heap) (st end : Standing) → IsApart (S t r) → Here (S t r) room body env heap st end → PartMinds t r room body env heap st end) → Minds r → Minds (S t r)
  minds_step t r part go_on room body env heap st end apart l (S u k) other e c =
      let p = part room body env heap st end apart l in
      (p.part u other c.0 c.1, behind c.0 _ k e (writes u ++ other) c.2 (λ m. go_on p.inner p.rest p.here p.over p.mid end apart.1 p.more k (writes u ++ other) e m))
  minds_step t r part go_on room body env heap st end apart l E other e c = absurd c
  minds_step t r part go_on room body env heap st end apart l (A n k) other e c = absurd c
  minds_step t r part go_on room body env heap st end apart l (W n u k) other e c = absurd c
  minds_step t r part go_on room body env heap st end apart l (P u k) other e c = absurd c
  minds_step t r part go_on room body env heap st end apart l (R a b x d u) other e c = absurd c

  pub minds : (r : Rec Handle) → Minds r
  minds E = minds_end
  minds (A m r) = minds_made m r (minds r)
  minds (W m v r) = minds_wrote m v r (minds r)
  minds (S (P l k) r) = minds_step (P l k) r (part_pair l k r (minds l) (minds k)) (minds r)
  minds (S (R level number saved reads t) r) = minds_step (R level number saved reads t) r (part_reader level number saved reads t r (minds t)) (minds r)
  minds (S E r) = minds_step E r (part_inner E r tt (minds E)) (minds r)
  minds (S (A m t) r) = minds_step (A m t) r (part_inner (A m t) r tt (minds (A m t))) (minds r)
  minds (S (W m v t) r) = minds_step (W m v t) r (part_inner (W m v t) r tt (minds (W m v t))) (minds r)
  minds (S (S a t) r) = minds_step (S a t) r (part_inner (S a t) r tt (minds (S a t))) (minds r)
  minds (P l k) = λ room body env heap st end apart lf. absurd (no_pair w funcs Q closed go reading room body env heap st end l k lf.so lf.meets lf.before lf.left_it)
  minds (R level number saved reads t) = λ room body env heap st end apart lf. absurd (no_block w funcs Q closed go reading room body env heap st end level number saved reads t lf.so lf.meets lf.before lf.left_it)

  pub part_minds : (t r : Rec Handle) (room : ℕ) (body : List Stmt) (env : Env Handle) (heap : Heap) (st end : Standing) → IsApart (S t r) → Here (S t r) room body env heap st end → PartMinds t r room body env heap st end
  part_minds (P l k) r = part_pair l k r (minds l) (minds k)
  part_minds (R level number saved reads t) r = part_reader level number saved reads t r (minds t)
  part_minds E r = part_inner E r tt (minds E)
  part_minds (A m t) r = part_inner (A m t) r tt (minds (A m t))
  part_minds (W m v t) r = part_inner (W m v t) r tt (minds (W m v t))
  part_minds (S a t) r = part_inner (S a t) r tt (minds (S a t))

  -- what a record touches, its base has not
  touched_none : (v : ValueView) (r : Rec Handle) (room : ℕ) (body : List Stmt) (env : Env Handle) (heap base : Heap) (st end : Standing) → IsApart r → Stood w funcs Q v r room body env heap base st end → (m : Handle) → Touches r m → held base m ≡ None
  touched_none v r room body env heap base st end apart s m (inl i) = s.unused m i
  touched_none v r room body env heap base st end apart s m (inr i) =
      let f = filled w funcs Q closed go reading r room body env heap st end apart (left_of_stood w funcs Q closed go reading v r room body env heap base st end s) in
      elim (f.spares m tt i) [
        | inl t ↦ none_of w st end.unwritten env base (scope_of w st end.unwritten env v base s.ready) m t
        | inr k ↦ s.unused m k
      ]

  -- reads of what the base has are of nothing that the record is still to write
  unread_over : (v u : ValueView) (k : Tree) (room : ℕ) (body : List Stmt) (env : Env Handle) (heap base : Heap) (st end : Standing) → IsApart (bare k) → Owned v (bare k) → Kept v u → Stood w funcs Q u (bare k) room body env heap base st end → (s : Stands) → In base s.of → writes_slot (bare k) s.of.slot ≡ false
  unread_over v u k room body env heap base st end apart ow kept s r i =
      not_true (writes_slot (bare k) r.of.slot) (λ t.
      let n = slot_touch (bare k) r.of.slot t in
      let none = touched_none u (bare k) room body env heap base st end apart s n.0 n.1 in
      let has = kept.mine n.0 (touched_owned v (bare k) ow n.0 n.1) in
      elim (handle_or r.of n.0) [
        | inl e ↦ none_some (sym none ∙ ap (held base) (sym e) ∙ i.1)
        | inr d ↦ slots_apart u kept.tidy r.of n.0 i.0 (s.ready.sees r.of i.0 i.1) has d.0 (sym n.2)
      ])

  pub unread_behind : (same : w.same ≡ same_handle) (v u : ValueView) (t k new : Tree) (drawn : CapKind → ℕ) → IsApart (S (bare t) (bare k))
      → Owned v (bare k) → Kept v u → Needs w funcs Q (S (bare t) (bare k)) v
      → TellsPart w funcs Q (bare t) (bare k) v u drawn (Good (bare new)) → Unread (links_of new) k
  unread_behind same v u t k new drawn apart ow kept n told s i =
      let p = told n.0 n.1 n.2 n.3 n.4 n.5 n.6 n.7 in
      let q = part_minds (bare t) (bare k) n.0 n.1 n.2 n.3 n.5 n.6 apart (left_of_stood w funcs Q closed go reading v (S (bare t) (bare k)) n.0 n.1 n.2 n.3 n.4 n.5 n.6 n.7) in
      let h = q.part (bare new) n.4 Done (p.10.run n.4 (λ m x e. e)) in
      let inside = links_in n.4 new (subst (λ z. Holds z n.4 (bare new)) same h) s i in
      unread_over v u k p.0 p.1 p.2 p.3 p.4 p.5 p.6 apart.1 ow kept p.7 s (subst (λ z. In z s.of) (sym p.9) inside)

  -- and so it is with both sides of a par in turn
  module _ (same : w.same ≡ same_handle) (v u : ValueView) (l k new : Tree) (r : Rec Handle) (drawn : CapKind → ℕ) (apart : IsApart (S (P (bare l) (bare k)) r)) (tidy : Tidy v) (ol : Owned v (bare l)) (ok : Owned v (bare k)) (kept : Kept v u) where
    side_at : (room : ℕ) (body : List Stmt) (env : Env Handle) (heap base : Heap) (st end : Standing)
        → Stood w funcs Q v (S (P (bare l) (bare k)) r) room body env heap base st end
        → Tells w funcs Q (bare l) v u drawn (Good (bare new)) → Unread (links_of new) k
    side_at room body env heap base st end s told x i =
        let o = at_pair w funcs Q closed go reading room body env heap st end (bare l) (bare k) r apart (left_of_stood w funcs Q closed go reading v (S (P (bare l) (bare k)) r) room body env heap base st end s) in
        let t = told o.inner o.ls o.here heap base o.now o.one_end (stood_left w funcs Q closed go reading (bare l) (bare k) r apart v room body env heap base st end s o) in
        let h = minds (bare l) o.inner o.ls o.here heap o.now o.one_end apart.0.0 o.one (bare new) base Done (t.0.run base (λ m y e. e)) in
        let inside = links_in base new (subst (λ z. Holds z base (bare new)) same h) x i in
        let fills = left_fills w funcs Q closed go reading (bare l) (bare k) r apart v tidy ol ok room body env heap base st end s o in
        let touched : (m : Handle) → Has v m → In (writes (bare new)) m → Touches (bare l) m = λ m has j. elim (t.1.fills.spares m has j) [
          | inl y ↦ inr (fills.done m (subst (λ z. Target o.now z o.here m) o.one_is y))
          | inr y ↦ inl y
        ] in
        not_true (writes_slot (bare k) x.of.slot) (λ e.
        let n = slot_touch (bare k) x.of.slot e in
        let has = touched_owned v (bare k) ok n.0 n.1 in
        elim (handle_or x.of n.0) [
          | inl f ↦
              (let here : In (writes (bare new) ++ base) n.0 = subst (In (writes (bare new) ++ base)) f inside in
              elim (in_either (writes (bare new)) base n.0 here) [
                | inl a ↦ sides_apart w funcs Q closed go reading (bare l) (bare k) r apart v tidy ol ok room body env heap base st end s o n.0 (touched n.0 has a) n.1
                | inr b ↦ none_some (sym (right_out w funcs Q closed go reading (bare l) (bare k) r apart v tidy ol ok room body env heap base st end s o n.0 n.1) ∙ b.1)
              ])
          | inr d ↦ slots_apart u kept.tidy x.of n.0 inside.0 (t.1.sees x.of inside.0 inside.1) (kept.mine n.0 has) d.0 (sym n.2)
        ])

    pub unread_beside : Needs w funcs Q (S (P (bare l) (bare k)) r) v → Tells w funcs Q (bare l) v u drawn (Good (bare new))
        → Unread (links_of new) k
    unread_beside n told = side_at n.0 n.1 n.2 n.3 n.4 n.5 n.6 n.7 told
