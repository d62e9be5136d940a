-- What a repair tells of a record, from what it tells of the record's parts.
use Rattle.std.proofs.Common.{◌≡◌, ◌≢◌, ◌⊎◌, ℕ, suc, zero, Bool, List, [], ◌∷◌, ◌++◌, Some, None, Contains, AllPairs, Option, length, ◌<◌, get_or, arith, refl, ap, sym, ◌∙◌, subst, inl, inr, ⊎_elim, append_assoc}
use Rattle.std.proofs.lemmas.List.Elements.{Contains-append_cases}
use Rattle.psac_ops.specs.declared.plain.Handle.{Handle}
use Rattle.psac_ops.specs.Value.{Value}
use Rattle.psac_syntax.specs.declared.program.Stmt.{Stmt}
use Rattle.psac_syntax.specs.declared.program.Func.{Func}
use Rattle.psac_values.specs.declared.view.ValueView.{ValueView}
use Rattle.psac_values.specs.Steps.{Lacks}
use Rattle.psac_values.specs.Knowing.{Has}
use Rattle.psac_slots.specs.Handles.{Member}
use Rattle.psac_model.specs.declared.ends.CapKind.{CapKind}
use Rattle.psac_model.specs.declared.ends.End.{End}
use Rattle.psac_model.specs.declared.ends.End.TheVariants.{Done, Stop}
use Rattle.psac_model.specs.Names.{Env}
use Rattle.psac_model.specs.Expression.{Setting}
use Rattle.psac_model.specs.Series.{has}
use Rattle.psac_laws.specs.Standing.{Standing}
use Rattle.psac_traced.specs.Rec.{Rec, E, A, W, S, P, R, writes}
use Rattle.psac_traced.specs.Places.{Makes, IsApart}
use Rattle.psac_traced.specs.Parts.{IsClosed}
use Rattle.psac_traced.specs.Mending.{mended}
use Rattle.psac_traced.specs.Mended.{Mended}
use Rattle.psac_cut_repair.specs.CutMended.{CutMended}
use Rattle.psac_trace.specs.Rights.{Heap, held, In, Within, Wider, Sees, Target, Ready, Kept}
use Rattle.psac_repair.specs.Ended.{Ended, Good, Fault, Other, then_ended}
use Rattle.psac_trace.specs.Laws.{NewMade}
use Rattle.psac_trace.specs.Grown.{Cause}
use Rattle.psac_trace.proofs.Results.{ref_is}
use Rattle.psac_trace.proofs.Heaps.{in_or_not, in_and_none, held_back, held_either, in_front, in_back, in_either, one_is, at_one, within_front, Fresh, fresh_then}
use Rattle.psac_repair.specs.Scope.{Scope, GoesAlong, ReadsAlong, Fills}
use Rattle.psac_repair.specs.Stood.{Stood, Owned}
use Rattle.psac_repair.specs.Mends.{Still, Renewed, Told, PartEnd}
use Rattle.psac_repair.proofs.Drawing.{Draw, DrawMost, Sum, draw_both, most_behind, draw_stop, most_stop}
use Rattle.psac_repair.proofs.Fills.{fills_more}
use Rattle.psac_repair.proofs.Before.{Left, Sequel, AtMade, AtWrote, wrote_fills, part_target, rest_target, part_not_rest, seq_scope, seq_fills, rest_unmade, filled}

-- a place that a pass is ready for, and what is in scope there
pub scope_of : (w : Setting Handle) (st : Standing) (left : List ℕ) (env : Env Handle) (v : ValueView) (base : Heap) → Ready w st left env v base → Scope w st left env base
scope_of w st left env v base r =
    record {
      same = r.same;
      closed = r.closed;
      cells = r.cells;
      row_count = r.row_count;
      knows = r.knows;
      opens = λ x u e. let b = r.opens x u e in (b.0, b.1, b.2);
      apart = r.apart;
    }

pub has_of : (w : Setting Handle) (st : Standing) (left : List ℕ) (env : Env Handle) (v : ValueView) (base : Heap) → Ready w st left env v base → (m : Handle) → Target st left env m → Has v m
has_of w st left env v base r m t = let o = r.opens t.0 t.1 t.2 in subst (Has v) (ref_is (sym o.1 ∙ t.3)) o.3

pub none_of : (w : Setting Handle) (st : Standing) (left : List ℕ) (env : Env Handle) (base : Heap) → Scope w st left env base → (m : Handle) → Target st left env m → held base m ≡ None
none_of w st left env base r m t = let o = r.opens t.0 t.1 t.2 in subst (λ z. held base z ≡ None) (ref_is (sym o.1 ∙ t.3)) o.2

pub ready_from : (w : Setting Handle) (st : Standing) (left : List ℕ) (env : Env Handle) (v : ValueView) (base : Heap) → Scope w st left env base → Within base (Sees v) → ((m : Handle) → Target st left env m → Has v m) → Ready w st left env v base
ready_from w st left env v base r sees had =
    record {
      same = r.same;
      closed = r.closed;
      cells = r.cells;
      row_count = r.row_count;
      sees = sees;
      knows = r.knows;
      opens = λ x u e. let b = r.opens x u e in (b.0, b.1, b.2, had b.0 (x, u, e, b.1));
      apart = r.apart;
    }

-- what is seen in front of what isn't written is seen
pub within_base : (ws base : Heap) (u : ValueView) → Fresh ws base → Within (ws ++ base) (Sees u) → Within base (Sees u)
within_base ws base u f s m x e =
    ⊎_elim
    (λ (i : In ws m). in_and_none base m (x, e) (f m i))
    (λ (n : held ws m ≡ None). s m x (held_back ws base m n ∙ e))
    (in_or_not ws m)

-- what a pass has or shares it doesn't lack
pub had_not_lacked : (v : ValueView) (m : Handle) → Has v m → Lacks v m.slot → ⊥
had_not_lacked v m h l = l.mine h.0 h.1 (ap (λ (z : Handle). z.slot) h.2)

-- what a record made the pass has
pub made_owned : (v : ValueView) (r : Rec Handle) → Owned v r → (m : Handle) → Makes r m → Has v m
made_owned v E o m i = absurd i
made_owned v (A k r) o m (inl e) = subst (Has v) e o.0
made_owned v (A k r) o m (inr i) = made_owned v r o.1 m i
made_owned v (W k x r) o m i = made_owned v r o.2 m i
made_owned v (S t r) o m (inl i) = made_owned v t o.0 m i
made_owned v (S t r) o m (inr i) = made_owned v r o.1 m i
made_owned v (P l r) o m (inl i) = made_owned v l o.0 m i
made_owned v (P l r) o m (inr i) = made_owned v r o.1 m i
made_owned v (R room block env reads t) o m i = made_owned v t o m i

-- what is owned stays so where the pass keeps what it had, and the words of what the record wrote
pub owned_still : (v u : ValueView) → ((m : Handle) → Has v m → Has u m) → (r : Rec Handle) → ((m : Handle) (x : Value Handle) → In (writes r) m → Has v m → Sees v m x → Sees u m x) → Owned v r → Owned u r
owned_still v u has E f o = tt
owned_still v u has (A k r) f o = (has k o.0, owned_still v u has r f o.1)
owned_still v u has (W k y r) f o =
    (has k o.0, f k y (in_back (writes r) ((k, y) ∷ []) k (y, at_one k y)) o.0 o.1, owned_still v u has r (λ m x i. f m x (in_front (writes r) ((k, y) ∷ []) m i)) o.2)
owned_still v u has (S t r) f o =
    (owned_still v u has t (λ m x i. f m x (in_back (writes r) (writes t) m i)) o.0, owned_still v u has r (λ m x i. f m x (in_front (writes r) (writes t) m i)) o.1)
owned_still v u has (P l r) f o =
    (owned_still v u has l (λ m x i. f m x (in_back (writes r) (writes l) m i)) o.0, owned_still v u has r (λ m x i. f m x (in_front (writes r) (writes l) m i)) o.1)
owned_still v u has (R room block env reads t) f o = owned_still v u has t f o

-- two lists in which nothing stands twice, and nothing in both
get_or_any : {X : Type 0} (xs : List X) (j : ℕ) (c d : X) → j < length xs → get_or xs j c ≡ get_or xs j d
get_or_any [] j c d lt = absurd (omega (arith, lt))
get_or_any (x ∷ xs) zero c d lt = refl
get_or_any (x ∷ xs) (suc j) c d lt = get_or_any xs j c d (omega (arith, lt))

pub distinct_append : (xs ys : List Handle) → AllPairs (λ x y. x ≢ y) xs → AllPairs (λ x y. x ≢ y) ys → ((m : Handle) → Contains xs m → Contains ys m → ⊥) → AllPairs (λ x y. x ≢ y) (xs ++ ys)
distinct_append [] ys a b c i j d lt lj = b i j d lt lj
distinct_append (x ∷ xs) ys a b c i zero d lt lj = absurd (omega (arith, lt))
distinct_append (x ∷ xs) ys a b c zero (suc j) d lt lj =
    λ e.
    let lk : j < length (xs ++ ys) = omega (arith, lj) in
    elim (Contains-append_cases xs ys x (j, lk, get_or_any (xs ++ ys) j x d lk ∙ sym e)) [
      | inl k ↦ a 0 (suc k.0) x (omega arith) (let l = k.1 in omega (arith, l)) (sym k.2)
      | inr k ↦ c x (0, omega arith, refl) k
    ]
distinct_append (x ∷ xs) ys a b c (suc i) (suc j) d lt lj =
    distinct_append xs ys (λ p q z l m. a (suc p) (suc q) z (omega (arith, l)) (omega (arith, m))) b (λ m k. c m (suc k.0, (let l = k.1 in omega (arith, l)), k.2)) i j d (omega (arith, lt)) (omega (arith, lj))

-- what was made first and what was made then
pub made_then : (v u x : ValueView) (xs ys : List Handle) → Kept v u → Kept u x → NewMade v u xs → NewMade u x ys → NewMade v x (xs ++ ys)
made_then v u x xs ys kv ku a b =
    record {
      distinct = distinct_append xs ys a.distinct b.distinct (λ m i j. had_not_lacked u m (a.has m i) (b.lacked m j));
      lacked = λ m i.
          elim (Contains-append_cases xs ys m i) [
            | inl j ↦ a.lacked m j
            | inr j ↦
                (let l = b.lacked m j in
                record {
                  mine = λ z k e. (let h = kv.mine z.of (z, k, refl) in l.mine h.0 h.1 (ap (λ (y : Handle). y.slot) h.2 ∙ e));
                  known = λ z k. l.known z (subst (Member z) (sym kv.known) k);
                })
          ];
      has = λ m i. elim (Contains-append_cases xs ys m i) [ inl j ↦ ku.mine m (a.has m j) | inr j ↦ b.has m j ];
    }

pub made_none : (v u : ValueView) → NewMade v u []
made_none v u =
    record {
      distinct = λ i j d lt lj. absurd (omega (arith, lj));
      lacked = λ m i. absurd (let l = i.1 in omega (arith, l));
      has = λ m i. absurd (let l = i.1 in omega (arith, l));
    }

-- nothing was made where nothing is new
created_none : (same : Handle → Handle → Bool) (r : Rec Handle) → (mended same r E).created ≡ []
created_none same E = refl
created_none same (A m r) = refl
created_none same (W m v r) = refl
created_none same (S t r) = refl
created_none same (P t r) = refl
created_none same (R room block env reads t) = refl

append_none : (xs : List Handle) → xs ++ [] ≡ xs
append_none [] = refl
append_none (x ∷ xs) = ap (λ z. x ∷ z) (append_none xs)

module _ (w : Setting Handle) (funcs : List Func) (Q : List Stmt → Type 0) (closed : IsClosed funcs Q) (go : GoesAlong w funcs) (reading : ReadsAlong w) where
  abbrev pub Here : Rec Handle → ℕ → List Stmt → Env Handle → Heap → Standing → Standing → Type 0
  Here = Left w funcs Q closed go reading

  pub left_of_stood : (v : ValueView) (old : Rec Handle) (room : ℕ) (body : List Stmt) (env : Env Handle) (heap base : Heap) (st end : Standing) → Stood w funcs Q v old room body env heap base st end → Here old room body env heap st end
  left_of_stood v old room body env heap base st end s = record { so = s.so; meets = s.meets; left_it = s.left_it; before = s.before; unmade = s.unmade; beside = s.beside }

  -- one part before what another tells
  lift_told : (old inner : Rec Handle) (f : Rec Handle → Rec Handle) (st sr : Standing) (left lr : List ℕ) (env here : Env Handle) (v x u : ValueView) (base basis : Heap) (drawn all : CapKind → ℕ)
      → ((other : Heap) → Wider base other → (new : Rec Handle) (end : End) → ((o : Heap) → Wider basis o → Mended w funcs Q o inner new end) → Mended w funcs Q other old (f new) end)
      → ((new : Rec Handle) → Fresh (writes new) basis → Fresh (writes (f new)) base)
      → ((new : Rec Handle) → Renewed sr lr here inner x u basis (writes new) → Renewed st left env old v u base (writes (f new)))
      → (Still sr lr here inner x u → Still st left env old v u)
      → (Within basis (Sees u) → Within base (Sees u))
      → ((new : Rec Handle) → NewMade x u (mended w.same inner new).created → NewMade v u (mended w.same old (f new)).created)
      → ((other : Heap) → Wider base other → (new : Rec Handle) (n : ℕ) → ((o : Heap) → Wider basis o → CutMended w funcs Q o inner new n) → CutMended w funcs Q other old (f new) n)
      → ((new : Rec Handle) → Draw drawn (mended w.same inner new).added → Draw all (mended w.same old (f new)).added)
      → ((new : Rec Handle) (n : ℕ) → DrawMost drawn (mended w.same inner new).added n → DrawMost all (mended w.same old (f new)).added n)
      → (e : Ended) → Told w funcs Q sr lr here inner x u basis drawn e → Told w funcs Q st left env old v u base all (then_ended f e)
  lift_told old inner f st sr left lr env here v x u base basis drawn all run fresh renewed still sees created cut draws most (Good new) t =
      (record { run = λ other wi. run other wi new Done t.0.run; fresh = fresh new t.0.fresh }, renewed new t.1, still t.2, created new t.3, draws new t.4)
  lift_told old inner f st sr left lr env here v x u base basis drawn all run fresh renewed still sees created cut draws most (Fault k n) t =
      (f t.0, record { run = λ other wi. run other wi t.0 (Stop k n) t.1.run; fresh = fresh t.0 t.1.fresh }, sees t.2, still t.3, created t.0 t.4, draws t.0 t.5)
  lift_told old inner f st sr left lr env here v x u base basis drawn all run fresh renewed still sees created cut draws most (Other why) t =
      (f t.0, t.1, record { run = λ other wi. cut other wi t.0 t.1 t.2.run }, created t.0 t.3, most t.0 t.1 t.4, sees t.5)

  -- a part whose destinations are those of another place
  pub told_into : (old : Rec Handle) (st sr : Standing) (left lr : List ℕ) (env here : Env Handle) (v u : ValueView) (base : Heap) (drawn : CapKind → ℕ)
      → ((m : Handle) → Target sr lr here m → Target st left env m) → ((m : Handle) → Target st left env m → Target sr lr here m)
      → (e : Ended) → Told w funcs Q sr lr here old v u base drawn e → Told w funcs Q st left env old v u base drawn e
  told_into old st sr left lr env here v u base drawn into out (Good new) t = (
    t.0,
    record {
      fills = record { closed = t.1.fills.closed; done = λ m k. t.1.fills.done m (out m k); spares = λ m h i. elim (t.1.fills.spares m h i) [ inl a ↦ inl (into m a) | inr b ↦ inr b ] };
      sees = t.1.sees;
      owned = t.1.owned;
    },
    λ m x h n k s. t.2 m x h (λ a. n (into m a)) k s,
    t.3,
    t.4,
  )
  told_into old st sr left lr env here v u base drawn into out (Fault k n) t = (t.0, t.1, t.2, λ m x h no ma s. t.3 m x h (λ a. no (into m a)) ma s, t.4, t.5)
  told_into old st sr left lr env here v u base drawn into out (Other why) t = t

  module _ (room : ℕ) (body : List Stmt) (env : Env Handle) (heap base : Heap) (st end : Standing) where
    -- behind a `new`
    pub stood_made : (v : ValueView) (m : Handle) (r : Rec Handle) → Has v m → Stood w funcs Q v (A m r) room body env heap base st end → (o : AtMade w funcs Q closed go reading m r room body env heap st end) → Stood w funcs Q v r o.inner o.rest o.here heap base o.mid end
    stood_made v m r h s o =
        record {
          so = o.more.so;
          meets = o.more.meets;
          left_it = o.more.left_it;
          before = o.more.before;
          ready = ready_from w o.mid end.unwritten o.here v base (o.along base (scope_of w st end.unwritten env v base s.ready) (s.unused m (inl refl))) s.ready.sees (λ k t. elim (o.into k t) [ inl a ↦ has_of w st end.unwritten env v base s.ready k a | inr e ↦ subst (Has v) e h ]);
          unmade = o.more.unmade;
          unused = λ k i. s.unused k (inr i);
          beside = o.more.beside;
        }

    pub told_made : (v u : ValueView) (m : Handle) (r : Rec Handle) → (o : AtMade w funcs Q closed go reading m r room body env heap st end)
        → (drawn : CapKind → ℕ) (e : Ended) → Told w funcs Q o.mid end.unwritten o.here r v u base drawn e
        → Told w funcs Q st end.unwritten env (A m r) v u base drawn (then_ended (A m) e)
    told_made v u m r o drawn =
        lift_told (A m r) r (A m) st o.mid end.unwritten end.unwritten env o.here v v u base base drawn drawn
        (λ other wi new last g. (refl, g other wi))
        (λ new f. f)
        (λ new t. record {
          fills = record {
            closed = t.fills.closed;
            done = λ k g. t.fills.done k (o.out k g);
            spares = λ k h i. elim (t.fills.spares k h i) [ inl a ↦ elim (o.into k a) [ inl b ↦ inl b | inr b ↦ inr (inl b) ] | inr b ↦ inr (inr b) ];
          };
          sees = t.sees;
          owned = t.owned;
        })
        (λ t k x h no ma s. t k x h (λ g. elim (o.into k g) [ inl a ↦ no a | inr b ↦ ma (inl b) ]) (λ i. ma (inr i)) s)
        (λ s. s)
        (λ new t. t)
        (λ other wi new n g. (refl, g other wi))
        (λ new d. d)
        (λ new n d. d)

    -- behind a write
    pub stood_wrote : (v : ValueView) (m : Handle) (y : Value Handle) (r : Rec Handle) → Sees v m y → Owned v r → Stood w funcs Q v (W m y r) room body env heap base st end → (o : AtWrote w funcs Q closed go reading m y r room body env heap st end) → Stood w funcs Q v r o.inner o.rest o.here ((m, y) ∷ heap) ((m, y) ∷ base) o.mid end
    stood_wrote v m y r sy ow s o =
        let sc = scope_of w st end.unwritten env v base s.ready in
        let had = has_of w st end.unwritten env v base s.ready in
        let one = wrote_fills w funcs Q closed go reading room body env heap st end m y r o (Has v) (λ z. ⊥) base sc in
        record {
          so = o.more.so;
          meets = o.more.meets;
          left_it = o.more.left_it;
          before = o.more.before;
          ready = ready_from w o.mid end.unwritten o.here v ((m, y) ∷ base)
              (seq_scope w funcs Q closed go reading st end env o.now o.mid o.here o.left o.seq (Has v) (λ z. ⊥) base ((m, y) ∷ []) sc had one (λ z e t. e))
              (λ k x e. ⊎_elim
              (λ (g : held ((m, y) ∷ []) k ≡ Some x). let z = one_is m k y x g in subst (λ c. Sees v k c) z.1 (subst (λ c. Sees v c y) z.0 sy))
              (λ (g : (held ((m, y) ∷ []) k ≡ None) × (held base k ≡ Some x)). s.ready.sees k x g.1)
              (held_either ((m, y) ∷ []) base k x e))
              (λ k t. had k (rest_target w funcs Q closed go reading st end env o.now o.mid o.here o.left o.seq k t));
          unmade = o.more.unmade;
          unused = rest_unmade w funcs Q closed go reading st end env o.now o.mid o.here o.left o.seq (Has v) (λ z. ⊥) (Makes r) base ((m, y) ∷ []) (λ z j. made_owned v r ow z j) one s.unused s.beside (λ z e j. e);
          beside = o.more.beside;
        }

    renewed_seq : (now mid : Standing) (here : Env Handle) (left : List ℕ) (q : Sequel w funcs Q closed go reading st end env now mid here left) (K : Handle → Type 0) (old r : Rec Handle) (v x u : ValueView) (one more : Heap) → ((m : Handle) → Has v m → Has x m) → ((m : Handle) → K m ⊎ Makes r m → Makes old m) → Fills (Has v) K now left here base one → ((m : Handle) → In one m → Has u m) → Renewed mid end.unwritten here r x u (one ++ base) more → Renewed st end.unwritten env old v u base (more ++ one)
    renewed_seq now mid here left q K old r v x u one more had into f own t =
        let same = append_assoc more one base in
        record {
          fills = fills_more (Has v) (Has v) (λ m. K m ⊎ Makes r m) (Makes old) st st end.unwritten end.unwritten env env base (more ++ one) (λ m h. h) into (λ m g. g) (λ m g. g)
              (seq_fills w funcs Q closed go reading st end env now mid here left q (Has v) (Has x) K (Makes r) base one more had f t.fills);
          sees = λ m c e. t.sees m c (ap (λ h. held h m) (sym same) ∙ e);
          owned = λ m i. elim (in_either more one m i) [ inl a ↦ t.owned m a | inr b ↦ own m b ];
        }

    pub told_wrote : (v u : ValueView) (m : Handle) (y : Value Handle) (r : Rec Handle) → Has v m → Kept v u
        → Scope w st end.unwritten env base → (o : AtWrote w funcs Q closed go reading m y r room body env heap st end)
        → (drawn : CapKind → ℕ) (e : Ended) → Told w funcs Q o.mid end.unwritten o.here r v u ((m, y) ∷ base) drawn e
        → Told w funcs Q st end.unwritten env (W m y r) v u base drawn (then_ended (W m y) e)
    told_wrote v u m y r h k sc o drawn =
        let one : Heap = (m, y) ∷ [] in
        let empty : held base m ≡ None = none_of w st end.unwritten env base sc m (part_target w funcs Q closed go reading st end env o.now o.mid o.here o.left o.seq m o.target) in
        let fresh : Fresh one base = λ n i. subst (λ z. held base z ≡ None) (one_is m n y i.0 i.1).0 empty in
        let f = wrote_fills w funcs Q closed go reading room body env heap st end m y r o (Has v) (λ z. ⊥) base sc in
        lift_told (W m y r) r (W m y) st o.mid end.unwritten end.unwritten env o.here v v u base ((m, y) ∷ base) drawn drawn
        (λ other wi new last g. (refl, refl, g ((m, y) ∷ other) (within_front one base other wi)))
        (λ new g. fresh_then base one (writes new) fresh g)
        (λ new t. renewed_seq o.now o.mid o.here o.left o.seq (λ z. ⊥) (W m y r) r v v u one (writes new) (λ z i. i) (λ z i. elim i [ inl a ↦ absurd a | inr b ↦ b ]) f (λ z i. subst (Has u) (one_is m z y i.0 i.1).0 (k.mine m h)) t)
        (λ t z x g no ma s. t z x g (λ q. no (rest_target w funcs Q closed go reading st end env o.now o.mid o.here o.left o.seq z q)) ma s)
        (within_base one base u fresh)
        (λ new t. t)
        (λ other wi new n g. (refl, refl, g ((m, y) ∷ other) (within_front one base other wi)))
        (λ new d. d)
        (λ new n d. d)

    -- a part, and the rest
    module _ (now mid : Standing) (here : Env Handle) (left : List ℕ) (q : Sequel w funcs Q closed go reading st end env now mid here left) where
      module _ (t r : Rec Handle) (v u : ValueView) (new : Rec Handle) (s : Stood w funcs Q v (S t r) room body env heap base st end) (apart : IsApart (S t r)) (ow : Owned v r) (k : Kept v u) (drawn : CapKind → ℕ) (told : Told w funcs Q now left here t v u base drawn (Good new)) where
        part_in : (m : Handle) → Target now left here m → Target st end.unwritten env m
        part_in = part_target w funcs Q closed go reading st end env now mid here left q

        rest_in : (m : Handle) → Target mid end.unwritten here m → Target st end.unwritten env m
        rest_in = rest_target w funcs Q closed go reading st end env now mid here left q

        scope_here : Scope w st end.unwritten env base
        scope_here = scope_of w st end.unwritten env v base s.ready

        had_here : (m : Handle) → Target st end.unwritten env m → Has v m
        had_here = has_of w st end.unwritten env v base s.ready

        pub stood_next : (inner : ℕ) (rest : List Stmt) (over : Heap) → Here r inner rest here over mid end → Stood w funcs Q u r inner rest here over (writes new ++ base) mid end
        stood_next inner rest over l =
            record {
              so = l.so;
              meets = l.meets;
              left_it = l.left_it;
              before = l.before;
              ready = ready_from w mid end.unwritten here u (writes new ++ base)
                  (seq_scope w funcs Q closed go reading st end env now mid here left q (Has v) (Makes t) base (writes new) scope_here had_here told.1.fills (λ m i g. s.beside m (inl i) g))
                  told.1.sees
                  (λ m g. k.mine m (had_here m (rest_in m g)));
              unmade = l.unmade;
              unused = rest_unmade w funcs Q closed go reading st end env now mid here left q (Has v) (Makes t) (Makes r) base (writes new) (λ m i. made_owned v r ow m i) told.1.fills (λ m i. s.unused m (inr i)) (λ m i. s.beside m (inr i)) apart.2;
              beside = l.beside;
            }

        pub owned_next : (inner : ℕ) (rest : List Stmt) (over : Heap) → Here r inner rest here over mid end → Owned u r
        owned_next inner rest over l =
            let f = filled w funcs Q closed go reading r inner rest here over mid end apart.1 l in
            owned_still v u k.mine r (λ m x i h sx. told.2 m x h
            (λ g. elim (f.spares m tt i) [ inl a ↦ part_not_rest w funcs Q closed go reading st end env now mid here left q base scope_here m g a | inr b ↦ s.beside m (inr b) (part_in m g) ])
            (λ g. elim (f.spares m tt i) [ inl a ↦ s.beside m (inl g) (rest_in m a) | inr b ↦ apart.2 m g b ])
            sx) ow

        pub told_next : (x : ValueView) → Kept u x → (more all : CapKind → ℕ) → Sum drawn more all → (e : Ended)
            → Told w funcs Q mid end.unwritten here r u x (writes new ++ base) more e
            → Told w funcs Q st end.unwritten env (S t r) v x base all (then_ended (S new) e)
        told_next x kx more all sum =
            lift_told (S t r) r (S new) st mid end.unwritten end.unwritten env here v u x base (writes new ++ base) more all
            (λ other wi more last g. (Done, told.0.run other wi, g (writes new ++ other) (within_front (writes new) base other wi)))
            (λ more f. fresh_then base (writes new) (writes more) told.0.fresh f)
            (λ more t2. renewed_seq now mid here left q (Makes t) (S t r) r v u x (writes new) (writes more) k.mine (λ m i. i) told.1.fills (λ m i. kx.mine m (told.1.owned m i)) t2)
            (λ t2 m c h no ma sm. t2 m c (k.mine m h) (λ g. no (rest_in m g)) (λ i. ma (inr i)) (told.2 m c h (λ g. no (part_in m g)) (λ i. ma (inl i)) sm))
            (within_base (writes new) base x told.0.fresh)
            (λ more c. made_then v u x (mended w.same t new).created (mended w.same r more).created k kx told.3 c)
            (λ other wi last n g. inr (told.0.run other wi, g (writes new ++ other) (within_front (writes new) base other wi)))
            (λ last d. draw_both drawn more all (mended w.same t new).added (mended w.same r last).added sum told.4 d)
            (λ last n d. most_behind drawn more all (mended w.same t new).added (mended w.same r last).added n sum told.4 d)

      -- where the part stops, so does the whole
      pub told_stop : (t r : Rec Handle) (v u : ValueView) (drawn : CapKind → ℕ) (kind : _) (line : ℕ)
          → Told w funcs Q now left here t v u base drawn (Fault kind line)
          → Told w funcs Q st end.unwritten env (S t r) v u base drawn (Fault kind line)
      told_stop t r v u drawn kind line told = (
        S told.0 E,
        record { run = λ other wi. (Stop kind line, told.1.run other wi, (refl, refl)); fresh = told.1.fresh },
        told.2,
        λ m c h no ma sm. told.3 m c h (λ g. no (part_target w funcs Q closed go reading st end env now mid here left q m g)) (λ i. ma (inl i)) sm,
        subst (NewMade v u) (sym (ap (λ z. (mended w.same t told.0).created ++ z) (created_none w.same r) ∙ append_none (mended w.same t told.0).created)) told.4,
        draw_stop w.same drawn (mended w.same t told.0).added r told.5,
      )

      -- and where it was cut short, the rest isn't reached
      pub told_cut : (t r : Rec Handle) (v u : ValueView) (drawn : CapKind → ℕ) (why : Option Cause)
          → Told w funcs Q now left here t v u base drawn (Other why)
          → Told w funcs Q st end.unwritten env (S t r) v u base drawn (Other why)
      told_cut t r v u drawn why told = (
        S told.0 E,
        told.1,
        record { run = λ other wi. inl (told.2.run other wi, refl) },
        subst (NewMade v u) (sym (ap (λ z. (mended w.same t told.0).created ++ z) (created_none w.same r) ∙ append_none (mended w.same t told.0).created)) told.3,
        most_stop w.same drawn (mended w.same t told.0).added r told.1 told.4,
        told.5,
      )

      -- what a part before the rest leaves
      pub part_end : (t r : Rec Handle) (v u : ValueView) → Stood w funcs Q v (S t r) room body env heap base st end → IsApart (S t r)
          → Owned v r → Kept v u → (inner : ℕ) (rest : List Stmt) (over : Heap) → Here r inner rest here over mid end
          → (drawn : CapKind → ℕ) (e : Ended) → Told w funcs Q now left here t v u base drawn e
          → PartEnd w funcs Q t r st end.unwritten env v u base drawn e
      part_end t r v u s apart ow k inner rest over l drawn (Good new) told = (
        inner,
        rest,
        here,
        over,
        writes new ++ base,
        mid,
        end,
        stood_next t r v u new s apart ow k drawn told inner rest over l,
        λ x more all e kx sum t2. told_next t r v u new s apart ow k drawn told x kx more all sum e t2,
        refl,
        told.0,
        owned_next t r v u new s apart ow k drawn told inner rest over l,
      )
      part_end t r v u s apart ow k inner rest over l drawn (Fault kind line) told = told_stop t r v u drawn kind line told
      part_end t r v u s apart ow k inner rest over l drawn (Other why) told = told_cut t r v u drawn why told
