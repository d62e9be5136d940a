-- What holds between the names in scope and the heap at each place of a run.
use Rattle.std.proofs.Common.{◌≡◌, ℕ, ◌==◌, ◌||◌, true, false, if◌then◌else◌, nat_lt, List, [], ◌∷◌, ◌++◌, length, length-append, Some, None, refl, ap, sym, ◌∙◌, subst, arith, ◌⊎◌, inl, inr, append_assoc, append-nil}
use Rattle.psac_ops.specs.Value.{Value, ref}
use Rattle.psac_syntax.specs.declared.program.ReadItem.{ReadItem}
use Rattle.psac_model.specs.Names.{Path, Name, Made, Env, Heap, bound, bind, held, same_name}
use Rattle.psac_model.specs.Expression.{Setting}
use Rattle.psac_model.specs.Tree.{Reads}
use Rattle.psac_model.specs.Run.{with_reads}
use Rattle.psac_laws.proofs.Placed.{AllHeld}
use Rattle.psac_model.specs.Series.{has, without, all_in}
use Rattle.psac_laws.specs.Standing.{Standing, is_new, with_value, with_dest, with_values, settled}
use Rattle.psac_laws.proofs.Places.{none_some, some_is, nat_is, test_or, not_both, made_is, turns_differ}
use Rattle.psac_laws.proofs.Heaps.{IsHeld, Known, Closed, known_more}
use Rattle.psac_laws.proofs.Rules.{has_without, has_append, all_in_has, new_is, other}

abbrev pub IsUnder : Path → Name → Type 0
IsUnder path m = (q : Path) × (m ≡ Made (path ++ q))

pub wider_path : (path a : Path) (m : Name) → IsUnder (path ++ a) m → IsUnder path m
wider_path path a m h = (a ++ h.0, h.1 ∙ ap Made (append_assoc path a h.0))

pub turned : (path : Path) (a b : ℕ) (m : Name) → (a ≡ b → ⊥) → IsUnder (path ++ a ∷ []) m → IsUnder (path ++ b ∷ []) m → ⊥
turned path a b m d h k = turns_differ path h.0 k.0 a b d (made_is _ _ (sym h.1 ∙ k.1))

pub longer : (path : Path) (q : Path) → path ≡ (path ++ 3 ∷ []) ++ q → ⊥
longer path q e = omega (arith, ap length e, length-append (path ++ 3 ∷ []) q, length-append path (3 ∷ []))

pub ref_is : {m n : Name} → Some (ref m) ≡ Some (ref n) → m ≡ n
ref_is h = cc

-- a destination that is written between one standing and a later one
abbrev pub Target : Standing → List ℕ → Env Name → Name → Type 0
Target st left env m = (x : ℕ) × (has x st.unwritten ≡ true) × (has x left ≡ false) × (bound x env ≡ Some (ref m))

abbrev pub May : Standing → List ℕ → Env Name → Path → Name → Type 0
May st left env path m = IsUnder path m ⊎ Target st left env m

pub bound_push : (x y : ℕ) (v : Value Name) (env : Env Name) → bound y (bind x v env) ≡ (if x == y then Some v else bound y env)
bound_push x y v [] = refl
bound_push x y v (b ∷ more) =
    elim (test_or (b.0 == x)) [
      | inl t ↦
          elim (test_or (x == y)) [
            | inl q ↦ rw (t, q) refl
            | inr q ↦ (let d : (b.0 == y) ≡ false = subst (λ z. (z == y) ≡ false) (sym (nat_is b.0 x t)) q in rw (t, q, d) refl)
          ]
      | inr t ↦
          elim (test_or (x == y)) [
            | inl q ↦
                (let d : (b.0 == y) ≡ false = subst (λ z. (b.0 == z) ≡ false) (nat_is x y q) t in
                rw (t, d) (bound_push x y v more))
            | inr q ↦ rw (t, q) (ap (λ z. if b.0 == y then Some b.1 else z) (bound_push x y v more ∙ rw q refl))
          ]
    ]

pub bound_old : (x y : ℕ) (v : Value Name) (env : Env Name) → (x == y) ≡ false → bound y (bind x v env) ≡ bound y env
bound_old x y v env e = bound_push x y v env ∙ rw e refl

pub bound_new : (x y : ℕ) (v : Value Name) (env : Env Name) → (x == y) ≡ true → bound y (bind x v env) ≡ Some v
bound_new x y v env e = bound_push x y v env ∙ rw e refl

module _ (w : Setting Name) where
  pub record Safe (st : Standing) (env : Env Name) (h : Heap) (path : Path) : Type 0 where
    pub closed : Closed h
    pub cells : (r c : ℕ) → nat_lt r w.room ≡ true → nat_lt c w.cols ≡ true → IsHeld h (w.cell r c)
    pub row_count : IsHeld h w.row_count
    pub names : w.same ≡ same_name
    pub knows : (x : ℕ) → has x st.known ≡ true → (v : Value Name) × (bound x env ≡ Some v) × Known h v
    pub opens : (x : ℕ) → has x st.unwritten ≡ true → (m : Name) × (bound x env ≡ Some (ref m)) × (held h m ≡ None)
    pub apart : (x y : ℕ) (m : Name) → has x st.unwritten ≡ true → has y st.unwritten ≡ true → bound x env ≡ Some (ref m) → bound y env ≡ Some (ref m) → x ≡ y
    pub fresh : (m : Name) → IsUnder path m → held h m ≡ None
    pub away : (x : ℕ) (m : Name) → has x st.unwritten ≡ true → bound x env ≡ Some (ref m) → IsUnder path m → ⊥

  pub safe_at : (st : Standing) (env : Env Name) (h : Heap) (path a : Path) → Safe st env h path → Safe st env h (path ++ a)
  safe_at st env h path a s =
      record {
        closed = s.closed;
        cells = s.cells;
        row_count = s.row_count;
        names = s.names;
        knows = s.knows;
        opens = s.opens;
        apart = s.apart;
        fresh = λ m u. s.fresh m (wider_path path a m u);
        away = λ x m i e u. s.away x m i e (wider_path path a m u);
      }

  pub safe_bind : (st : Standing) (env : Env Name) (h : Heap) (path : Path) (x : ℕ) (v : Value Name) → Safe st env h path → is_new st x ≡ true → Known h v → Safe (with_value x st) (bind x v env) h path
  safe_bind st env h path x v s n k =
      let fresh_name = new_is st x n in
      let old : (y : ℕ) → has y st.unwritten ≡ true → bound y (bind x v env) ≡ bound y env = λ y i. bound_old x y v env (other x y st.unwritten fresh_name.1 i) in
      record {
        closed = s.closed;
        cells = s.cells;
        row_count = s.row_count;
        names = s.names;
        knows = λ y i.
            elim (test_or (x == y)) [
              | inl e ↦ (v, bound_new x y v env e, k)
              | inr e ↦
                  (let j : (false || has y st.known) ≡ true = subst (λ t. (t || has y st.known) ≡ true) e i in
                  let b = s.knows y j in
                  (b.0, bound_old x y v env e ∙ b.1, b.2))
            ];
        opens = λ y i. let b = s.opens y i in (b.0, old y i ∙ b.1, b.2);
        apart = λ y z m i j e f. s.apart y z m i j (sym (old y i) ∙ e) (sym (old z j) ∙ f);
        fresh = s.fresh;
        away = λ y m i e u. s.away y m i (sym (old y i) ∙ e) u;
      }

  pub safe_make : (st : Standing) (env : Env Name) (h : Heap) (path : Path) (d : ℕ) → Safe st env h path → is_new st d ≡ true → Safe (with_dest d st) (bind d (ref (Made path)) env) h (path ++ 3 ∷ [])
  safe_make st env h path d s n =
      let fresh_name = new_is st d n in
      let here : IsUnder path (Made path) = ([], ap Made (sym (append-nil path))) in
      let old : (y : ℕ) → (d == y) ≡ false → bound y (bind d (ref (Made path)) env) ≡ bound y env = λ y e. bound_old d y (ref (Made path)) env e in
      let mine : (y : ℕ) → (d == y) ≡ true → bound y (bind d (ref (Made path)) env) ≡ Some (ref (Made path)) = λ y e. bound_new d y (ref (Made path)) env e in
      let rest : (y : ℕ) → (d == y) ≡ false → has y (d ∷ st.unwritten) ≡ true → has y st.unwritten ≡ true = λ y e i. subst (λ t. (t || has y st.unwritten) ≡ true) e i in
      record {
        closed = s.closed;
        cells = s.cells;
        row_count = s.row_count;
        names = s.names;
        knows = λ y i. let b = s.knows y i in (b.0, old y (other d y st.known fresh_name.0 i) ∙ b.1, b.2);
        opens = λ y i.
            elim (test_or (d == y)) [
              | inl e ↦ (Made path, mine y e, s.fresh (Made path) here)
              | inr e ↦ (let b = s.opens y (rest y e i) in (b.0, old y e ∙ b.1, b.2))
            ];
        apart = λ y z m i j e f.
            elim (test_or (d == y)) [
              | inl p ↦
                  elim (test_or (d == z)) [
                    | inl q ↦ sym (nat_is d y p) ∙ nat_is d z q
                    | inr q ↦ absurd (s.away z (Made path) (rest z q j) (sym (old z q) ∙ f ∙ sym e ∙ mine y p) here)
                  ]
              | inr p ↦
                  elim (test_or (d == z)) [
                    | inl q ↦ absurd (s.away y (Made path) (rest y p i) (sym (old y p) ∙ e ∙ sym f ∙ mine z q) here)
                    | inr q ↦ s.apart y z m (rest y p i) (rest z q j) (sym (old y p) ∙ e) (sym (old z q) ∙ f)
                  ]
            ];
        fresh = λ m u. s.fresh m (wider_path path (3 ∷ []) m u);
        away = λ y m i e u.
            elim (test_or (d == y)) [
              | inl p ↦
                  (let q : Made path ≡ m = ref_is (sym (mine y p) ∙ e) in
                  longer path u.0 (made_is path ((path ++ 3 ∷ []) ++ u.0) (q ∙ u.1)))
              | inr p ↦ s.away y m (rest y p i) (sym (old y p) ∙ e) (wider_path path (3 ∷ []) m u)
            ];
      }

  -- a later heap: only some names were written, and these were
  pub record Moved (may must : Name → Type 0) (h k : Heap) : Type 0 where
    pub closed : Closed k
    pub up : (m : Name) → IsHeld h m → IsHeld k m
    pub kept : (m : Name) → (may m → ⊥) → held k m ≡ held h m
    pub done : (m : Name) → must m → IsHeld k m

  -- the rest of a body, after a part that wrote some of its destinations
  pub safe_next : (st : Standing) (left : List ℕ) (env : Env Name) (h k : Heap) (path : Path) (a : Path) (may : Name → Type 0) → Safe st env h path → all_in left st.unwritten ≡ true → Moved may (Target st left env) h k → ((m : Name) → may m → IsUnder path m ⊎ Target st left env m) → ((m : Name) → IsUnder (path ++ a) m → may m → IsUnder (path ++ a) m → (x : ℕ) × (has x st.unwritten ≡ true) × (bound x env ≡ Some (ref m))) → Safe (settled left st) env k (path ++ a)
  safe_next st left env h k path a may s within mv only elsewhere =
      record {
        closed = mv.closed;
        cells = λ r c p q. mv.up (w.cell r c) (s.cells r c p q);
        row_count = mv.up w.row_count s.row_count;
        names = s.names;
        knows = λ x i.
            elim (has_append x (without left st.unwritten) st.known i) [
              | inl j ↦
                  (let o = has_without x left st.unwritten j in
                  let b = s.opens x o.0 in
                  (ref b.0, b.1, mv.done b.0 (x, o.0, o.1, b.1)))
              | inr j ↦ (let b = s.knows x j in (b.0, b.1, known_more h k mv.up b.0 b.2))
            ];
        opens = λ x i.
            let j = all_in_has x left st.unwritten within i in
            let b = s.opens x j in (
              b.0,
              b.1,
              mv.kept b.0 (λ y.
                  elim (only b.0 y) [
                    | inl u ↦ s.away x b.0 j b.1 u
                    | inr t ↦ not_both i (subst (λ z. has z left ≡ false) (s.apart t.0 x b.0 t.1 j t.3 b.1) t.2)
                  ]) ∙ b.2,
            );
        apart = λ x y m i j e f. s.apart x y m (all_in_has x left st.unwritten within i) (all_in_has y left st.unwritten within j) e f;
        fresh = λ m u. mv.kept m (λ y. let t = elsewhere m u y u in s.away t.0 m t.1 t.2 (wider_path path a m u)) ∙ s.fresh m (wider_path path a m u);
        away = λ x m i e u. s.away x m (all_in_has x left st.unwritten within i) e (wider_path path a m u);
      }

  -- reads, item by item, with values that the heap has
  abbrev pub Matches : Heap → List ReadItem → Reads Name → Type 0
  Matches h [] [] = Unit {0}
  Matches h (item ∷ items) (r ∷ rs) = (held h r.0 ≡ Some r.1) × Matches h items rs
  Matches h _ _ = ⊥

  pub matches_held : (h : Heap) (items : List ReadItem) (rs : Reads Name) → Matches h items rs → AllHeld h rs
  matches_held h [] [] k = tt
  matches_held h (item ∷ items) (r ∷ rs) k = (k.0, matches_held h items rs k.1)
  matches_held h [] (r ∷ rs) k = absurd k
  matches_held h (item ∷ items) [] k = absurd k

  -- what a read block begins with
  pub record Entered (st inner : Standing) (env env' : Env Name) (h : Heap) (path : Path) : Type 0 where
    pub safe : Safe inner env' h path
    pub same : inner.unwritten ≡ st.unwritten
    pub old : (x : ℕ) → has x st.unwritten ≡ true → bound x env' ≡ bound x env

  pub safe_reads : (items : List ReadItem) (rs : Reads Name) (st inner : Standing) (env : Env Name) (h : Heap) (path : Path) → Safe st env h path → with_values items st ≡ Some inner → Matches h items rs → Entered st inner env (with_reads env items rs) h path
  safe_reads [] [] st inner env h path s e k =
      let q : st ≡ inner = some_is e in
      record { safe = subst (λ z. Safe z env h path) q s; same = ap (λ (z : Standing). z.unwritten) (sym q); old = λ x i. refl }
  safe_reads (item ∷ items) (r ∷ rs) st inner env h path s e k =
      elim (test_or (is_new st item.bound)) [
        | inl n ↦
            (let more : with_values items (with_value item.bound st) ≡ Some inner = rw n at e in
            let here = safe_bind st env h path item.bound r.1 s n (s.closed r.0 r.1 k.0) in
            let t = safe_reads items rs (with_value item.bound st) inner (bind item.bound r.1 env) h path here more k.1 in
            record {
              safe = t.safe;
              same = t.same;
              old = λ x i. t.old x i ∙ bound_old item.bound x r.1 env (other item.bound x st.unwritten (new_is st item.bound n).1 i);
            })
        | inr n ↦ (let bad : None ≡ Some inner = rw n at e in absurd (none_some bad))
      ]
  safe_reads [] (r ∷ rs) st inner env h path s e k = absurd k
  safe_reads (item ∷ items) [] st inner env h path s e k = absurd k
