-- Expressions, names and reads that the lean rule takes have no fault.
use Rattle.std.proofs.Common.{◌≡◌, ℕ, ◌==◌, ◌&&◌, ◌||◌, Bool, true, false, not, List, [], ◌∷◌, ◌++◌, map, length, Option, Some, None, refl, ap, sym, ◌∙◌, subst, arith, inl, inr}
use Rattle.psac_syntax.specs.declared.program.Expr.{Expr, out-Expr, map-Expr}
use Rattle.psac_syntax.specs.declared.program.Expr.TheOpen.{Expr-F}
use Rattle.psac_syntax.specs.declared.program.Expr.TheFolds.{fold-Expr, fold-roll-Expr, ind-Expr}
use Rattle.psac_syntax.specs.declared.program.ReadItem.{ReadItem}
use Rattle.psac_syntax.specs.declared.program.Func.{Func}
use Rattle.psac_syntax.proofs.Folds.{expr_fold_is, expr_fold_out}
use Rattle.psac_model.specs.Series as rule
use Rattle.psac_model.specs.Series.{Breach, Arity, Rebound, Scope, Dest, has, all_in, dest_names, first_wrong, unless, name_wrong, expr_step, expr_wrong, from_wrong, new_wrong, dest_wrong, dests_wrong, items_wrong, with_items, call_wrong}
use Rattle.psac_laws.specs.Standing.{Standing, every, names_step, names_known, is_new, with_value, with_values, reads_known, distinct}
use Rattle.psac_laws.proofs.Places.{none_some, and_is, test_or, nat_same, nat_is}
use Rattle.psac_laws.proofs.Rules.{or_is, or_left, or_right, not_is, new_is, other}
use Rattle.psac_laws.proofs.Tells.{has_append_is, names_append, Tells, tells_value}
use Rattle.psac_series.specs.Lean.{takes}

-- no name is a value and a destination
abbrev pub IsApart : Scope → Type 0
IsApart s = (x : ℕ) → has x s.values ≡ true → has x (dest_names s) ≡ false

pub first_none : (a : Option Breach) (more : List (Option Breach)) → a ≡ None → first_wrong more ≡ None
    → first_wrong (a ∷ more) ≡ None
first_none a more e f = rw e f

pub parts_none : (xs ys : List (Option Breach)) → first_wrong xs ≡ None → first_wrong ys ≡ None
    → first_wrong (xs ++ ys) ≡ None
parts_none [] ys h k = k
parts_none (None ∷ xs) ys h k = parts_none xs ys h k
parts_none (Some b ∷ xs) ys h k = absurd (none_some (sym h))

unless_none : (b : Bool) (wrong : Breach) → b ≡ true → unless b wrong ≡ None
unless_none b wrong h = rw h refl

free : (v d w : Bool) → (v || w) ≡ false → (d && not w) ≡ false → (v ≡ false) × (d ≡ false)
free v d w h k = (grind arith, grind arith)

-- a new name is none of the scope's
pub new_free : (s : Scope) (w : List ℕ) (st : Standing) (x : ℕ) → Tells s w st → is_new st x ≡ true
    → (has x s.values ≡ false) × (has x (dest_names s) ≡ false)
new_free s w st x t n =
    let b = new_is st x n in
    free (has x s.values) (has x (dest_names s)) (has x w) (sym (t.known x) ∙ b.0) (sym (t.unwritten x) ∙ b.1)

pub new_none : (s : Scope) (w : List ℕ) (st : Standing) (x : ℕ) → Tells s w st → is_new st x ≡ true
    → new_wrong s x ≡ None
new_none s w st x t n = let b = new_free s w st x t n in rw (b.0, b.1) refl

pub apart_value : (s : Scope) (x : ℕ) → IsApart s → has x (dest_names s) ≡ false → IsApart (rule.with_value x s)
apart_value s x p n y k =
    elim (or_is (has y s.values) (has y (x ∷ [])) (sym (has_append_is y s.values (x ∷ [])) ∙ k)) [
      | inl q ↦ p y q
      | inr q ↦
          elim (or_is (x == y) false q) [
            | inl e ↦ (let i : x ≡ y = nat_is x y e in subst (λ z. has z (dest_names s) ≡ false) i n)
            | inr e ↦ absurd cc
          ]
    ]

pub apart_dest : (s : Scope) (d line : ℕ) → IsApart s → has d s.values ≡ false → IsApart (rule.with_dest d line s)
apart_dest s d line p n y k =
    ap (has y) (names_append s.dests ((d, line) ∷ []))
    ∙ has_append_is y (dest_names s) (d ∷ [])
    ∙ rw (p y k, other d y s.values n k) refl

pub apart_items : (w : List ℕ) (items : List ReadItem) (s : Scope) (st after : Standing) → Tells s w st → IsApart s
    → with_values items st ≡ Some after → IsApart (with_items items s)
apart_items w [] s st after t p h = p
apart_items w (item ∷ items) s st after t p h =
    elim (test_or (is_new st item.bound)) [
      | inl n ↦
          (let more : with_values items (with_value item.bound st) ≡ Some after = rw n at h in
          apart_items w items (rule.with_value item.bound s) (with_value item.bound st) after
          (tells_value s w st item.bound t)
          (apart_value s item.bound p (new_free s w st item.bound t n).1) more)
      | inr n ↦ (let bad : None ≡ Some after = rw n at h in absurd (none_some bad))
    ]

seen_or : (v d w : Bool) → (v || w) ≡ true → (v ≡ true → d ≡ false) → (d && not w) ≡ false
seen_or v d w h k = grind arith

module _ (s : Scope) (w : List ℕ) (st : Standing) (t : Tells s w st) (p : IsApart s) where
  name_none : (x : ℕ) → has x st.known ≡ true → name_wrong s w x ≡ None
  name_none x h = let k : (has x s.values || has x w) ≡ true = sym (t.known x) ∙ h in rw k refl

  each_none : {I : Type 0} (f : Expr → Option Breach) (n : Expr → Bool) (k : I → Expr)
      → ((i : I) → n (k i) ≡ true → f (k i) ≡ None) → (is : List I) → every (map n (map k is)) ≡ true
      → first_wrong (map f (map k is)) ≡ None
  each_none f n k ih [] h = refl
  each_none f n k ih (i ∷ is) h =
      let a = and_is (n (k i)) (every (map n (map k is))) h in
      first_none (f (k i)) (map f (map k is)) (ih i a.0) (each_none f n k ih is a.1)

  layer_none : {I : Type 0} (f : Expr → Option Breach) (n : Expr → Bool) (k : I → Expr)
      → ((i : I) → n (k i) ≡ true → f (k i) ≡ None) → (y : Expr-F I)
      → names_step st.known (map-Expr Expr Bool n (map-Expr I Expr k y)) ≡ true
      → expr_step s w (map-Expr Expr (Option Breach) f (map-Expr I Expr k y)) ≡ None
  layer_none f n k ih Expr-F.Nil h = refl
  layer_none f n k ih (Expr-F.Bool b) h = refl
  layer_none f n k ih (Expr-F.Int i) h = refl
  layer_none f n k ih (Expr-F.Text i) h = refl
  layer_none f n k ih (Expr-F.Name x) h = name_none x h
  layer_none f n k ih Expr-F.Rows h = refl
  layer_none f n k ih Expr-F.Cols h = refl
  layer_none f n k ih Expr-F.RowCount h = refl
  layer_none f n k ih (Expr-F.Cell a b) h =
      let c = and_is (n (k a)) (n (k b)) h in
      first_none (f (k a)) (f (k b) ∷ []) (ih a c.0) (first_none (f (k b)) [] (ih b c.1) refl)
  layer_none f n k ih (Expr-F.Apply op args) h = each_none f n k ih args h

  folded_none : (e : Expr) → fold-Expr Bool (names_step st.known) e ≡ true
      → fold-Expr (Option Breach) (expr_step s w) e ≡ None
  folded_none =
      ind-Expr (λ e. fold-Expr Bool (names_step st.known) e ≡ true
      → fold-Expr (Option Breach) (expr_step s w) e ≡ None) (λ x y is.
      let f : Expr → Option Breach = fold-Expr (Option Breach) (expr_step s w) in
      let n : Expr → Bool = fold-Expr Bool (names_step st.known) in
      let P : Expr-F Expr → Type 0 = λ z. names_step st.known (map-Expr Expr Bool n z) ≡ true
      → expr_step s w (map-Expr Expr (Option Breach) f z) ≡ None in
      λ h.
      fold-roll-Expr (Option Breach) (expr_step s w) x
      ∙ subst P is (layer_none f n (λ i. i.0) (λ i. i.1) y) (sym (fold-roll-Expr Bool (names_step st.known) x) ∙ h))

  pub expr_none : (e : Expr) → names_known st.known e ≡ true → expr_wrong s w e ≡ None
  unfolding expr_wrong names_known
  expr_none e h =
      expr_fold_is (Option Breach) (expr_step s w) e
      ∙ folded_none e (sym (expr_fold_is Bool (names_step st.known) e) ∙ h)

  pub exprs_none : (es : List Expr) → every (map (names_known st.known) es) ≡ true
      → first_wrong (map (expr_wrong s w) es) ≡ None
  exprs_none [] h = refl
  exprs_none (e ∷ es) h =
      let a = and_is (names_known st.known e) (every (map (names_known st.known) es)) h in
      first_none (expr_wrong s w e) (map (expr_wrong s w) es) (expr_none e a.0) (exprs_none es a.1)

  names_out : (e : Expr) → names_known st.known e ≡ names_step st.known
      (map-Expr Expr Bool (names_known st.known) (out-Expr e))
  unfolding names_known
  names_out e = expr_fold_out Bool (names_step st.known) e

  from_none : (y : Expr-F Expr) (e : Expr) → names_step st.known (map-Expr Expr Bool (names_known st.known) y) ≡ true
      → expr_wrong s w e ≡ None → from_wrong s w y e ≡ None
  from_none (Expr-F.Name x) e n h =
      let q : (has x (dest_names s) && not (has x w)) ≡ false = seen_or (has x s.values) (has x (dest_names s))
      (has x w) (sym (t.known x) ∙ n) (p x) in
      rw q h
  from_none Expr-F.Nil e n h = h
  from_none (Expr-F.Bool b) e n h = h
  from_none (Expr-F.Int i) e n h = h
  from_none (Expr-F.Text i) e n h = h
  from_none Expr-F.Rows e n h = h
  from_none Expr-F.Cols e n h = h
  from_none Expr-F.RowCount e n h = h
  from_none (Expr-F.Cell a b) e n h = h
  from_none (Expr-F.Apply op args) e n h = h

  pub items_none : (items : List ReadItem) (inner : Scope) (begun after : Standing) → Tells inner w begun
      → reads_known st.known items ≡ true → with_values items begun ≡ Some after → items_wrong s w inner items ≡ None
  items_none [] inner begun after u k h = refl
  items_none (item ∷ items) inner begun after u k h =
      let a = and_is (names_known st.known item.from) (reads_known st.known items) k in
      let from = from_none (out-Expr item.from) item.from (sym (names_out item.from) ∙ a.0) (expr_none item.from a.0) in
      elim (test_or (is_new begun item.bound)) [
        | inl n ↦
            (let more : with_values items (with_value item.bound begun) ≡ Some after = rw n at h in
            let rest = items_none items (rule.with_value item.bound inner) (with_value item.bound begun) after
            (tells_value inner w begun item.bound u) a.1 more in
            first_none (from_wrong s w (out-Expr item.from) item.from)
            (new_wrong inner item.bound ∷ items_wrong s w (rule.with_value item.bound inner) items ∷ []) from
            (first_none (new_wrong inner item.bound) (items_wrong s w (rule.with_value item.bound inner) items ∷ [])
            (new_none inner w begun item.bound u n)
            (first_none (items_wrong s w (rule.with_value item.bound inner) items) [] rest refl)))
        | inr n ↦ (let bad : None ≡ Some after = rw n at h in absurd (none_some bad))
      ]

-- destinations that are there, unwritten and distinct
pub dests_none : (s : Scope) (w ds : List ℕ)
    → ((x : ℕ) → has x ds ≡ true → (has x (dest_names s) ≡ true) × (has x w ≡ false)) → distinct ds ≡ true
    → dests_wrong s w ds ≡ None
dests_none s w [] each once = refl
dests_none s w (d ∷ ds) each once =
    let b = and_is (not (has d ds)) (distinct ds) once in
    let gone = not_is (has d ds) b.0 in
    let one = each d (or_left (d == d) (has d ds) (nat_same d)) in
    let here : dest_wrong s w d ≡ None = rw (one.1, one.0) refl in
    let more = dests_none s (w ++ d ∷ []) ds (λ x k.
    let e = each x (or_right (d == x) (has x ds) k) in (
      e.0,
      has_append_is x w (d ∷ []) ∙ rw (e.1, other d x ds gone k) refl,
    )) b.1 in
    first_none (dest_wrong s w d) (dests_wrong s (w ++ d ∷ []) ds ∷ []) here
    (first_none (dests_wrong s (w ++ d ∷ []) ds) [] more refl)

pub call_none : (s : Scope) (w : List ℕ) (o : Option Func) (values : List Expr) (dests : List ℕ)
    → takes o (length values) (length dests) ≡ true → first_wrong (map (expr_wrong s w) values) ≡ None
    → dests_wrong s w dests ≡ None → call_wrong s w o values dests ≡ None
call_none s w None values dests fit v d = absurd cc
call_none s w (Some g) values dests fit v d =
    let b = and_is (length values == length g.values) (length dests == length g.dests) fit in
    parts_none (map (expr_wrong s w) values)
    (unless (length values == length g.values) Arity ∷ dests_wrong s w dests ∷ unless
    (length dests == length g.dests) Arity ∷ []) v
    (first_none (unless (length values == length g.values) Arity)
    (dests_wrong s w dests ∷ unless (length dests == length g.dests) Arity ∷ []) (unless_none _ Arity b.0)
    (first_none (dests_wrong s w dests) (unless (length dests == length g.dests) Arity ∷ []) d
    (first_none (unless (length dests == length g.dests) Arity) [] (unless_none _ Arity b.1) refl)))
