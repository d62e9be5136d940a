-- Expressions and reads that meet the series rule name what is known.
use Rattle.std.proofs.Common.{◌≡◌, ℕ, ◌&&◌, ◌||◌, Bool, true, not, if◌then◌else◌, List, [], ◌∷◌, map, Option, Some, None, Result, Ok, refl, sym, ◌∙◌, subst, inl, inr}
use Rattle.psac_syntax.specs.declared.program.Expr.{Expr, out-Expr, map-Expr}
use Rattle.psac_syntax.specs.declared.program.Expr.TheOpen.{Expr-F}
use Rattle.psac_syntax.specs.declared.program.Expr.TheFolds.{fold-Expr, fold-roll-Expr, ind-Expr}
use Rattle.psac_syntax.specs.declared.program.ReadItem.{ReadItem}
use Rattle.psac_syntax.proofs.Folds.{expr_fold_is}
use Rattle.psac_model.specs.Series as rule
use Rattle.psac_model.specs.Series.{Breach, NotWritten, BranchesDiffer, WrittenInBothSides, Arity, Fault, Scope, Dest, has, all_in, without, dest_names, first_wrong, unless, so, name_wrong, expr_step, expr_wrong, from_wrong, new_wrong, dest_wrong, dests_wrong, items_wrong, with_items, call_wrong, all_written, body_rule, rule_step, rule_of}
use Rattle.psac_laws.specs.Standing.{Standing, every, names_step, names_known, is_new, with_value, with_values, reads_known}
use Rattle.psac_laws.proofs.Places.{none_some, test_or}
use Rattle.psac_laws.proofs.Tells.{both_true, first_is, Tells, tells_new, tells_value}

pub so_is : {A : Type 0} (wrong : Option Breach) (line : ℕ) (told : Result A Fault) (r : A) → so wrong line told ≡ Ok r → (wrong ≡ None) × (told ≡ Ok r)
so_is None line told r h = (refl, h)
so_is (Some b) line told r h = absurd cc

module _ (s : Scope) (w : List ℕ) (st : Standing) (t : Tells s w st) where
  last_wrong : (x : ℕ) → (if has x (dest_names s) then Some rule.WrongSort else Some rule.UnknownName) ≡ None → ⊥
  last_wrong x h =
      elim (test_or (has x (dest_names s))) [
        | inl e ↦ (let k : Some rule.WrongSort ≡ None = rw e at h in none_some (sym k))
        | inr e ↦ (let k : Some rule.UnknownName ≡ None = rw e at h in none_some (sym k))
      ]

  name_known : (x : ℕ) → name_wrong s w x ≡ None → has x st.known ≡ true
  name_known x h =
      elim (test_or (has x s.values || has x w)) [
        | inl e ↦ t.known x ∙ e
        | inr e ↦ (let k : (if has x (dest_names s) then Some rule.WrongSort else Some rule.UnknownName) ≡ None = rw e at h in absurd (last_wrong x k))
      ]

  each_known : {I : Type 0} (f : Expr → Option Breach) (n : Expr → Bool) (k : I → Expr) → ((i : I) → f (k i) ≡ None → n (k i) ≡ true) → (is : List I) → first_wrong (map f (map k is)) ≡ None → every (map n (map k is)) ≡ true
  each_known f n k ih [] h = refl
  each_known f n k ih (i ∷ is) h =
      let a = first_is (f (k i)) (map f (map k is)) h in
      both_true (n (k i)) (every (map n (map k is))) (ih i a.0) (each_known f n k ih is a.1)

  layer_known : {I : Type 0} (f : Expr → Option Breach) (n : Expr → Bool) (k : I → Expr) → ((i : I) → f (k i) ≡ None → n (k i) ≡ true) → (y : Expr-F I) → expr_step s w (map-Expr Expr (Option Breach) f (map-Expr I Expr k y)) ≡ None → names_step st.known (map-Expr Expr Bool n (map-Expr I Expr k y)) ≡ true
  layer_known f n k ih Expr-F.Nil h = refl
  layer_known f n k ih (Expr-F.Bool b) h = refl
  layer_known f n k ih (Expr-F.Int i) h = refl
  layer_known f n k ih (Expr-F.Text i) h = refl
  layer_known f n k ih (Expr-F.Name x) h = name_known x h
  layer_known f n k ih Expr-F.Rows h = refl
  layer_known f n k ih Expr-F.Cols h = refl
  layer_known f n k ih Expr-F.RowCount h = refl
  layer_known f n k ih (Expr-F.Cell a b) h =
      let c = first_is (f (k a)) (f (k b) ∷ []) h in
      let d = first_is (f (k b)) [] c.1 in
      both_true (n (k a)) (n (k b)) (ih a c.0) (ih b d.0)
  layer_known f n k ih (Expr-F.Apply op args) h = each_known f n k ih args h

  folded_known : (e : Expr) → fold-Expr (Option Breach) (expr_step s w) e ≡ None → fold-Expr Bool (names_step st.known) e ≡ true
  folded_known =
      ind-Expr (λ e. fold-Expr (Option Breach) (expr_step s w) e ≡ None → fold-Expr Bool (names_step st.known) e ≡ true) (λ x y is.
      let f : Expr → Option Breach = fold-Expr (Option Breach) (expr_step s w) in
      let n : Expr → Bool = fold-Expr Bool (names_step st.known) in
      let P : Expr-F Expr → Type 0 = λ z. expr_step s w (map-Expr Expr (Option Breach) f z) ≡ None → names_step st.known (map-Expr Expr Bool n z) ≡ true in
      λ h.
      fold-roll-Expr Bool (names_step st.known) x
      ∙ subst P is (layer_known f n (λ i. i.0) (λ i. i.1) y) (sym (fold-roll-Expr (Option Breach) (expr_step s w) x) ∙ h))

  pub expr_known : (e : Expr) → expr_wrong s w e ≡ None → names_known st.known e ≡ true
  unfolding expr_wrong names_known
  expr_known e h =
      expr_fold_is Bool (names_step st.known) e
      ∙ folded_known e (sym (expr_fold_is (Option Breach) (expr_step s w) e) ∙ h)

  pub exprs_known : (es : List Expr) → first_wrong (map (expr_wrong s w) es) ≡ None → every (map (names_known st.known) es) ≡ true
  exprs_known [] h = refl
  exprs_known (e ∷ es) h =
      let a = first_is (expr_wrong s w e) (map (expr_wrong s w) es) h in
      both_true (names_known st.known e) (every (map (names_known st.known) es)) (expr_known e a.0) (exprs_known es a.1)

  name_read : (x : ℕ) (e : Expr) → from_wrong s w (Expr-F.Name x) e ≡ None → expr_wrong s w e ≡ None
  name_read x e h =
      elim (test_or (has x (dest_names s) && not (has x w))) [
        | inl p ↦ (let k : Some rule.ReadBeforeWrite ≡ None = rw p at h in absurd (none_some (sym k)))
        | inr p ↦ (let k : expr_wrong s w e ≡ None = rw p at h in k)
      ]

  from_right : (y : Expr-F Expr) (e : Expr) → from_wrong s w y e ≡ None → expr_wrong s w e ≡ None
  from_right (Expr-F.Name x) e h = name_read x e h
  from_right Expr-F.Nil e h = h
  from_right (Expr-F.Bool b) e h = h
  from_right (Expr-F.Int i) e h = h
  from_right (Expr-F.Text i) e h = h
  from_right Expr-F.Rows e h = h
  from_right Expr-F.Cols e h = h
  from_right Expr-F.RowCount e h = h
  from_right (Expr-F.Cell a b) e h = h
  from_right (Expr-F.Apply op args) e h = h

  -- what the reads of a block bind
  pub record Entered (inner : Scope) (begun : Standing) (items : List ReadItem) : Type 0 where
    pub after : Standing
    pub is : with_values items begun ≡ Some after
    pub tells : Tells (with_items items inner) w after
    pub reads : reads_known st.known items ≡ true

  pub items_right : (items : List ReadItem) (inner : Scope) (begun : Standing) → Tells inner w begun → items_wrong s w inner items ≡ None → Entered inner begun items
  items_right [] inner begun u h = record { after = begun; is = refl; tells = u; reads = refl }
  items_right (item ∷ items) inner begun u h =
      let a = first_is (from_wrong s w (out-Expr item.from) item.from) (new_wrong inner item.bound ∷ items_wrong s w (rule.with_value item.bound inner) items ∷ []) h in
      let b = first_is (new_wrong inner item.bound) (items_wrong s w (rule.with_value item.bound inner) items ∷ []) a.1 in
      let c = first_is (items_wrong s w (rule.with_value item.bound inner) items) [] b.1 in
      let n : is_new begun item.bound ≡ true = tells_new inner w begun item.bound u b.0 in
      let more = items_right items (rule.with_value item.bound inner) (with_value item.bound begun) (tells_value inner w begun item.bound u) c.0 in
      record {
        after = more.after;
        is = rw n more.is;
        tells = more.tells;
        reads = both_true (names_known st.known item.from) (reads_known st.known items) (expr_known item.from (from_right (out-Expr item.from) item.from a.0)) more.reads;
      }

pub items_dests : (items : List ReadItem) (s : Scope) → (with_items items s).dests ≡ s.dests
items_dests [] s = refl
items_dests (item ∷ items) s = items_dests items (rule.with_value item.bound s)
