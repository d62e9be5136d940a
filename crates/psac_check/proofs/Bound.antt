-- The reads of a block, one after another.
use Rattle.std.proofs.Common.{◌≡◌, ℕ, suc, ◌+◌, ◌<◌, ◌==◌, ◌||◌, Bool, true, false, not, List, [], ◌∷◌, ◌++◌, map, length, take, drop, get_or, Option, Some, None, refl, ap, sym, ◌∙◌, add-one, arith}
use Rattle.std.proofs.lemmas.List.{take_more}
use Rattle.std.proofs.lemmas.List.Folds.{list_any-append}
use Rattle.std.proofs.Math.Seq.{drop-cons}
use Rattle.psac_syntax.specs.declared.program.Expr.{out-Expr}
use Rattle.psac_syntax.specs.declared.program.ReadItem.{ReadItem}
use Rattle.psac_model.specs.Series.{Breach, Rebound, Scope, has, dest_names, unless, first_wrong, new_wrong, from_wrong, with_value, with_items, items_wrong}
use Rattle.psac_check.proofs.Members.{has_append}

names_of : List ReadItem → List ℕ
names_of = map (λ i. i.bound)

shift : (v q b : Bool) → (v || (q || b)) ≡ ((v || (q || false)) || b)
shift true q b = refl
shift false true b = refl
shift false false b = refl

values_has : (x : ℕ) (items : List ReadItem) (s : Scope) → has x (with_items items s).values ≡ (has x s.values || has x (map (λ i. i.bound) items))
values_has x [] s = or_false (has x s.values)
  where
    or_false : (b : Bool) → b ≡ (b || false)
    or_false true = refl
    or_false false = refl
values_has x (i ∷ items) s =
    values_has x items (with_value i.bound s)
    ∙ ap (λ z. z || has x (map (λ i. i.bound) items)) (has_append x s.values (i.bound ∷ []))
    ∙ sym (shift (has x s.values) (i.bound == x) (has x (map (λ i. i.bound) items)))

pub dests_same : (items : List ReadItem) (s : Scope) → (with_items items s).dests ≡ s.dests
dests_same [] s = refl
dests_same (i ∷ items) s = dests_same items (with_value i.bound s)

bound_test : (v b d : Bool) → b ≡ true → not ((v || b) || d) ≡ false
bound_test true b d h = refl
bound_test false b d h = rw h refl

free_test : (v b d : Bool) → b ≡ false → not ((v || b) || d) ≡ not (v || d)
free_test true b d h = refl
free_test false b d h = rw h refl

-- a name that one of the reads binds isn't new behind them
pub bound_there : (x : ℕ) (items : List ReadItem) (s : Scope) → has x (map (λ i. i.bound) items) ≡ true → new_wrong (with_items items s) x ≡ Some Rebound
bound_there x items s h =
    ap (λ z. unless (not (z || has x (dest_names (with_items items s)))) Rebound) (values_has x items s)
    ∙ ap (λ z. unless z Rebound) (bound_test (has x s.values) (has x (map (λ i. i.bound) items)) (has x (dest_names (with_items items s))) h)

pub bound_elsewhere : (x : ℕ) (items : List ReadItem) (s : Scope) → has x (map (λ i. i.bound) items) ≡ false → new_wrong (with_items items s) x ≡ new_wrong s x
bound_elsewhere x items s h =
    ap (λ z. unless (not (z || has x (dest_names (with_items items s)))) Rebound) (values_has x items s)
    ∙ ap (λ z. unless z Rebound) (free_test (has x s.values) (has x (map (λ i. i.bound) items)) (has x (dest_names (with_items items s))) h)
    ∙ ap (λ ds. unless (not (has x s.values || has x (map (λ d. d.0) ds))) Rebound) (dests_same items s)

with_append : (xs ys : List ReadItem) (s : Scope) → with_items (xs ++ ys) s ≡ with_items ys (with_items xs s)
with_append [] ys s = refl
with_append (x ∷ xs) ys s = with_append xs ys (with_value x.bound s)

with_more : (items : List ReadItem) (i : ℕ) (item : ReadItem) (s : Scope) → i < length items → with_items (take (i + 1) items) s ≡ with_value (get_or items i item).bound (with_items (take i items) s)
with_more items i item s h =
    ap (λ z. with_items z s) (take_more items i item h) ∙ with_append (take i items) (get_or items i item ∷ []) s

module _ (s : Scope) (w : List ℕ) where
  abbrev one_wrong : Scope → ReadItem → List (Option Breach) → Option Breach
  one_wrong inner item more = first_wrong (from_wrong s w (out-Expr item.from) item.from ∷ new_wrong inner item.bound ∷ more)

  passes : (a b c : Option Breach) → first_wrong (a ∷ b ∷ []) ≡ None → first_wrong (a ∷ b ∷ c ∷ []) ≡ c
  passes None None None h = refl
  passes None None (Some c) h = refl
  passes None (Some b) c h = cc
  passes (Some a) b c h = cc

  stops : (a b c : Option Breach) (wrong : Breach) → first_wrong (a ∷ b ∷ []) ≡ Some wrong → first_wrong (a ∷ b ∷ c ∷ []) ≡ Some wrong
  stops None None c wrong h = cc
  stops None (Some b) c wrong h = h
  stops (Some a) b c wrong h = h

  split : (items : List ReadItem) (i : ℕ) (item : ReadItem) (inner : Scope) → i < length items → item ≡ get_or items i item → items_wrong s w inner (drop i items) ≡ one_wrong inner item (items_wrong s w (with_value item.bound inner) (drop (i + 1) items) ∷ [])
  split items i item inner h e =
      ap (items_wrong s w inner) (drop-cons items i item h)
      ∙ ap (λ z. one_wrong inner z (items_wrong s w (with_value z.bound inner) (drop (suc i) items) ∷ [])) (sym e)
      ∙ ap (λ n. one_wrong inner item (items_wrong s w (with_value item.bound inner) (drop n items) ∷ [])) (sym (add-one i))

  pub item_passes : (items : List ReadItem) (i : ℕ) (item : ReadItem) → i < length items → item ≡ get_or items i item → None ≡ one_wrong (with_items (take i items) s) item [] → items_wrong s w (with_items (take (i + 1) items) s) (drop (i + 1) items) ≡ items_wrong s w (with_items (take i items) s) (drop i items)
  item_passes items i item h e n =
      let inner = with_items (take i items) s in
      let more : with_items (take (i + 1) items) s ≡ with_value item.bound inner = with_more items i item s h ∙ ap (λ z. with_value z.bound inner) (sym e) in
      ap (λ z. items_wrong s w z (drop (i + 1) items)) more
      ∙ sym (split items i item inner h e ∙ passes (from_wrong s w (out-Expr item.from) item.from) (new_wrong inner item.bound) (items_wrong s w (with_value item.bound inner) (drop (i + 1) items)) (sym n))

  pub item_stops : (items : List ReadItem) (i : ℕ) (item : ReadItem) (wrong : Breach) → i < length items → item ≡ get_or items i item → Some wrong ≡ one_wrong (with_items (take i items) s) item [] → Some wrong ≡ items_wrong s w (with_items (take i items) s) (drop i items)
  item_stops items i item wrong h e n =
      let inner = with_items (take i items) s in
      sym (split items i item inner h e ∙ stops (from_wrong s w (out-Expr item.from) item.from) (new_wrong inner item.bound) (items_wrong s w (with_value item.bound inner) (drop (i + 1) items)) wrong (sym n))
