-- Places of words among distinct ones.
use Rattle.std.proofs.Common.{◌≡◌, ℕ, suc, ◌+◌, ◌<◌, Bool, true, false, not, cond, eqb, ltb, ◌||◌, List, [], ◌∷◌, ◌++◌, map, length, Some, None, position, refl, sym, ap, subst, ◌∙◌, arith, true≢false}
use Rattle.std.proofs.lemmas.Bool.Decides.{nat_tests}
use Rattle.std.specs.List.{list_any, position_or_len}
use Rattle.std.specs.Str.{bytes_eq}
use Rattle.indexmap.specs.IndexSet.{insert_key}
use Rattle.psac_tokens.specs.Number.{place_of, with_word}

position-Some_is : {V : Type 0} (p : V → Bool) (ks : List V) (at : ℕ) → Some at ≡ position p ks → (at ≡ position_or_len p ks) × (at < length ks)
position-Some_is p ks at h = by (ltb (position_or_len p ks) (length ks)) refl h
  where
    by : (b : Bool) → ltb (position_or_len p ks) (length ks) ≡ b → Some at ≡ cond b (Some (position_or_len p ks)) None → (at ≡ position_or_len p ks) × (at < length ks)
    by true lt is = let e : at ≡ position_or_len p ks = cc in (e, grind (arith, nat_tests))
    by false lt is = absurd (cc)

position_or_len-none : {V : Type 0} (p : V → Bool) (ks : List V) → list_any p ks ≡ false → position_or_len p ks ≡ length ks
position_or_len-none p [] none = refl
position_or_len-none p (k ∷ ks) none = by (p k) refl none (position_or_len-none p ks)
  where
    by : (b : Bool) → p k ≡ b → (b || list_any p ks) ≡ false → (list_any p ks ≡ false → position_or_len p ks ≡ length ks) → position_or_len p (k ∷ ks) ≡ length (k ∷ ks)
    by true is none rest = absurd (true≢false none)
    by false is none rest = rw is (rw (rest none) (omega arith))

module _ {V : Type 0} (items : V → List ℕ) where
  length-map_items : (ks : List V) → length (map items ks) ≡ length ks
  length-map_items [] = refl
  length-map_items (k ∷ ks) = ap suc (length-map_items ks)

  map-push_items : (ks : List V) (k : V) → map items (ks ++ k ∷ []) ≡ map items ks ++ items k ∷ []
  map-push_items [] k = refl
  map-push_items (x ∷ ks) k = ap (λ ys. items x ∷ ys) (map-push_items ks k)

  place_of-map : (word : List ℕ) (ks : List V) → place_of word (map items ks) ≡ position_or_len (λ k. bytes_eq word (items k)) ks
  place_of-map word [] = refl
  place_of-map word (k ∷ ks) = ap (λ n. cond (not (bytes_eq word (items k))) (1 + n) 0) (place_of-map word ks)

  -- a word that is there has its place, and nothing is added
  pub found : (word : List ℕ) (ks : List V) (at : ℕ) → Some at ≡ position (λ k. bytes_eq word (items k)) ks → (at ≡ place_of word (map items ks)) × (map items ks ≡ with_word (map items ks) word)
  found word ks at h =
      let is = position-Some_is (λ k. bytes_eq word (items k)) ks at h in
      let e : at ≡ place_of word (map items ks) = is.0 ∙ sym (place_of-map word ks) in
      let l = length-map_items ks in
      let differ : eqb (place_of word (map items ks)) (length (map items ks)) ≡ false = grind (arith, nat_tests) in
      (e, rw differ refl)

  goes_last : (ks : List V) (new : V) → false ≡ list_any (λ k. bytes_eq (items new) (items k)) ks
      → (length ks ≡ place_of (items new) (map items ks)) × (map items (insert_key (λ a b. bytes_eq (items a) (items b)) ks new) ≡ with_word (map items ks) (items new))
  goes_last ks new none =
      let e = place_of-map (items new) ks ∙ position_or_len-none (λ k. bytes_eq (items new) (items k)) ks (sym none) in
      let l = length-map_items ks in
      let same : eqb (place_of (items new) (map items ks)) (length (map items ks)) ≡ true = grind (arith, nat_tests) in
      (sym e, rw (same, ← none) (map-push_items ks new))

  -- one that isn't goes to the end
  pub added : (word : List ℕ) (ks : List V) (new : V) → items new ≡ word → false ≡ list_any (λ k. bytes_eq word (items k)) ks
      → (length ks ≡ place_of word (map items ks)) × (map items (insert_key (λ a b. bytes_eq (items a) (items b)) ks new) ≡ with_word (map items ks) word)
  added word ks new is =
      subst (λ w. false ≡ list_any (λ k. bytes_eq w (items k)) ks
      → (length ks ≡ place_of w (map items ks)) × (map items (insert_key (λ a b. bytes_eq (items a) (items b)) ks new) ≡ with_word (map items ks) w)) is (goes_last ks new)

  pub place_of-within : (word : List ℕ) (ks : List (List ℕ)) → place_of word ks < suc (length ks)
  place_of-within word [] = omega arith
  place_of-within word (k ∷ ks) = by (bytes_eq word k) refl (place_of-within word ks)
    where
      by : (b : Bool) → bytes_eq word k ≡ b → place_of word ks < suc (length ks) → place_of word (k ∷ ks) < suc (suc (length ks))
      by true is rest = rw is (omega arith)
      by false is rest = rw is (omega arith)
