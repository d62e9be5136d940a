-- The place of a text in a list, and what a new text makes of the list.
use Rattle.std.proofs.Common.{◌≡◌, ℕ, suc, ◌+◌, ◌≤◌, ◌<◌, Bool, true, false, List, [], ◌∷◌, ◌++◌, ◌∙◌, length, map, cond, arith, refl, sym, ap, Option, Some, None, true≢false, inl, inr}
use Rattle.std.specs.Prelude.{◌&&◌, ◌||◌, IfSome, MatchResult, Result, Ok, Err, not, nat_lt, nat_le, sum_by}
use Rattle.std.specs.List.{list_any, position_from, position_or_len}
use Rattle.std.specs.Result.{is_ok}
use Rattle.std.proofs.lemmas.Bool.Decides.{Decides-ltb, leb_tells}
use Rattle.std.proofs.lemmas.List.{length-map, map-append}
use Rattle.std.proofs.lemmas.Str.{IsUtf8-from_is_utf8, is_utf8-from_IsUtf8}
use Rattle.indexmap.specs.IndexSet.{insert_key}
use Rattle.std.specs.Str.{IsUtf8, bytes_eq, is_utf8}
use Rattle.std.proofs.lemmas.List.Sums.{sum_by-cons}
use Rattle.std.proofs.lemmas.Slice.Eq.{bytes_eq-Decides}
use Rattle.psac_inputs.specs.declared.fault.TextFault.TheVariants.{Utf8, Limit}
use Rattle.psac_inputs.specs.Texts.{Texts, added, has_room, text_id}

module _ {V : Type 0} (items : V → List ℕ) where
  -- places among the texts are places among what holds them
  pub place-map : (b : List ℕ) (i : ℕ) (ks : List V) → position_from (λ k. bytes_eq b (items k)) i ks ≡ position_from (bytes_eq b) i (map items ks)
  place-map b i [] = refl
  place-map b i (k ∷ ks) = ap (cond (bytes_eq b (items k)) (Some i)) (place-map b (i + 1) ks)

  -- a text that the list lacks
  pub not_there : (eq : V → V → Bool) (v : V) (b : List ℕ) (i : ℕ) (ks : List V) → items v ≡ b → ((k : V) → eq v k ≡ bytes_eq (items v) (items k))
      → position_from (bytes_eq b) i (map items ks) ≡ None → list_any (eq v) ks ≡ false
  not_there eq v b i [] is same none = refl
  not_there eq v b i (k ∷ ks) is same none = by (bytes_eq b (items k)) (ap (λ c. bytes_eq c (items k)) (sym is)) none (not_there eq v b (i + 1) ks is same)
    where
      by : (t : Bool) → t ≡ bytes_eq (items v) (items k)
          → cond t (Some i) (position_from (bytes_eq b) (i + 1) (map items ks)) ≡ None
          → (position_from (bytes_eq b) (i + 1) (map items ks) ≡ None → list_any (eq v) ks ≡ false)
          → list_any (eq v) (k ∷ ks) ≡ false
      by true is none rest = absurd (let e : Some i ≡ None = none in cc)
      by false at none rest = rw (same k, ← at) (rest none)

-- a text of the list has no more bytes than all of them
pub found_short : (b : List ℕ) (i : ℕ) (ts : Texts) → IfSome (position_from (bytes_eq b) i ts) (λ k. (k < i + length ts) × (length b ≤ sum_by length ts))
found_short b i [] = tt
found_short b i (t ∷ ts) = by (bytes_eq b t) (bytes_eq-Decides b t).0 (found_short b (i + 1) ts)
  where
    by : (x : Bool) → (x ≡ true → b ≡ t) → IfSome (position_from (bytes_eq b) (i + 1) ts) (λ k. (k < i + 1 + length ts) × (length b ≤ sum_by length ts))
        → IfSome (cond x (Some i) (position_from (bytes_eq b) (i + 1) ts)) (λ k. (k < i + length (t ∷ ts)) × (length b ≤ sum_by length (t ∷ ts)))
    by true is rest = (omega arith, omega (arith, ap length (is refl), sum_by-cons length t ts))
    by false is rest = more (position_from (bytes_eq b) (i + 1) ts) rest
      where
        more : (o : Option ℕ) → IfSome o (λ k. (k < i + 1 + length ts) × (length b ≤ sum_by length ts))
            → IfSome o (λ k. (k < i + length (t ∷ ts)) × (length b ≤ sum_by length (t ∷ ts)))
        more None h = tt
        more (Some k) h = (omega (arith, h.0), omega (arith, h.1, sum_by-cons length t ts))

-- what `added` is, case by case
pub added_utf8 : (b : List ℕ) (ts : Texts) → is_utf8 b ≡ false → added b ts ≡ Err Utf8
added_utf8 b ts bad = rw bad refl

pub added_found : (b : List ℕ) (ts : Texts) (k : ℕ) → is_utf8 b ≡ true → position_from (bytes_eq b) 0 ts ≡ Some k → added b ts ≡ Ok (text_id k b, ts)
added_found b ts k good is = rw (good, is) refl

pub added_limit : (b : List ℕ) (ts : Texts) → is_utf8 b ≡ true → position_from (bytes_eq b) 0 ts ≡ None → has_room b ts ≡ false → added b ts ≡ Err Limit
added_limit b ts good new full = rw (good, new, full) refl

pub added_new : (b : List ℕ) (ts : Texts) → is_utf8 b ≡ true → position_from (bytes_eq b) 0 ts ≡ None → has_room b ts ≡ true
    → added b ts ≡ Ok (text_id (length ts) b, ts ++ b ∷ [])
added_new b ts good new room = rw (good, new, room) refl

both : (p q : Bool) → (p && q) ≡ true → (p ≡ true) × (q ≡ true)
both true true is = (refl, refl)
both true false is = absurd (true≢false (sym is))
both false q is = absurd (true≢false (sym is))

le_of : (a b : ℕ) → nat_le a b ≡ true → a ≤ b
le_of a b is = elim (leb_tells a b) [ inl h ↦ h.1 | inr h ↦ absurd (true≢false (sym is ∙ h.0)) ]

-- room is both limits kept
pub has_room-tells : (b : List ℕ) (ts : Texts) → has_room b ts ≡ true → (length ts < 65536) × (sum_by length ts + length b ≤ 16777216)
has_room-tells b ts room =
    let tests = both (nat_lt (length ts) 65536) (nat_le (sum_by length ts + length b) 16777216) room in
    ((Decides-ltb (length ts) 65536).0 tests.0, le_of (sum_by length ts + length b) 16777216 tests.1)

-- the limits that a place among the texts keeps
pub place_fits : (o p : Option ℕ) (n m l : ℕ) → o ≡ p → IfSome p (λ k. (k < 0 + n) × (l ≤ m)) → n ≤ 65536 → m ≤ 16777216
    → IfSome o (λ k. (k < 65536) × (l ≤ 16777216))
place_fits o None n m l is within few small = rw is tt
place_fits o (Some k) n m l is within few small = rw is (omega (arith, within.0), omega (arith, within.1))

-- the test of UTF-8
pub text_test : {A E : Type 0} (b : List ℕ) (P : A → Type 0) (Q : E → Type 0) → ((s : A) → P s → IsUtf8 b) → ((e : E) → Q e → IsUtf8 b → ⊥)
    → (r : Result A E) → MatchResult r P Q → is_ok r ≡ is_utf8 b
text_test b P Q good bad (Ok s) h = sym (is_utf8-from_IsUtf8 b (good s h))
text_test b P Q good bad (Err e) h = by (is_utf8 b) (IsUtf8-from_is_utf8 b) (bad e h)
  where
    by : (t : Bool) → (t ≡ true → IsUtf8 b) → (IsUtf8 b → ⊥) → false ≡ t
    by true is never = absurd (never (is refl))
    by false is never = refl

absent_place : {X : Type 0} (p : X → Bool) (xs : List X) → list_any p xs ≡ false → position_or_len p xs ≡ length xs
absent_place p [] none = refl
absent_place p (x ∷ xs) none = by (p x) none (absent_place p xs)
  where
    by : (t : Bool) → (t || list_any p xs) ≡ false → (list_any p xs ≡ false → position_or_len p xs ≡ length xs)
        → cond (not t) (1 + position_or_len p xs) 0 ≡ suc (length xs)
    by true none rest = absurd (true≢false none)
    by false none rest = let at = rest none in omega arith

-- what a new text makes of the list, and its place
pub pushed : {V : Type 0} (items : V → List ℕ) (v : V) (b : List ℕ) (ks new : List V) (place : ℕ) → items v ≡ b
    → position_from (bytes_eq b) 0 (map items ks) ≡ None
    → new ≡ insert_key (λ x y. bytes_eq (items x) (items y)) ks v → place ≡ position_or_len (λ y. bytes_eq (items v) (items y)) ks
    → (map items new ≡ map items ks ++ b ∷ []) × (place ≡ length (map items ks))
pushed items v b ks new place is none keys at =
    let absent : list_any (λ y. bytes_eq (items v) (items y)) ks ≡ false = not_there items (λ x y. bytes_eq (items x) (items y)) v b 0 ks is (λ k. refl) none in (
      ap (map items) keys ∙ rw absent (map-append items ks (v ∷ []) ∙ ap (λ c. map items ks ++ c ∷ []) is),
      at ∙ absent_place (λ y. bytes_eq (items v) (items y)) ks absent ∙ sym (length-map ks items),
    )
