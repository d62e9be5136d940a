-- A list of distinct texts stays one.
use Rattle.std.proofs.Common.{◌≡◌, ℕ, zero, suc, ◌+◌, true, List, [], ◌∷◌, ◌++◌, length, Option, Some, None, Ok, slice_get, ◌⊎◌, inl, inr, refl, ap, sym, ◌∙◌, subst}
use Rattle.std.specs.List.{position_from}
use Rattle.std.specs.Str.{bytes_eq, is_utf8}
use Rattle.std.proofs.lemmas.Slice.Eq.{bytes_eq-Decides}
use Rattle.psac_ops.specs.declared.plain.TextId.{TextId}
use Rattle.psac_ops.specs.declared.plain.Plain.{Plain}
use Rattle.psac_base.specs.Number as decimal
use Rattle.psac_inputs.specs.Texts.{Texts, has_room, placed, added, field, field_by}
use Rattle.psac_laws.proofs.Places.{none_some, some_is, test_or}
use Rattle.psac_laws.proofs.Results.{ok_is, ok_then}
use Rattle.psac_series.specs.Texts.{AreDistinct}

-- what stands at a place of a list with one more
at_more : (xs : Texts) (new : List ℕ) (i : ℕ) (bytes : List ℕ) → slice_get (xs ++ new ∷ []) i ≡ Some bytes
    → (slice_get xs i ≡ Some bytes) ⊎ ((i ≡ length xs) × (new ≡ bytes))
at_more [] new zero bytes h = inr (refl, some_is h)
at_more [] new (suc i) bytes h = absurd cc
at_more (x ∷ xs) new zero bytes h = inl h
at_more (x ∷ xs) new (suc i) bytes h =
    elim (at_more xs new i bytes h) [
      | inl q ↦ inl q
      | inr q ↦ inr (ap suc q.0, q.1)
    ]

-- a text that isn't found stands nowhere
not_there : (xs : Texts) (new : List ℕ) (from i : ℕ) → position_from (bytes_eq new) from xs ≡ None
    → slice_get xs i ≡ Some new → ⊥
not_there [] new from i h e = absurd cc
not_there (x ∷ xs) new from zero h e =
    let same : new ≡ x = sym (some_is e) in
    let t : bytes_eq new x ≡ true = (bytes_eq-Decides new x).1 same in
    let k : Some from ≡ None = rw t at h in
    none_some (sym k)
not_there (x ∷ xs) new from (suc i) h e =
    elim (test_or (bytes_eq new x)) [
      | inl t ↦ (let k : Some from ≡ None = rw t at h in none_some (sym k))
      | inr t ↦ (let k : position_from (bytes_eq new) (from + 1) xs ≡ None = rw t at h in not_there xs new
          (from + 1) i k e)
    ]

distinct_more : (xs : Texts) (new : List ℕ) → position_from (bytes_eq new) 0 xs ≡ None → AreDistinct xs
    → AreDistinct (xs ++ new ∷ [])
distinct_more xs new none apart i j bytes e f =
    elim (at_more xs new i bytes e) [
      | inl p ↦
          elim (at_more xs new j bytes f) [
            | inl q ↦ apart i j bytes p q
            | inr q ↦ absurd (not_there xs new 0 i none (subst (λ z. slice_get xs i ≡ Some z) (sym q.1) p))
          ]
      | inr p ↦
          elim (at_more xs new j bytes f) [
            | inl q ↦ absurd (not_there xs new 0 j none (subst (λ z. slice_get xs j ≡ Some z) (sym p.1) q))
            | inr q ↦ p.0 ∙ sym q.0
          ]
    ]

placed_distinct : (bytes : List ℕ) (texts : Texts) (found : Option ℕ) (told : TextId × Texts)
    → position_from (bytes_eq bytes) 0 texts ≡ found → AreDistinct texts → placed bytes texts found ≡ Ok told
    → AreDistinct told.1
placed_distinct bytes texts (Some place) told none apart h = subst (λ (z : TextId × Texts). AreDistinct z.1)
    (ok_is h) apart
placed_distinct bytes texts None told none apart h =
    elim (test_or (has_room bytes texts)) [
      | inl t ↦ subst (λ (z : TextId × Texts). AreDistinct z.1) (ok_is (rw t at h))
          (distinct_more texts bytes none apart)
      | inr t ↦ absurd (let k = rw t at h in cc)
    ]

pub added_distinct : (bytes : List ℕ) (texts : Texts) (told : TextId × Texts) → AreDistinct texts
    → added bytes texts ≡ Ok told → AreDistinct told.1
added_distinct bytes texts told apart h =
    elim (test_or (is_utf8 bytes)) [
      | inl t ↦ placed_distinct bytes texts (position_from (bytes_eq bytes) 0 texts) told refl apart (rw t at h)
      | inr t ↦ absurd (let k = rw t at h in cc)
    ]

field_distinct_by : (o : Option _) (bytes : List ℕ) (texts : Texts) (told : Plain × Texts) → AreDistinct texts
    → field_by o bytes texts ≡ Ok told → AreDistinct told.1
field_distinct_by (Some i) bytes texts told apart h = subst (λ (z : Plain × Texts). AreDistinct z.1) (ok_is h) apart
field_distinct_by None bytes texts told apart h =
    let a = ok_then (added bytes texts) _ told h in
    subst (λ (z : Plain × Texts). AreDistinct z.1) (ok_is a.2) (added_distinct bytes texts a.0 apart a.1)

pub field_distinct : (bytes : List ℕ) (texts : Texts) (told : Plain × Texts) → AreDistinct texts
    → field bytes texts ≡ Ok told → AreDistinct told.1
field_distinct bytes texts told apart h = field_distinct_by (decimal.int_of bytes) bytes texts told apart h
