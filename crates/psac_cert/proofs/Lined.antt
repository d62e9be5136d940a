-- The lines of records that are left.
use Rattle.std.proofs.Common.{◌≡◌, ◌∙◌, ℕ, List, [], ◌∷◌, ◌++◌, reverse, refl, ap, sym, append_assoc}
use Rattle.std.specs.Prelude.{flat_map, codes}
use Rattle.std.specs.Borrow.{Bor}
use Rattle.std.proofs.lemmas.List.{append-nil, reverse-append}
use Rattle.psac_ops.specs.declared.plain.Handle.{Handle}
use Rattle.psac_ops.specs.declared.plain.Plain.{Plain}
use Rattle.psac_record.specs.declared.record.Record.{Record}
use Rattle.psac_record.specs.declared.parts.Reading.{Reading}
use Rattle.psac_record.specs.Kept.{Kept, E, A, W, S, P, R}
use Rattle.psac_record.specs.Shown.{kept_of}
use Rattle.psac_cert.specs.declared.dictionary.Dictionary.{Dictionary}
use Rattle.psac_cert.specs.Lines.{block_line, lines_left, lines_of, write_line}

-- the last of what is left comes first
pub left_last : (d : Dictionary) (left : List (Bor Record)) (r : Bor Record) → lines_left d (left ++ r ∷ []) ≡ lines_of d (kept_of r.now) ++ lines_left d left
left_last d left r = ap (flat_map (λ (s : Bor Record). lines_of d (kept_of s.now))) (reverse-append left (r ∷ []))

-- a line, and what stands in a record's first part
module _ (d : Dictionary) (k : Kept) (left new : List (Bor Record)) (line : List ℕ) where
  abbrev Led : Type 0
  Led = lines_of d k ++ lines_left d left ≡ line ++ lines_left d new

  on : (j : Kept) → k ≡ j → lines_of d j ++ lines_left d left ≡ line ++ lines_left d new → Led
  on j is led = ap (λ (x : Kept). lines_of d x ++ lines_left d left) is ∙ led

  one : (front : List ℕ) (r : Bor Record) → line ≡ front → new ≡ left ++ r ∷ []
      → (front ++ lines_of d (kept_of r.now)) ++ lines_left d left ≡ line ++ lines_left d new
  one front r told pushed =
      append_assoc front (lines_of d (kept_of r.now)) (lines_left d left)
      ∙ ap (λ (xs : List ℕ). front ++ xs) (sym (left_last d left r) ∙ ap (lines_left d) (sym pushed))
      ∙ ap (λ (xs : List ℕ). xs ++ lines_left d new) (sym told)

  two : (front : List ℕ) (r s : Bor Record) (mid : List (Bor Record)) → line ≡ front → mid ≡ left ++ s ∷ [] → new ≡ mid ++ r ∷ []
      → (front ++ (lines_of d (kept_of r.now) ++ lines_of d (kept_of s.now))) ++ lines_left d left ≡ line ++ lines_left d new
  two front r s mid told first second =
      append_assoc front (lines_of d (kept_of r.now) ++ lines_of d (kept_of s.now)) (lines_left d left)
      ∙ ap (λ (xs : List ℕ). front ++ xs)
      (append_assoc (lines_of d (kept_of r.now)) (lines_of d (kept_of s.now)) (lines_left d left)
      ∙ ap (λ (xs : List ℕ). lines_of d (kept_of r.now) ++ xs) (sym (left_last d left s) ∙ ap (lines_left d) (sym first))
      ∙ sym (left_last d mid r) ∙ ap (lines_left d) (sym second))
      ∙ ap (λ (xs : List ℕ). xs ++ lines_left d new) (sym told)

  pub led_end : k ≡ E → line ≡ codes "E\n" → new ≡ left → Led
  led_end is told same = on E is (ap (λ (xs : List ℕ). xs ++ lines_left d left) (sym told) ∙ ap (λ (xs : List (Bor Record)). line ++ lines_left d xs) (sym same))

  pub led_made : (g : Handle) (r : Bor Record) → k ≡ A g (kept_of r.now) → line ≡ codes "A\n" → new ≡ left ++ r ∷ [] → Led
  led_made g r is told pushed = on (A g (kept_of r.now)) is (one (codes "A\n") r told pushed)

  pub led_wrote : (g : Handle) (v : Plain) (r : Bor Record) → k ≡ W g v (kept_of r.now) → line ≡ write_line d g v → new ≡ left ++ r ∷ [] → Led
  led_wrote g v r is told pushed = on (W g v (kept_of r.now)) is (one (write_line d g v) r told pushed)

  pub led_step : (node : Handle) (r s : Bor Record) (mid : List (Bor Record)) → k ≡ S node (kept_of r.now) (kept_of s.now) → line ≡ codes "S\n"
      → mid ≡ left ++ s ∷ [] → new ≡ mid ++ r ∷ [] → Led
  led_step node r s mid is told first second = on (S node (kept_of r.now) (kept_of s.now)) is (two (codes "S\n") r s mid told first second)

  pub led_both : (node : Handle) (r s : Bor Record) (mid : List (Bor Record)) → k ≡ P node (kept_of r.now) (kept_of s.now) → line ≡ codes "P\n"
      → mid ≡ left ++ s ∷ [] → new ≡ mid ++ r ∷ [] → Led
  led_both node r s mid is told first second = on (P node (kept_of r.now) (kept_of s.now)) is (two (codes "P\n") r s mid told first second)

  pub led_block : (reading : Reading) (r : Bor Record) → k ≡ R reading (kept_of r.now) → line ≡ block_line d reading → new ≡ left ++ r ∷ [] → Led
  led_block reading r is told pushed = on (R reading (kept_of r.now)) is (one (block_line d reading) r told pushed)

-- what was appended to an empty line
pub pushed_on : {old new more : List ℕ} → old ≡ [] → new ≡ old ++ more → new ≡ more
pushed_on {old} {new} {more} none is = is ∙ ap (λ (xs : List ℕ). xs ++ more) none

pub left_one : (d : Dictionary) (r : Bor Record) → lines_left d (r ∷ []) ≡ lines_of d (kept_of r.now)
left_one d r = append-nil (lines_of d (kept_of r.now))
