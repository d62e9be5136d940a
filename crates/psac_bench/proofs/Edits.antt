-- The edits of a batch, one more at a time.
use Rattle.std.proofs.Common.{◌≡◌, ◌∙◌, ℕ, zero, suc, ◌+◌, ◌*◌, ◌≤◌, List, [], ◌∷◌, ◌++◌, refl, sym, ap, arith}
use Rattle.std.specs.Prelude.{◌%◌, pos, fold, map}
use Rattle.std.specs.List.{range_with_len}
use Rattle.std.proofs.lemmas.List.FromFn.{map-range_with_len_more}
use Rattle.std.proofs.lemmas.List.Sums.{fold-append}
use Rattle.psac_ops.specs.declared.plain.Plain.{Plain}
use Rattle.psac_ops.specs.declared.plain.Plain.TheVariants as plain
use Rattle.psac_inputs.specs.Grid.{Grid, with_cell}
use Rattle.psac_report.specs.Report.{bench_edit, row_of}

map_same : (xs : List ℕ) → map (λ x. x) xs ≡ xs
map_same [] = refl
map_same (x ∷ xs) = ap (λ ys. x ∷ ys) (map_same xs)

-- one more number
pub range_more : (a n j : ℕ) → a + n ≡ j → range_with_len a (n + 1) ≡ range_with_len a n ++ j ∷ []
range_more a n j is =
    sym (map_same (range_with_len a (n + 1))) ∙ map-range_with_len_more (λ x. x) a n j is ∙ ap (λ xs. xs ++ j ∷ []) (map_same (range_with_len a n))

-- one more step of a fold over numbers
pub folded_more : {Y : Type 0} (f : Y → ℕ → Y) (y : Y) (a n j : ℕ) → a + n ≡ j → fold f y (range_with_len a (n + 1)) ≡ f (fold f y (range_with_len a n)) j
folded_more f y a n j is = ap (fold f y) (range_more a n j is) ∙ fold-append f y (range_with_len a n) (j ∷ [])

pub row_is : (cells b j : ℕ) → 1 ≤ cells → row_of cells b j ≡ (b * 977 + j * 131) % cells
row_is zero b j some = absurd (omega arith)
row_is (suc c) b j some = refl

pub edit_more : (cells b j row : ℕ) (v : Plain) (g h k : Grid) → 1 ≤ cells → row ≡ (b * 977 + j * 131) % cells → v ≡ plain.Int (pos ((b * 31 + j * 17) % 1000))
    → h ≡ fold (bench_edit cells b) g (range_with_len 0 j) → k ≡ with_cell row 0 v h → k ≡ fold (bench_edit cells b) g (range_with_len 0 (j + 1))
edit_more cells b j row v g h k some row_at value before put =
    put ∙ rw (before, value, row_at, ← row_is cells b j some) (sym (folded_more (bench_edit cells b) g 0 j j (omega arith)))
