-- What an engine's pass has of the inputs and outputs. Each fact is one that has at most one proof.
use Rattle.std.specs.Prelude.{◌≡◌, ℕ, pos, ◌+◌, ◌*◌, ◌<◌, ◌==◌, if◌then◌else◌, List, [], ◌∷◌, Option, Some, None, option_map, option_and_then, count_by}
use Rattle.psac_ops.specs.declared.plain.Plain.{Plain}
use Rattle.psac_ops.specs.declared.plain.Plain.TheVariants.{Int}
use Rattle.psac_ops.specs.Words.{of_words}
use Rattle.psac_slots.specs.Handles.{Member}
use Rattle.psac_values.specs.declared.view.OwnedView.{OwnedView}
use Rattle.psac_values.specs.declared.view.ValueView.{ValueView}
use Rattle.psac_inputs.specs.Grid.{Grid, cell}
use Rattle.psac_plain.specs.Opened.{first_output}

-- what a pass knows of the words of a slot that it may write; the first entry of the slot counts
abbrev pub words_in : ℕ → List OwnedView → Option (List (Option ℕ))
words_in s [] = None
words_in s (w ∷ ws) = if w.of.slot == s then Some w.words else words_in s ws

-- all words, where each is known
abbrev pub all_known : List (Option ℕ) → Option (List ℕ)
all_known [] = Some []
all_known (None ∷ ws) = None
all_known (Some x ∷ ws) = option_map (λ xs. x ∷ xs) (all_known ws)

-- the value that a pass knows of a slot that it may write
abbrev pub value_in : ℕ → List OwnedView → Option Plain
value_in s mine = option_and_then of_words (option_and_then all_known (words_in s mine))

abbrev pub entries : ℕ → List OwnedView → ℕ
entries s mine = count_by (λ w. w.of.slot == s) mine

-- the words of each cell and of the number of rows are the grid's
pub record HasGrid (g : Grid) (outs : ℕ) (v : ValueView) : Type 0 where
  pub cells : (r c : ℕ) (x : Plain) → cell r c g ≡ Some x → value_in (r * g.cols + c) v.mine ≡ Some x
  pub row_count : value_in (first_output g + outs) v.mine ≡ Some (Int (pos g.rows))

-- the pass has each fixed slot once, with generation 0, and shares none
pub record HasFixed (fixed : ℕ) (v : ValueView) : Type 0 where
  pub fixed_is : v.fixed ≡ fixed
  pub once : (s : ℕ) → s < fixed → entries s v.mine ≡ 1
  pub first : (w : OwnedView) → Member w v.mine → w.of.slot < fixed → w.of.generation ≡ 0
  pub alone : v.known ≡ []

-- the pass has nothing else
abbrev pub IsBare : ℕ → ValueView → Type 0
IsBare fixed v = (w : OwnedView) → Member w v.mine → w.of.slot < fixed
