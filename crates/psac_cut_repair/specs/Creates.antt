-- What a commit that repairs creates, as the model counts it, and what a repair that was cut short drew.
use Rattle.std.specs.Prelude.{ℕ, Bool}
use Rattle.psac_inputs.specs.Grid.{Grid}
use Rattle.psac_model.specs.declared.ends.Size.{Size}
use Rattle.psac_model.specs.declared.ends.Caps.{Caps}
use Rattle.psac_model.specs.declared.ends.Mode.{Mode}
use Rattle.psac_model.specs.Tree.{size_of, add_size}
use Rattle.psac_model.specs.Fresh.{World, fresh}
use Rattle.psac_model.specs.Redo.{redo}
use Rattle.psac_model.specs.Work.{inside, mode_of}
use Rattle.psac_traced.specs.Rec.{Rec}
use Rattle.psac_traced.specs.Mending.{mended}
use Rattle.psac_cut.specs.Within.{some_mods}

-- what stands inside the blocks that are run again, in the run on the later grid
abbrev pub creates : World → Grid → Grid → Size
creates w g h = inside (redo (fresh w g).tree (fresh w h).tree) (fresh w h).tree

-- the mode of a commit that finds the run on the first grid
abbrev pub mode_from : World → Caps → Grid → Grid → Mode
mode_from w caps g h = mode_of caps (size_of (fresh w g).tree) (creates w g h)

-- what was made in the blocks that were run again, and modifiables in vain
abbrev pub cut_drew : {N : Type 0} → (N → N → Bool) → Rec N → Rec N → ℕ → Size
cut_drew same old new n = add_size (mended same old new).added (some_mods n)
