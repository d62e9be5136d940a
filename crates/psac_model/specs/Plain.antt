-- What a plain run tells.
use Rattle.std.specs.Prelude.{◌≡◌, ℕ, ◌-◌, ◌^◌, nat_lt, if◌then◌else◌, List, []}
use Rattle.psac_model.specs.declared.ends.End.{End}
use Rattle.psac_model.specs.declared.ends.End.TheVariants.{Done, Stop}
use Rattle.psac_model.specs.declared.ends.Size.{Size}
use Rattle.psac_model.specs.declared.ends.Shown.{Shown}
use Rattle.psac_model.specs.Names.{Name, Heap}
use Rattle.psac_model.specs.Tree.{size_of}
use Rattle.psac_model.specs.Run.{Ran}
use Rattle.psac_model.specs.Outputs.{outputs_from}

-- the greatest number of 64 bits where a count would pass it
abbrev pub capped_count : ℕ → ℕ
capped_count n = if nat_lt n (2 ^ 64) then n else 2 ^ 64 - 1

abbrev pub capped : Size → Size
capped z = record { s = capped_count z.s; p = capped_count z.p; r = capped_count z.r; mods = capped_count z.mods; links = capped_count z.links }

-- the outputs, and none of a run that stopped
abbrev pub outputs_at : End → List Shown → List Shown
outputs_at Done told = told
outputs_at (Stop k line) told = []

-- what is told of a run with these destinations
pub record Tells (r : Ran Name Heap) (outs : List ℕ) (end : End) (told : List Shown) (size : Size) : Type 0 where
  pub how : end ≡ r.end
  pub which : told ≡ outputs_at r.end (outputs_from r.heap 0 outs)
  pub many : size ≡ capped (size_of r.tree)
