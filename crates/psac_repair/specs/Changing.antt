-- What a block reads now, where that isn't what it read.
use Rattle.std.specs.Prelude.{◌≡◌, true, List, map}
use Rattle.psac_ops.specs.declared.plain.Handle.{Handle}
use Rattle.psac_ops.specs.Named.{same_handle}
use Rattle.psac_values.specs.declared.view.ValueView.{ValueView}
use Rattle.psac_traced.specs.Mending.{unlike}
use Rattle.psac_record.specs.declared.parts.Seen.{Seen}
use Rattle.psac_record.specs.Kept.{reads_of, stands}
use Rattle.psac_repair.specs.Seen.{Now}

-- other words of the same modifiables, by the same links, and they are what the pass knows
pub record Changed (v : ValueView) (reads again : List Seen) : Type 0 where
  pub links : (n : Handle) → map (stands n) again ≡ map (stands n) reads
  pub now : Now v (reads_of reads) (reads_of again)
  pub other : unlike same_handle (reads_of reads) (reads_of again) ≡ true
