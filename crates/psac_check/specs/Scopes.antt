-- The names in scope, as the checker keeps them, and what two branches or sides leave.
use Rattle.std.specs.Prelude.{ℕ, ◌&&◌, List, ◌++◌, map, Result, Ok}
use Rattle.psac_ops.specs.Table.{◌>>=◌}
use Rattle.psac_model.specs.Series.{Dest, Scope, Fault, BranchesDiffer, WrittenInBothSides, all_in, without, unless, so}
use Rattle.psac_check.specs.declared.names.Dest.{Dest as Kept}

abbrev pub dests_of : List Kept → List Dest
dests_of = map (λ d. (d.name, d.line))

-- behind the second branch of an `if`: it leaves the same set as the first
abbrev pub if_left : ℕ → Scope → List ℕ → Result (List ℕ) Fault → Result (Scope × List ℕ) Fault
if_left line s first given = do
  second ← given
  so (unless (all_in first second && all_in second first) BranchesDiffer) line (Ok (s, first))

-- behind the second side of a `par`: it writes nothing that the first writes, beyond what was written before
abbrev pub par_left : ℕ → Scope → List ℕ → List ℕ → Result (List ℕ) Fault → Result (Scope × List ℕ) Fault
par_left line s w first given = do
  second ← given
  so (unless (all_in first (w ++ without second first)) WrittenInBothSides) line (Ok (s, first ++ without first second))
