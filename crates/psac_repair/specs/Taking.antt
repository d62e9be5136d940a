-- What a repair took off a record and what it made in its place: the subtrees strictly under blocks that were run again.
use Rattle.std.specs.Prelude.{List, [], ◌++◌, if◌then◌else◌}
use Rattle.psac_ops.specs.Named.{same_handle}
use Rattle.psac_traced.specs.Mending.{unlike}
use Rattle.psac_record.specs.Kept.{Kept, A, W, S, P, R, reads_of, added}

abbrev pub taken : Kept → Kept → List Kept
taken (A m old) (A n new) = taken old new
taken (W m x old) (W n y new) = taken old new
taken (S n t old) (S k u new) = taken t u ++ taken old new
taken (P n l r) (P k u w) = taken l u ++ taken r w
taken (R b t) (R c u) = if unlike same_handle (reads_of b.reads) (reads_of c.reads) then added t [] else taken t u
taken _ _ = []

abbrev pub given : Kept → Kept → List Kept
given (A m old) (A n new) = given old new
given (W m x old) (W n y new) = given old new
given (S n t old) (S k u new) = given t u ++ given old new
given (P n l r) (P k u w) = given l u ++ given r w
given (R b t) (R c u) = if unlike same_handle (reads_of b.reads) (reads_of c.reads) then added u [] else given t u
given _ _ = []
