-- What a text is found to be beside a dump.
use Rattle.std.specs.Prelude.{ℕ, ◌+◌, nat_eq, if◌then◌else◌, List, Contains}
use Rattle.std.specs.Str.{bytes_eq}
use Rattle.std.specs.List.{common_prefix_len}
use Rattle.psac_model.specs.Fresh.{Outcome, Full}
use Rattle.psac_report.specs.Dump.{Verdict, Yes, No, Stopped}
use Rattle.psac_cert.specs.declared.judge.CertifyFault.{CertifyFault}
use Rattle.psac_cert.specs.declared.judge.CertifyFault.TheVariants as fault
use Rattle.psac_cert.specs.declared.verdict.Verdict.{Verdict as Found}
use Rattle.psac_cert.specs.declared.verdict.Verdict.TheVariants as found

abbrev pub verdict_view : Found → Verdict
verdict_view found.Yes = Yes
verdict_view (found.No at) = No at
verdict_view (found.Stopped kind line) = Stopped kind line

-- the verdict on two texts with so many bytes in common before them
abbrev pub parted : ℕ → List ℕ → List ℕ → Verdict
parted at rest left = if bytes_eq rest left then Yes else No (at + common_prefix_len nat_eq rest left)

-- why nothing is found of a text: the run's record is too large, or memory is wanting
abbrev pub IsUndecided : Outcome → CertifyFault → Type 0
IsUndecided (Full over) (fault.Full which) = Contains over which
IsUndecided o fault.NoMemory = Unit {0}
IsUndecided o (fault.Full which) = ⊥
