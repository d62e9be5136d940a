-- The sums over commits, as the code has them.
use Rattle.std.specs.Prelude.{ℕ, ◌+◌}
use Rattle.psac_report.specs.Report.{Totals as Sums}
use Rattle.psac_bench.specs.declared.totals.Totals.{Totals}

abbrev pub sums_of : Totals → Sums
sums_of t =
    record { repaired = t.repaired; anew = t.anew; failed = t.failed; visited = t.visited; rerun = t.rerun; inside = t.inside; dropped = t.dropped }

-- over how many commits they are
abbrev pub commits_of : Totals → ℕ
commits_of t = t.repaired + t.anew + t.failed

-- one more commit after which no run is kept
abbrev pub with_failed : Sums → Sums
with_failed t = record t { failed = t.failed + 1 }
