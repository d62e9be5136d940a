-- Worked rows, computed.
use Rattle.std.proofs.Common.{◌≡◌, refl, [], codes}
use Rattle.psac_rows.specs.Opened.{opened, caps}
use Rattle.psac_rows.specs.Programs.{world}
use Rattle.psac_rows.specs.Programs as programs
use Rattle.psac_report.specs.Report.{bench_report, bench_grid}

bench_of_four : bench_report (world programs.sum) caps (bench_grid 4) [] 4 1 ≡ codes "cells=4 batches=1 repaired=1 anew=1 failed=0 visited=34 rerun=7 inside=7 dropped=0\nout = 1042\n"
unfolding opened
bench_of_four = refl
