-- Worked rows, computed.
use Rattle.std.proofs.Common.{◌≡◌, refl, [], ◌∷◌, codes}
use Rattle.psac_rows.specs.Opened.{opened, caps, column}
use Rattle.psac_rows.specs.Programs.{world}
use Rattle.psac_rows.specs.Programs as programs
use Rattle.psac_inputs.specs.Grid.{widened}
use Rattle.psac_report.specs.Report.{session_report}

rows_come_and_go : session_report (world programs.present_sum) (caps) (widened 4 (column (1 ∷ 2 ∷ []))) ([]) (codes "commit\nshow\nset 2 0 7\nrows 5\nrows 3\nset 2 0 7\ncommit\nshow\nrows 2\nrows 3\ncommit\nrows 1\ncommit\nshow\n") ≡ codes "mode=anew visited=0 rerun=0 inside=4 dropped=0 nodes=17 mods=2 links=5\nout = 3\nrefused range\nrefused range\nmode=repair visited=2 rerun=1 inside=5 dropped=3 nodes=25 mods=4 links=7\nout = 10\nfault kind line 14\nmode=anew visited=0 rerun=0 inside=2 dropped=0 nodes=7 mods=0 links=2\nout = 1\n"
unfolding opened
rows_come_and_go = refl

rows_unread : session_report (world programs.sum) (caps) (widened 4 (column (1 ∷ 2 ∷ []))) ([]) (codes "commit\nrows 3\ncommit\n") ≡ codes "mode=anew visited=0 rerun=0 inside=3 dropped=0 nodes=14 mods=2 links=4\nmode=repair visited=0 rerun=0 inside=0 dropped=0 nodes=0 mods=0 links=0\n"
unfolding opened
rows_unread = refl
