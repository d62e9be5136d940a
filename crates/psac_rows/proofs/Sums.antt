-- Worked rows, computed.
use Rattle.std.proofs.Common.{◌≡◌, refl, [], ◌∷◌, codes}
use Rattle.psac_rows.specs.Opened.{opened, caps, column}
use Rattle.psac_rows.specs.Programs.{world}
use Rattle.psac_rows.specs.Programs as programs
use Rattle.psac_report.specs.Report.{session_report, once_report}

doubled : once_report (world programs.double) (caps) (column (21 ∷ [])) ([]) ≡ codes "out = 42\n"
unfolding opened
doubled = refl

sum_of_four : session_report (world programs.sum) (caps) (column (1 ∷ 2 ∷ 3 ∷ 4 ∷ [])) ([]) (codes "commit\nshow\ntree\n") ≡ codes "mode=anew visited=0 rerun=0 inside=7 dropped=0 nodes=34 mods=6 links=10\nout = 10\nS=24 P=3 R=7 mods=6 links=10\n"
unfolding opened
sum_of_four = refl

one_cell_changed : session_report (world programs.sum) (caps) (column (1 ∷ 2 ∷ 3 ∷ 4 ∷ [])) ([]) (codes "commit\nshow\ntree\nset 0 0 5\ncommit\nshow\n") ≡ codes "mode=anew visited=0 rerun=0 inside=7 dropped=0 nodes=34 mods=6 links=10\nout = 10\nS=24 P=3 R=7 mods=6 links=10\nmode=repair visited=16 rerun=3 inside=0 dropped=0 nodes=0 mods=0 links=0\nout = 14\n"
unfolding opened
one_cell_changed = refl

same_partial_sum : session_report (world programs.sum) (caps) (column (1 ∷ 2 ∷ 3 ∷ 4 ∷ [])) ([]) (codes "commit\nset 0 0 2\nset 1 0 1\ncommit\nshow\n") ≡ codes "mode=anew visited=0 rerun=0 inside=7 dropped=0 nodes=34 mods=6 links=10\nmode=repair visited=18 rerun=3 inside=0 dropped=0 nodes=0 mods=0 links=0\nout = 10\n"
unfolding opened
same_partial_sum = refl

set_back : session_report (world programs.sum) (caps) (column (1 ∷ 2 ∷ 3 ∷ 4 ∷ [])) ([]) (codes "commit\nset 0 0 5\nset 0 0 1\ncommit\n") ≡ codes "mode=anew visited=0 rerun=0 inside=7 dropped=0 nodes=34 mods=6 links=10\nmode=repair visited=0 rerun=0 inside=0 dropped=0 nodes=0 mods=0 links=0\n"
unfolding opened
set_back = refl

all_cells_changed : session_report (world programs.sum) (caps) (column (1 ∷ 2 ∷ 3 ∷ 4 ∷ [])) ([]) (codes "commit\nset 0 0 10\nset 1 0 20\nset 2 0 30\nset 3 0 40\ncommit\nshow\n") ≡ codes "mode=anew visited=0 rerun=0 inside=7 dropped=0 nodes=34 mods=6 links=10\nmode=repair visited=34 rerun=7 inside=0 dropped=0 nodes=0 mods=0 links=0\nout = 100\n"
unfolding opened
all_cells_changed = refl

nothing_staged : session_report (world programs.sum) (caps) (column (1 ∷ 2 ∷ 3 ∷ 4 ∷ [])) ([]) (codes "commit\ncommit\n") ≡ codes "mode=anew visited=0 rerun=0 inside=7 dropped=0 nodes=34 mods=6 links=10\nmode=repair visited=0 rerun=0 inside=0 dropped=0 nodes=0 mods=0 links=0\n"
unfolding opened
nothing_staged = refl

cut_last_line : session_report (world programs.sum) caps (column (1 ∷ 2 ∷ [])) [] (codes "commit\nsho") ≡ codes "mode=anew visited=0 rerun=0 inside=3 dropped=0 nodes=14 mods=2 links=4\nrefused form\n"
unfolding opened
cut_last_line = refl

refusals_before_a_commit : session_report (world programs.sum) (caps) (column (1 ∷ 2 ∷ 3 ∷ 4 ∷ [])) ([]) (codes "show\ntree\nset 4 0 1\nheld 5\nhold 64 out 0\n") ≡ codes "none\nnone\nrefused range\nrefused empty\nrefused range\n"
unfolding opened
refusals_before_a_commit = refl

tight_caps : session_report (world programs.sum) (record { nodes = 34; mods = 6; links = 10 }) (column (1 ∷ 2 ∷ 3 ∷ 4 ∷ [])) ([]) (codes "commit\nset 0 0 5\ncommit\nshow\n") ≡ codes "mode=anew visited=0 rerun=0 inside=7 dropped=0 nodes=34 mods=6 links=10\nmode=repair visited=16 rerun=3 inside=0 dropped=0 nodes=0 mods=0 links=0\nout = 14\n"
unfolding opened
tight_caps = refl

one_node_too_few : session_report (world programs.sum) (record { nodes = 33; mods = 6; links = 10 }) (column (1 ∷ 2 ∷ 3 ∷ 4 ∷ [])) ([]) (codes "commit\nshow\n") ≡ codes "full\nnone\n"
unfolding opened
one_node_too_few = refl

one_modifiable_too_few : session_report (world programs.sum) (record { nodes = 34; mods = 5; links = 10 }) (column (1 ∷ 2 ∷ 3 ∷ 4 ∷ [])) ([]) (codes "commit\nshow\n") ≡ codes "full\nnone\n"
unfolding opened
one_modifiable_too_few = refl

one_read_too_few : session_report (world programs.sum) (record { nodes = 34; mods = 6; links = 9 }) (column (1 ∷ 2 ∷ 3 ∷ 4 ∷ [])) ([]) (codes "commit\nshow\n") ≡ codes "full\nnone\n"
unfolding opened
one_read_too_few = refl
