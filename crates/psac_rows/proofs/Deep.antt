-- Worked rows, computed.
use Rattle.std.proofs.Common.{◌≡◌, refl, [], ◌∷◌, codes}
use Rattle.psac_rows.specs.Opened.{opened, caps, column}
use Rattle.psac_rows.specs.Programs.{world}
use Rattle.psac_rows.specs.Programs as programs
use Rattle.psac_model.specs.Tree.{size_of}
use Rattle.psac_model.specs.Fresh.{fresh}
use Rattle.psac_report.specs.Report.{session_report, once_report}

too_deep_faults : once_report (world programs.too_deep) (caps) (column ([])) ([]) ≡ codes "fault depth line 4\n"
unfolding opened
too_deep_faults = refl

deep_ends : once_report (world programs.deep) (caps) (column ([])) ([]) ≡ codes "out = 148\n"
unfolding opened
deep_ends = refl

deep_size : (size_of (fresh (world programs.deep) (column ([]))).tree).s ≡ 298
unfolding opened
deep_size = refl

deep_read_repaired : session_report (world programs.deep_read) (caps) (column (3 ∷ [])) ([]) (codes "commit\nshow\nset 0 0 4\ncommit\nshow\n") ≡ codes "mode=anew visited=0 rerun=0 inside=1 dropped=0 nodes=300 mods=0 links=1\nout = 3\nmode=repair visited=300 rerun=1 inside=0 dropped=0 nodes=0 mods=0 links=0\nout = 4\n"
unfolding opened
deep_read_repaired = refl

too_deep_read_faults : once_report (world programs.too_deep_read) (caps) (column (3 ∷ [])) ([]) ≡ codes "fault depth line 4\n"
unfolding opened
too_deep_read_faults = refl

many_pars_counted : session_report (world programs.many_pars) (caps) (column ([])) ([]) (codes "commit\nshow\ntree\n") ≡ codes "mode=anew visited=0 rerun=0 inside=70 dropped=0 nodes=422 mods=70 links=70\nout = 70\nS=282 P=70 R=70 mods=70 links=70\n"
unfolding opened
many_pars_counted = refl
