-- Worked rows, computed.
use Rattle.std.proofs.Common.{◌≡◌, refl, [], ◌∷◌, codes, length, Some, None, pos}
use Rattle.psac_model.specs.declared.ends.Shown.TheVariants as shown
use Rattle.psac_rows.specs.Opened.{opened, caps, column, told_of}
use Rattle.psac_rows.specs.Programs.{world}
use Rattle.psac_rows.specs.Programs as programs
use Rattle.psac_inputs.specs.Load.{loaded, loaded_lines}
use Rattle.psac_model.specs.Fresh.{fresh}
use Rattle.psac_report.specs.Dump.{dump, dump_report, verdict, verdict_line}
use Rattle.psac_report.specs.Report.{session_report, once_report, watch_report, seen_of}

made_again_differs : session_report (world programs.made_again) (caps) (column (11 ∷ [])) ([]) (codes "commit\nshow\nset 0 0 12\ncommit\nshow\n") ≡ codes "mode=anew visited=0 rerun=0 inside=3 dropped=0 nodes=6 mods=2 links=3\nout = 1\nmode=repair visited=4 rerun=2 inside=1 dropped=1 nodes=2 mods=1 links=1\nout = 1\n"
unfolding opened
made_again_differs = refl

nested_runs_once : session_report (world programs.nested) (caps) (column (3 ∷ [])) ([]) (codes "commit\nshow\nset 0 0 4\ncommit\nshow\n") ≡ codes "mode=anew visited=0 rerun=0 inside=2 dropped=0 nodes=4 mods=0 links=2\nout = 6\nmode=repair visited=2 rerun=1 inside=1 dropped=1 nodes=2 mods=0 links=1\nout = 8\n"
unfolding opened
nested_runs_once = refl

overflow_and_recovery : session_report (world programs.double) (caps) (column (4611686018427387903 ∷ [])) ([]) (codes "commit\nshow\nset 0 0 4611686018427387904\ncommit\nshow\nset 0 0 1\ncommit\nshow\n") ≡ codes "mode=anew visited=0 rerun=0 inside=1 dropped=0 nodes=2 mods=0 links=1\nout = 9223372036854775806\nfault overflow line 3\nnone\nmode=anew visited=0 rerun=0 inside=1 dropped=0 nodes=2 mods=0 links=1\nout = 2\n"
unfolding opened
overflow_and_recovery = refl

left_fault_counts : once_report (world programs.both_fault) (caps) (column ([])) ([]) ≡ codes "fault divzero line 3\n"
unfolding opened
left_fault_counts = refl

anew_where_over_the_cap : session_report (world programs.made_again) (record caps { nodes = 7 }) (column (11 ∷ [])) ([]) (codes "commit\nshow\nset 0 0 12\ncommit\nshow\n") ≡ codes "mode=anew visited=0 rerun=0 inside=3 dropped=0 nodes=6 mods=2 links=3\nout = 1\nmode=anew visited=0 rerun=0 inside=3 dropped=0 nodes=6 mods=2 links=3\nout = 1\n"
unfolding opened
anew_where_over_the_cap = refl

repair_within_the_cap : session_report (world programs.made_again) (record caps { nodes = 8 }) (column (11 ∷ [])) ([]) (codes "commit\nshow\nset 0 0 12\ncommit\nshow\n") ≡ codes "mode=anew visited=0 rerun=0 inside=3 dropped=0 nodes=6 mods=2 links=3\nout = 1\nmode=repair visited=4 rerun=2 inside=1 dropped=1 nodes=2 mods=1 links=1\nout = 1\n"
unfolding opened
repair_within_the_cap = refl

anew_where_over_the_cap_of_modifiables : session_report (world programs.made_again) (record caps { mods = 2 }) (column (11 ∷ [])) ([]) (codes "commit\nshow\nset 0 0 12\ncommit\nshow\n") ≡ codes "mode=anew visited=0 rerun=0 inside=3 dropped=0 nodes=6 mods=2 links=3\nout = 1\nmode=anew visited=0 rerun=0 inside=3 dropped=0 nodes=6 mods=2 links=3\nout = 1\n"
unfolding opened
anew_where_over_the_cap_of_modifiables = refl

repair_within_the_cap_of_modifiables : session_report (world programs.made_again) (record caps { mods = 3 }) (column (11 ∷ [])) ([]) (codes "commit\nshow\nset 0 0 12\ncommit\nshow\n") ≡ codes "mode=anew visited=0 rerun=0 inside=3 dropped=0 nodes=6 mods=2 links=3\nout = 1\nmode=repair visited=4 rerun=2 inside=1 dropped=1 nodes=2 mods=1 links=1\nout = 1\n"
unfolding opened
repair_within_the_cap_of_modifiables = refl

anew_where_over_the_cap_of_reads : session_report (world programs.made_again) (record caps { links = 3 }) (column (11 ∷ [])) ([]) (codes "commit\nshow\nset 0 0 12\ncommit\nshow\n") ≡ codes "mode=anew visited=0 rerun=0 inside=3 dropped=0 nodes=6 mods=2 links=3\nout = 1\nmode=anew visited=0 rerun=0 inside=3 dropped=0 nodes=6 mods=2 links=3\nout = 1\n"
unfolding opened
anew_where_over_the_cap_of_reads = refl

repair_within_the_cap_of_reads : session_report (world programs.made_again) (record caps { links = 4 }) (column (11 ∷ [])) ([]) (codes "commit\nshow\nset 0 0 12\ncommit\nshow\n") ≡ codes "mode=anew visited=0 rerun=0 inside=3 dropped=0 nodes=6 mods=2 links=3\nout = 1\nmode=repair visited=4 rerun=2 inside=1 dropped=1 nodes=2 mods=1 links=1\nout = 1\n"
unfolding opened
repair_within_the_cap_of_reads = refl

full_each_time : session_report (world programs.made_again) (record caps { nodes = 5 }) (column (11 ∷ [])) ([]) (codes "commit\nset 0 0 12\ncommit\nshow\n") ≡ codes "full\nfull\nnone\n"
unfolding opened
full_each_time = refl

held_and_stale : session_report (world programs.two_outputs) (caps) (column (7 ∷ 8 ∷ [])) ([]) (codes "commit\nhold 0 out 0\nhold 1 ref 0\nheld 1\nset 1 0 9\ncommit\nheld 1\nset 0 0 5\ncommit\nheld 1\nhold 2 ref 0\nheld 2\nset 0 0 6\ncommit\nheld 1\nheld 2\nheld 0\n") ≡ codes "mode=anew visited=0 rerun=0 inside=2 dropped=0 nodes=4 mods=1 links=2\nheld 1 = 7\nmode=repair visited=3 rerun=1 inside=0 dropped=0 nodes=0 mods=0 links=0\nheld 1 = 7\nmode=repair visited=2 rerun=1 inside=0 dropped=0 nodes=0 mods=1 links=0\nstale\nheld 2 = 5\nmode=repair visited=2 rerun=1 inside=0 dropped=0 nodes=0 mods=1 links=0\nstale\nstale\nheld 0 = ref\n"
unfolding opened
held_and_stale = refl

empty_program : session_report (world programs.empty) (caps) (column ([])) ([]) (codes "commit\nshow\ntree\n") ≡ codes "mode=anew visited=0 rerun=0 inside=0 dropped=0 nodes=0 mods=0 links=0\nS=0 P=0 R=0 mods=0 links=0\n"
unfolding opened
empty_program = refl

empty_script : session_report (world programs.empty) (caps) (column ([])) ([]) (codes "") ≡ codes ""
unfolding opened
empty_script = refl

quoted_field : told_of (once_report (world programs.quoted_cell) caps) (loaded ((codes "1" ∷ codes "a,b" ∷ []) ∷ (codes "2" ∷ codes "c" ∷ []) ∷ []) []) ≡ codes "out = \"a,b\"\n"
unfolding opened
quoted_field = refl

ragged_record : told_of (once_report (world programs.quoted_cell) caps) (loaded ((codes "1" ∷ codes "2" ∷ []) ∷ (codes "3" ∷ codes "4" ∷ []) ∷ (codes "5" ∷ []) ∷ []) []) ≡ codes "input record 3 ragged\n"
unfolding opened
ragged_record = refl

too_great_is_a_text : told_of (once_report (world programs.add_one) caps) (loaded_lines (codes "9223372036854775808\n") []) ≡ codes "fault kind line 3\n"
unfolding opened
too_great_is_a_text = refl

greatest_overflows : told_of (once_report (world programs.add_one) caps) (loaded_lines (codes "9223372036854775807\n") []) ≡ codes "fault overflow line 3\n"
unfolding opened
greatest_overflows = refl

minus_one : told_of (once_report (world programs.add_one) caps) (loaded_lines (codes "-1\n") []) ≡ codes "out = 0\n"
unfolding opened
minus_one = refl

empty_field_is_a_text : session_report (world programs.add_one) caps (column (1 ∷ [])) [] (codes "set 0 0 \ncommit\n") ≡ codes "fault kind line 3\n"
unfolding opened
empty_field_is_a_text = refl

not_utf8 : told_of (once_report (world programs.double) caps) (loaded_lines (97 ∷ 10 ∷ 255 ∷ []) []) ≡ codes "input record 2 not utf-8\n"
unfolding opened
not_utf8 = refl

sales_report : told_of (λ g texts. session_report (world programs.sales) caps g texts (codes "commit\nshow\ntree\nset 1 0 north\ncommit\nshow\n")) (loaded ((codes "north" ∷ codes "120" ∷ []) ∷ (codes "south" ∷ codes "75" ∷ []) ∷ (codes "north" ∷ codes "30" ∷ []) ∷ []) programs.sales.tree.texts) ≡ codes "mode=anew visited=0 rerun=0 inside=5 dropped=0 nodes=28 mods=4 links=10\ntotal = 150\nS=21 P=2 R=5 mods=4 links=10\nmode=repair visited=17 rerun=3 inside=0 dropped=0 nodes=1 mods=0 links=0\ntotal = 225\n"
unfolding opened
sales_report = refl

pair_held : session_report (world programs.pair_of) (caps) (column (7 ∷ [])) ([]) (codes "commit\nhold 0 out 0\nhold 1 fst 0\nhold 2 snd 0\nhold 3 ref 0\nhold 3 fst 9\nheld 0\nheld 1\nheld 2\nset 0 0 8\ncommit\nheld 2\n") ≡ codes "mode=anew visited=0 rerun=0 inside=0 dropped=0 nodes=0 mods=1 links=0\nrefused kind\nrefused empty\nheld 0 = pair\nheld 1 = 5\nheld 2 = 7\nmode=repair visited=0 rerun=0 inside=0 dropped=0 nodes=0 mods=0 links=0\nheld 2 = 8\n"
unfolding opened
pair_held = refl

faults_on_either_side : session_report (world programs.two_quotients) (caps) (column (1 ∷ 2 ∷ [])) ([]) (codes "commit\nshow\nset 1 0 0\ncommit\nset 0 0 0\ncommit\nset 0 0 5\nset 1 0 5\ncommit\nshow\nset 0 0 1\ncommit\n") ≡ codes "mode=anew visited=0 rerun=0 inside=2 dropped=0 nodes=6 mods=0 links=2\na = 10\nb = 5\nfault divzero line 5\nfault divzero line 3\nmode=anew visited=0 rerun=0 inside=2 dropped=0 nodes=6 mods=0 links=2\na = 2\nb = 2\nmode=repair visited=4 rerun=1 inside=0 dropped=0 nodes=0 mods=0 links=0\n"
unfolding opened
faults_on_either_side = refl

full_goes_before_fault : session_report (world programs.two_quotients) (record caps { nodes = 5 }) (column (0 ∷ 1 ∷ [])) ([]) (codes "commit\n") ≡ codes "full\n"
unfolding opened
full_goes_before_fault = refl

fault_within_the_cap : session_report (world programs.two_quotients) (record caps { nodes = 6 }) (column (0 ∷ 1 ∷ [])) ([]) (codes "commit\n") ≡ codes "fault divzero line 3\n"
unfolding opened
fault_within_the_cap = refl

dump_of_double : dump programs.double.tree.names [] (fresh (world programs.double) (column (21 ∷ []))).tree ≡ codes "psac record 1\nS\nR 0 out=&o/0 | c/0/0=21\nW o/0 42\nE\nE\n"
unfolding opened
dump_of_double = refl

dump_length : length (dump programs.double.tree.names [] (fresh (world programs.double) (column (21 ∷ []))).tree) ≡ 53
unfolding opened
dump_length = refl

dump_of_empty : dump programs.empty.tree.names [] (fresh (world programs.empty) (column ([]))).tree ≡ codes "psac record 1\nE\n"
unfolding opened
dump_of_empty = refl

watched_sum : watch_report (world programs.sum) caps (column (1 ∷ 2 ∷ 3 ∷ 4 ∷ [])) [] (codes "commit\nshow\ntree\nset 0 0 5\ncommit\nshow\n") ≡ codes "mode=anew visited=0 rerun=0 inside=7 dropped=0 nodes=34 mods=6 links=10\nout = 10\nS=24 P=3 R=7 mods=6 links=10\nmode=repair visited=16 rerun=3 inside=0 dropped=0 nodes=0 mods=0 links=0\nout = 14\nwatched 2\n"
unfolding opened
watched_sum = refl

seen_over_a_fault : seen_of (world programs.double) caps (column (1 ∷ [])) [] (codes "commit\nset 0 0 9223372036854775807\ncommit\nset 0 0 2\ncommit\nquit\ncommit\n") ≡ (None ∷ Some (shown.Int (pos 2) ∷ []) ∷ None ∷ Some (shown.Int (pos 4) ∷ []) ∷ [])
unfolding opened
seen_over_a_fault = refl

certify_yes : verdict_line (verdict (world programs.double) (column (21 ∷ [])) [] (codes "psac record 1\nS\nR 0 out=&o/0 | c/0/0=21\nW o/0 42\nE\nE\n")) ≡ codes "yes\n"
unfolding opened
certify_yes = refl

certify_no_early : verdict_line (verdict (world programs.double) (column (21 ∷ [])) [] (codes "psac record 1\nS\nR 0 out=&o/0 | c/0/0=21\nW o/0 43\nE\nE\n")) ≡ codes "no 47\n"
unfolding opened
certify_no_early = refl

certify_no_cut : verdict_line (verdict (world programs.double) (column (21 ∷ [])) [] (codes "psac record 1\nS\nR 0 out=&o/0 | c/0/0=21\nW o/0 42\nE\nE")) ≡ codes "no 52\n"
unfolding opened
certify_no_cut = refl

certify_no_longer : verdict_line (verdict (world programs.double) (column (21 ∷ [])) [] (codes "psac record 1\nS\nR 0 out=&o/0 | c/0/0=21\nW o/0 42\nE\nE\n\n")) ≡ codes "no 53\n"
unfolding opened
certify_no_longer = refl

certify_stop : verdict_line (verdict (world programs.both_fault) (column ([])) [] (codes "x")) ≡ codes "fault divzero line 3\n"
unfolding opened
certify_stop = refl

dump_report_of_double : dump_report (world programs.double) caps (column (21 ∷ [])) [] ≡ codes "psac record 1\nS\nR 0 out=&o/0 | c/0/0=21\nW o/0 42\nE\nE\n"
unfolding opened
dump_report_of_double = refl

quit_ends : session_report (world programs.double) (caps) (column (21 ∷ [])) ([]) (codes "show\ncommit\nshow\nset 0 0 5\nshow\n\n# commit\ncommit\nshow\nquit\nshow\n") ≡ codes "none\nmode=anew visited=0 rerun=0 inside=1 dropped=0 nodes=2 mods=0 links=1\nout = 42\nout = 42\nmode=repair visited=2 rerun=1 inside=0 dropped=0 nodes=0 mods=0 links=0\nout = 10\n"
unfolding opened
quit_ends = refl

range_on_no_rows : once_report (world programs.double) (caps) (column ([])) ([]) ≡ codes "fault range line 2\n"
unfolding opened
range_on_no_rows = refl

forms : session_report (world programs.double) (caps) (column (1 ∷ [])) ([]) (codes "set 0 0\nset 0  0 5\nrows\nrows 1 \nshow \ncommit x\nHeld 1\nheld 1x\nheld\nheld 1234567890\nset 00 0 5\nset 1 0 1\nset 0 1 1\nhold 0 out 1\nhold 0 out\nhold 0 in 0\n show\n") ≡ codes "refused form\nrefused form\nrefused form\nrefused form\nrefused form\nrefused form\nrefused form\nrefused form\nrefused form\nrefused form\nrefused range\nrefused range\nrefused range\nrefused form\nrefused form\nrefused form\n"
unfolding opened
forms = refl

held_over_commits : session_report (world programs.made_again) (caps) (column (11 ∷ [])) ([]) (codes "commit\nhold 0 out 0\nheld 0\nheld 1\nhold 5 ref 0\nrows 0\ncommit\nshow\nheld 0\n") ≡ codes "mode=anew visited=0 rerun=0 inside=3 dropped=0 nodes=6 mods=2 links=3\nheld 0 = 1\nrefused empty\nrefused kind\nfault kind line 5\nnone\nnone\n"
unfolding opened
held_over_commits = refl

sum_of_two : session_report (world programs.sum) caps (column (1 ∷ 2 ∷ [])) [] (codes "commit\nshow\ntree\n") ≡ codes "mode=anew visited=0 rerun=0 inside=3 dropped=0 nodes=14 mods=2 links=4\nout = 3\nS=10 P=1 R=3 mods=2 links=4\n"
unfolding opened
sum_of_two = refl
