-- What is written of a program, a grid and a script.
use Rattle.std.specs.Prelude.{ℕ, zero, suc, ◌+◌, ◌*◌, ◌%◌, pos, List, [], ◌∷◌, ◌++◌, length, map, fold, Option, Some, codes}
use Rattle.std.specs.List.{range_with_len}
use Rattle.std.specs.Fmt.{decimal}
use Rattle.psac_base.specs.Feeds.{lines_of}
use Rattle.psac_ops.specs.declared.plain.Plain.{Plain}
use Rattle.psac_ops.specs.declared.plain.Plain.TheVariants as plain
use Rattle.psac_inputs.specs.Texts.{Texts}
use Rattle.psac_inputs.specs.Grid.{Grid, grid_of, with_cell}
use Rattle.psac_model.specs.declared.ends.Caps.{Caps}
use Rattle.psac_model.specs.declared.ends.Work.{Work}
use Rattle.psac_model.specs.declared.ends.Mode.{Mode}
use Rattle.psac_model.specs.declared.ends.Mode.TheVariants.{Repair, Anew}
use Rattle.psac_model.specs.Fresh.{World, Outcome, Full, Fault, Good}
use Rattle.psac_model.specs.Outputs.{outputs_from}
use Rattle.psac_report.specs.Printed.{line_of, count, fault_line, output_lines}
use Rattle.psac_model.specs.declared.ends.Shown.{Shown}
use Rattle.psac_report.specs.Script.{Command, Quit, Commit, command_of}
use Rattle.psac_report.specs.Session.{State, Reply, Worked, begun, committed, reply_text, output_names, shown_now, outputs_reply, step_of}

-- the reply to a line, and then what is written after it
abbrev pub written_then : World → (State → List ℕ) → State × Reply → List ℕ
written_then w more (s, reply) = reply_text w s.texts reply ++ more s

-- the reply to a command, and then what is written after it; nothing from `quit` on
abbrev pub answered : World → Caps → (State → List ℕ) → State → Option Command → List ℕ
answered w caps more s (Some Quit) = []
answered w caps more s command = written_then w more (step_of w caps s command)

-- the replies to lines up to `quit` or the end
abbrev pub replies : World → Caps → List (List ℕ) → State → List ℕ
replies w caps [] s = []
replies w caps (line ∷ more) s = answered w caps (replies w caps more) s (command_of line)

-- the report of a session over a script
unfoldable pub session_report : World → Caps → Grid → Texts → List ℕ → List ℕ
session_report w caps g texts script = replies w caps (lines_of script) (begun g texts)

abbrev pub committed_then : (State → List State) → State × Reply → List State
committed_then more after = after.0 ∷ more after.0

-- the states after each commit of a script
abbrev pub states_by : World → Caps → (State → List State) → State → Option Command → List State
states_by w caps more s (Some Quit) = []
states_by w caps more s (Some Commit) = committed_then more (committed w caps s)
states_by w caps more s command = more (step_of w caps s command).0

abbrev pub states_after : World → Caps → List (List ℕ) → State → List State
states_after w caps [] s = []
states_after w caps (line ∷ more) s = states_by w caps (states_after w caps more) s (command_of line)

-- what is shown after each number of commits, from none on
unfoldable pub seen_of : World → Caps → Grid → Texts → List ℕ → List (Option (List Shown))
seen_of w caps g texts script = map (shown_now w) (begun g texts ∷ states_after w caps (lines_of script) (begun g texts))

-- the report of a session that is watched: how many commits there were comes last
unfoldable pub watch_report : World → Caps → Grid → Texts → List ℕ → List ℕ
watch_report w caps g texts script =
    replies w caps (lines_of script) (begun g texts)
    ++ line_of (codes "watched " ++ decimal (length (states_after w caps (lines_of script) (begun g texts))))

-- the outputs where a commit ended well, and else its line
abbrev pub outputs_told : World → State × Reply → List ℕ
outputs_told w (s, Worked work) = reply_text w s.texts (outputs_reply (shown_now w s))
outputs_told w (s, reply) = reply_text w s.texts reply

-- what is written of the outcome of a first run
abbrev pub outcome_text : World → Texts → Outcome → List ℕ
outcome_text w texts (Full which) = codes "full\n"
outcome_text w texts (Fault kind line) = fault_line kind line
outcome_text w texts (Good tree heap) = output_lines texts (output_names w) (outputs_from heap 0 w.main.dests)

-- the report of one commit
unfoldable pub once_report : World → Caps → Grid → Texts → List ℕ
once_report w caps g texts = outputs_told w (committed w caps (begun g texts))

-- the grid of the bench: so many cells in one column
abbrev pub bench_cell : ℕ → List Plain
bench_cell i = plain.Int (pos ((i * 37 + 11) % 1000)) ∷ []

abbrev pub bench_grid : ℕ → Grid
bench_grid cells = grid_of 1 (map bench_cell (range_with_len 0 cells))

abbrev pub row_of : ℕ → ℕ → ℕ → ℕ
row_of zero b j = 0
row_of (suc c) b j = (b * 977 + j * 131) % suc c

-- the edits of the b-th batch, in order
abbrev pub bench_edit : ℕ → ℕ → Grid → ℕ → Grid
bench_edit cells b g j = with_cell (row_of cells b j) 0 (plain.Int (pos ((b * 31 + j * 17) % 1000))) g

abbrev pub bench_batch : ℕ → ℕ → Grid → Grid
bench_batch cells b g = fold (bench_edit cells b) g (range_with_len 0 16)

-- the sums over commits
pub record Totals : Type 0 where
  pub repaired : ℕ
  pub anew : ℕ
  pub failed : ℕ
  pub visited : ℕ
  pub rerun : ℕ
  pub inside : ℕ
  pub dropped : ℕ

abbrev pub no_totals : Totals
no_totals = record { repaired = 0; anew = 0; failed = 0; visited = 0; rerun = 0; inside = 0; dropped = 0 }

abbrev pub with_mode : Mode → Totals → Totals
with_mode Repair t = record t { repaired = t.repaired + 1 }
with_mode Anew t = record t { anew = t.anew + 1 }

abbrev pub with_work : Totals → Work → Totals
with_work t w =
    with_mode w.mode (record t { visited = t.visited + w.visited; rerun = t.rerun + w.rerun; inside = t.inside + w.inside; dropped = t.dropped + w.dropped })

abbrev pub with_reply : Totals → Reply → Totals
with_reply t (Worked work) = with_work t work
with_reply t _ = record t { failed = t.failed + 1 }

abbrev pub counted_commit : Totals → State × Reply → State × Totals
counted_commit t after = (after.0, with_reply t after.1)

abbrev pub bench_commit : World → Caps → ℕ → State × Totals → ℕ → State × Totals
bench_commit w caps cells (s, t) b = counted_commit t (committed w caps (record s { staged = bench_batch cells b s.staged }))

abbrev pub bench_line : ℕ → ℕ → Totals → List ℕ
bench_line cells batches t =
    line_of
    (count "cells" cells ++ count " batches" batches ++ count " repaired" t.repaired ++ count " anew" t.anew ++ count " failed" t.failed
    ++ count " visited" t.visited ++ count " rerun" t.rerun ++ count " inside" t.inside ++ count " dropped" t.dropped)

abbrev pub bench_told : World → ℕ → ℕ → State × Totals → List ℕ
bench_told w cells batches (s, t) = bench_line cells batches t ++ reply_text w s.texts (outputs_reply (shown_now w s))

-- the report of the bench: a commit of its grid, and then one of each batch
unfoldable pub bench_report : World → Caps → Grid → Texts → ℕ → ℕ → List ℕ
bench_report w caps g texts cells batches =
    bench_told w cells batches (fold (bench_commit w caps cells) (counted_commit no_totals (committed w caps (begun g texts))) (range_with_len 1 batches))
