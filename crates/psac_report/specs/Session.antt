-- A session, line by line.
use Rattle.std.specs.Prelude.{ℕ, suc, pos, ◌&&◌, nat_lt, nat_le, Bool, true, false, if◌then◌else◌, List, [], ◌∷◌, length, map, replicate, Option, Some, None, option_map, option_and_then, Result, Ok, Err, slice_get, slice_set, unwrap_or, codes}
use Rattle.psac_ops.specs.declared.plain.Plain.{Plain}
use Rattle.psac_ops.specs.Value.{Value, int, ref, pair}
use Rattle.psac_ops.specs.Named.{cell_value}
use Rattle.psac_ops.specs.Table.{◌>>=◌}
use Rattle.psac_inputs.specs.declared.fault.TextFault.{TextFault}
use Rattle.psac_inputs.specs.declared.fault.TextFault.TheVariants.{Utf8, Limit, NoMemory}
use Rattle.psac_inputs.specs.Texts.{Texts, field}
use Rattle.psac_inputs.specs.Grid.{Grid, cell, has_cell, with_cell, with_rows}
use Rattle.psac_model.specs.declared.ends.FaultKind.{FaultKind}
use Rattle.psac_model.specs.declared.ends.Size.{Size}
use Rattle.psac_model.specs.declared.ends.Caps.{Caps}
use Rattle.psac_model.specs.declared.ends.Work.{Work}
use Rattle.psac_model.specs.declared.ends.Shown.{Shown}
use Rattle.psac_model.specs.Names.{Path, Name, Input, Out, Rows, Made, Heap, held}
use Rattle.psac_model.specs.Tree.{Tree, size_of}
use Rattle.psac_model.specs.Fresh.{World, Outcome, Full, Fault, Good, outcome}
use Rattle.psac_model.specs.Outputs.{shown_of, outputs_from}
use Rattle.psac_model.specs.Redo.{redo, is_inside}
use Rattle.psac_model.specs.declared.ends.Mode.{Mode}
use Rattle.psac_model.specs.declared.ends.Mode.TheVariants.{Repair, Anew}
use Rattle.psac_model.specs.Work.{inside, mode_of, work_in, anew_work}
use Rattle.psac_report.specs.Script.{Command, Skip, Set, SetRows, Commit, Show, ShowTree, HoldOut, HoldRef, HoldFst, HoldSnd, ShowHeld, Quit, command_of}
use Rattle.psac_report.specs.Printed.{work_line, size_line, fault_line, output_lines, held_line}

-- what is answered to a line
pub data Reply : Type 0 where
  Nothing : Reply
  Worked : (work : Work) → Reply
  Faulted : (kind : FaultKind) (line : ℕ) → Reply
  TooLarge : Reply
  Outputs : (values : List Shown) → Reply
  NoRecord : Reply
  Sized : (size : Size) → Reply
  Holds : (place : ℕ) (value : Shown) → Reply
  Stale : Reply
  RefusedForm : Reply
  RefusedRange : Reply
  RefusedUtf8 : Reply
  RefusedLimit : Reply
  RefusedEmpty : Reply
  RefusedKind : Reply

abbrev pub output_names : World → List (List ℕ)
output_names w = map (λ d. unwrap_or (slice_get w.program.names d) []) w.main.dests

abbrev pub reply_text : World → Texts → Reply → List ℕ
reply_text w texts Nothing = []
reply_text w texts (Worked work) = work_line work
reply_text w texts (Faulted kind line) = fault_line kind line
reply_text w texts TooLarge = codes "full\n"
reply_text w texts (Outputs values) = output_lines texts (output_names w) values
reply_text w texts NoRecord = codes "none\n"
reply_text w texts (Sized size) = size_line size
reply_text w texts (Holds place value) = held_line texts place value
reply_text w texts Stale = codes "stale\n"
reply_text w texts RefusedForm = codes "refused form\n"
reply_text w texts RefusedRange = codes "refused range\n"
reply_text w texts RefusedUtf8 = codes "refused utf8\n"
reply_text w texts RefusedLimit = codes "refused limit\n"
reply_text w texts RefusedEmpty = codes "refused empty\n"
reply_text w texts RefusedKind = codes "refused kind\n"

-- a record that is kept: the tree and the modifiables of the last run
pub record Kept : Type 0 where
  pub tree : Tree Name
  pub heap : Heap

-- what a place holds: a modifiable; or one that is stale, which needs no name, since no reply tells more of it than that
pub data Place : Type 0 where
  Holding : (name : Name) → Place
  Gone : Place

pub record State : Type 0 where
  pub grid : Grid
  pub texts : Texts
  pub kept : Option Kept
  -- the grid with the staged edits
  pub staged : Grid
  pub places : List (Option Place)

-- how many modifiables may be held
abbrev pub place_count : ℕ
place_count = 64

abbrev pub begun : Grid → Texts → State
begun g texts = record { grid = g; texts = texts; kept = None; staged = g; places = replicate place_count None }

abbrev pub is_made : Name → Bool
is_made (Made p) = true
is_made _ = false

abbrev pub is_made_inside : List Path → Name → Bool
is_made_inside zs (Made p) = is_inside zs p
is_made_inside zs _ = false

-- a place whose modifiable passes the test becomes stale
abbrev pub gone_stale : (Name → Bool) → Place → Place
gone_stale test (Holding m) = if test m then Gone else Holding m
gone_stale test Gone = Gone

abbrev pub staled : (Name → Bool) → State → State
staled test s = record s { places = map (option_map (gone_stale test)) s.places }

-- what a commit drops: what was made inside the blocks that it ran again, or all that was made
abbrev pub is_lost : Mode → List Path → Name → Bool
is_lost Repair zs m = is_made_inside zs m
is_lost Anew zs m = is_made m

abbrev pub kept_in : Mode → List Path → State → Kept → Kept → State × Reply
kept_in mode zs s old new =
    (staled (is_lost mode zs) (record s { kept = Some new }), Worked (work_in mode zs old.tree new.tree))

-- the state after a commit that ended well, and its work
abbrev pub kept_by : List Path → Caps → State → Kept → Kept → State × Reply
kept_by zs caps s old new = kept_in (mode_of caps (size_of old.tree) (inside zs new.tree)) zs s old new

abbrev pub kept_after : Caps → State → Option Kept → Kept → State × Reply
kept_after caps s None new = (staled is_made (record s { kept = Some new }), Worked (anew_work (size_of new.tree)))
kept_after caps s (Some old) new = kept_by (redo old.tree new.tree) caps s old new

abbrev pub dropped : State → State
dropped s = staled is_made (record s { kept = None })

abbrev pub after_outcome : Caps → State → Outcome → State × Reply
after_outcome caps s (Full which) = (dropped s, TooLarge)
after_outcome caps s (Fault kind line) = (dropped s, Faulted kind line)
after_outcome caps s (Good tree heap) = kept_after caps s s.kept (record { tree = tree; heap = heap })

unfoldable pub committed : World → Caps → State → State × Reply
committed w caps s = after_outcome caps (record s { grid = s.staged }) (outcome w caps s.staged)

-- what is shown of the outputs, where a record is kept
abbrev pub shown_now : World → State → Option (List Shown)
shown_now w s = option_map (λ k. outputs_from k.heap 0 w.main.dests) s.kept

abbrev pub outputs_reply : Option (List Shown) → Reply
outputs_reply None = NoRecord
outputs_reply (Some values) = Outputs values

abbrev pub shown_tree : Option Kept → Reply
shown_tree None = NoRecord
shown_tree (Some k) = Sized (size_of k.tree)

-- an input's value is the grid's, and any other name's that of the last run
abbrev pub value_in : State → Name → Option (Value Name)
value_in s (Input r c) = option_map cell_value (cell r c s.grid)
value_in s Rows = Some (int (pos s.grid.rows))
value_in s m = option_and_then (λ k. held k.heap m) s.kept

abbrev pub staged_field : ℕ → ℕ → State → Result (Plain × Texts) TextFault → State × Reply
staged_field r c s (Ok told) = (record s { texts = told.1; staged = with_cell r c told.0 s.staged }, Nothing)
staged_field r c s (Err Utf8) = (s, RefusedUtf8)
staged_field r c s (Err Limit) = (s, RefusedLimit)
staged_field r c s (Err NoMemory) = (s, RefusedLimit)

abbrev pub set_step : ℕ → ℕ → List ℕ → State → State × Reply
set_step r c bytes s = if has_cell r c s.staged then staged_field r c s (field bytes s.texts) else (s, RefusedRange)

abbrev pub rows_step : ℕ → State → State × Reply
rows_step n s = if nat_le n s.staged.room then (record s { staged = with_rows n s.staged }, Nothing) else (s, RefusedRange)

abbrev pub with_place : ℕ → Name → State → State
with_place h m s = record s { places = slice_set s.places h (Some (Holding m)) }

abbrev pub hold_out : World → ℕ → ℕ → State → State × Reply
hold_out w h i s =
    if nat_lt h place_count && nat_lt i (length w.main.dests) then (with_place h (Out i) s, Nothing) else (s, RefusedRange)

abbrev pub value_or_none : Option (Value Name) → Result (Value Name) Reply
value_or_none (Some v) = Ok v
value_or_none None = Err NoRecord

abbrev pub value_of_place : State → Option Place → Result (Value Name) Reply
value_of_place s None = Err RefusedEmpty
value_of_place s (Some (Holding m)) = value_or_none (value_in s m)
value_of_place s (Some Gone) = Err Stale

-- the value of what a place holds, or why there is none
abbrev pub value_at : State → ℕ → Result (Value Name) Reply
value_at s g = value_of_place s (option_and_then (λ p. p) (slice_get s.places g))

abbrev pub referred : Value Name → Result Name Reply
referred (ref m) = Ok m
referred _ = Err RefusedKind

abbrev pub first_of : Value Name → Result Name Reply
first_of (pair m n) = Ok m
first_of _ = Err RefusedKind

abbrev pub second_of : Value Name → Result Name Reply
second_of (pair m n) = Ok n
second_of _ = Err RefusedKind

abbrev pub hold_told : ℕ → State → Result Name Reply → State × Reply
hold_told h s (Ok m) = (with_place h m s, Nothing)
hold_told h s (Err reply) = (s, reply)

-- a place holds a modifiable that the value at another one names
abbrev pub hold_by : (Value Name → Result Name Reply) → ℕ → ℕ → State → State × Reply
hold_by named h g s =
    if nat_lt h place_count && nat_lt g place_count then hold_told h s (value_at s g >>= named) else (s, RefusedRange)

abbrev pub held_told : ℕ → Result (Value Name) Reply → Reply
held_told h (Ok v) = Holds h (shown_of v)
held_told h (Err reply) = reply

abbrev pub held_reply : ℕ → State → Reply
held_reply h s = if nat_lt h place_count then held_told h (value_at s h) else RefusedRange

-- the state after a command, and the reply; a refused line changes nothing
abbrev pub step : World → Caps → State → Command → State × Reply
step w caps s Skip = (s, Nothing)
step w caps s (Set r c bytes) = set_step r c bytes s
step w caps s (SetRows n) = rows_step n s
step w caps s Commit = committed w caps s
step w caps s Show = (s, outputs_reply (shown_now w s))
step w caps s ShowTree = (s, shown_tree s.kept)
step w caps s (HoldOut h i) = hold_out w h i s
step w caps s (HoldRef h g) = hold_by referred h g s
step w caps s (HoldFst h g) = hold_by first_of h g s
step w caps s (HoldSnd h g) = hold_by second_of h g s
step w caps s (ShowHeld h) = (s, held_reply h s)
step w caps s Quit = (s, Nothing)

abbrev pub step_of : World → Caps → State → Option Command → State × Reply
step_of w caps s None = (s, RefusedForm)
step_of w caps s (Some command) = step w caps s command

-- one line of a script
abbrev pub step_line : World → Caps → State → List ℕ → State × Reply
step_line w caps s line = step_of w caps s (command_of line)
