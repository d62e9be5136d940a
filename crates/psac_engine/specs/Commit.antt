-- What a commit answers, and what it keeps.
use Rattle.std.specs.Prelude.{◌≡◌, ℕ, ◌≤◌, [], Contains, Option, Some, None, Result, Ok, Err}
use Rattle.psac_inputs.specs.Grid.{Grid}
use Rattle.psac_inputs.specs.Batch.{Batch, netted}
use Rattle.psac_model.specs.declared.ends.Caps.{Caps}
use Rattle.psac_model.specs.declared.ends.Mode.TheVariants as mode
use Rattle.psac_model.specs.declared.ends.Work.{Work}
use Rattle.psac_model.specs.Names.{Name, Heap}
use Rattle.psac_model.specs.Tree.{Tree, size_of}
use Rattle.psac_model.specs.Run.{Ran}
use Rattle.psac_model.specs.Fresh.{World, Outcome, Full, Fault, Good, fresh}
use Rattle.psac_model.specs.Redo.{redo}
use Rattle.psac_model.specs.Work.{inside, mode_of, work_in, anew_work}
use Rattle.psac_engine.specs.declared.answer.Answer.{Answer}
use Rattle.psac_engine.specs.declared.answer.Answer.TheVariants as answer

-- as many of one kind as a record may have
abbrev pub most_parts : ℕ
most_parts = 1048576

abbrev pub IsCap : ℕ → Type 0
IsCap n = (1 ≤ n) × (n ≤ most_parts)

abbrev pub IsCaps : Caps → Type 0
IsCaps caps = IsCap caps.nodes × IsCap caps.mods × IsCap caps.links

-- as many commits as there may be
abbrev pub most_commits : ℕ
most_commits = 1000000000

-- the work of a commit that finds this run kept, and keeps one with this tree
abbrev pub work_after : Caps → Option (Ran Name Heap) → Tree Name → Work
work_after caps None new = anew_work (size_of new)
work_after caps (Some old) new =
    work_in (mode_of caps (size_of old.tree) (inside (redo old.tree new) new)) (redo old.tree new) old.tree new

-- what a commit that finds this run kept answers to an outcome; want of memory may always be answered
abbrev pub Answers : Caps → Option (Ran Name Heap) → Outcome → Result Work Answer → Type 0
Answers caps kept (Good tree heap) (Ok work) = work ≡ work_after caps kept tree
Answers caps kept (Fault kind line) (Err (answer.Fault k l)) = (k ≡ kind) × (l ≡ line)
Answers caps kept (Full which) (Err (answer.Full k)) = Contains which k
Answers caps kept o (Err answer.NoMemory) = Unit {0}
Answers caps kept o _ = ⊥

-- the run that is kept after an answer
abbrev pub kept_after : World → Grid → Result Work Answer → Option (Ran Name Heap)
kept_after w g (Ok work) = Some (fresh w g)
kept_after w g (Err a) = None

-- the batch leaves the grid as it is: nothing is left of its edits, and its number of rows is the grid's
abbrev pub IsIdle : Grid → Batch → Type 0
IsIdle g b = (netted g b.edits ≡ []) × (b.rows ≡ g.rows)

-- the work of a repair that has nothing to do
abbrev pub no_work : Work
no_work = record { mode = mode.Repair; visited = 0; rerun = 0; inside = 0; dropped = 0; nodes = 0; mods = 0; links = 0 }
