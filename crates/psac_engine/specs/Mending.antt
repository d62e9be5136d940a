-- A commit that finds a record kept: what its repair begins with, and what it leaves.
use Rattle.std.specs.Prelude.{◌≡◌, ℕ, ◌+◌, List, [], length, None, Option, Some, option_map, is_some, true, false, Result, Ok, Err}
use Rattle.std.specs.Option.{ForSome}
use Rattle.psac_fork.specs.declared.tables.Pass.{Pass}
use Rattle.psac_fork.specs.declared.tables.Tables.{Tables}
use Rattle.psac_fork.specs.Whole.{IsOf}
use Rattle.psac_inputs.specs.Grid.{Grid, IsGrid}
use Rattle.psac_model.specs.declared.ends.Caps.{Caps}
use Rattle.psac_model.specs.declared.ends.End.TheVariants.{Done}
use Rattle.psac_model.specs.declared.ends.Work.{Work}
use Rattle.psac_model.specs.Tree.{size_of}
use Rattle.psac_model.specs.Fresh.{World, fresh, outcome, main_of}
use Rattle.psac_model.specs.Series.{meets}
use Rattle.psac_model.specs.Work.{anew_work}
use Rattle.psac_laws.proofs.Opening.{IsChecked}
use Rattle.psac_traced.specs.Bodies.{IsCode}
use Rattle.psac_record.specs.declared.record.Record.{Record}
use Rattle.psac_record.specs.Kept.{Kept, bare}
use Rattle.psac_record.specs.Shown.{kept_of, rec_of}
use Rattle.psac_trace.specs.declared.halt.Halt.TheVariants as halt
use Rattle.psac_repair.specs.declared.outcome.Stop.{Stop}
use Rattle.psac_repair.specs.declared.outcome.Stop.TheVariants as stop
use Rattle.psac_repair.specs.declared.outcome.Outcome.{Outcome}
use Rattle.psac_repair.specs.Ended.{Ended}
use Rattle.psac_repair.specs.Mends.{Tells}
use Rattle.psac_repair.specs.Outcomes.{end_of, Counts, OnGood}
use Rattle.psac_repair.specs.Going.{Views, views, After}
use Rattle.psac_repair.specs.Counted.{Spent}
use Rattle.psac_repair.specs.Founded.{Coherent, Founded}
use Rattle.psac_stage.specs.Places.{fixed_slots}
use Rattle.psac_stage.specs.Recorded.{Recorded, Mendable, setting_at}
use Rattle.psac_stage.specs.Resting.{AllOf, HasAll, IsRested, IsCleared, MayRun}
use Rattle.psac_stage.specs.Staging.{Changes}
use Rattle.psac_engine.specs.declared.answer.Answer.{Answer}
use Rattle.psac_engine.specs.declared.answer.Answer.TheVariants as answer
use Rattle.psac_engine.specs.Commit.{Answers, IsCaps, work_after}
use Rattle.psac_engine.specs.Outputs.{HasOutputs}
use Rattle.psac_engine.specs.Running.{Shows}
use Rattle.psac_engine.specs.Sound.{fresh_over}

-- the record of a run over the grid g, in a pass in which the words of the grid h were put in its place
pub record Staged (w : World) (g h : Grid) (caps : Caps) (age : ℕ) (t : Tables) (k : Kept) (p : Pass) : Type 0 where
  pub of : IsOf p t
  pub all : HasAll h (length w.main.dests) caps age p
  pub rested : IsRested p
  -- the pass before the words were put
  pub before : Views
  pub had : AllOf g (length w.main.dests) caps age before.values before.readers before.marks
  pub recorded : Recorded w g k before.values before.readers before.marks
  pub slots : List ℕ
  pub changes : Changes slots before (views p)
  pub mendable : Mendable w h k (views p)
  -- each marked node stands over a block that read other words than are present
  pub coherent : Coherent p.values.knows k
  pub founded : Founded p.values.knows p.marks.knows k
  pub ok : IsGrid g
  pub now : IsGrid h
  pub fit : IsCaps caps
  pub checked : IsChecked w
  pub rule : meets w.program ≡ Ok tt
  pub main : main_of w.program ≡ Some w.main
  -- both grids have the same shape
  pub opened : h.opened ≡ g.opened
  pub room : h.room ≡ g.room
  pub cols : h.cols ≡ g.cols

-- what a repair tells of the record over the grid
abbrev pub Told : World → Grid → Kept → Kept → Views → Views → Ended → Type 0
Told w h k new = After (Tells (setting_at w h) w.program.funcs (IsCode w.program.funcs w.main.body) (bare k)) [] None k new

-- what it leaves
pub record Came (w : World) (h : Grid) (t : Tables) (k : Kept) (p q : Pass) (o : Outcome) : Type 0 where
  pub of : IsOf q t
  pub told : Told w h k (kept_of o.tree) (views p) (views q) (end_of o)
  pub counts : Counts k o
  pub spent : OnGood (end_of o) (Spent p.values.knows q.values.knows p.marks.knows q.marks.knows k (kept_of o.tree))

-- what a commit leaves, which found the run on the grid g kept, or none: the work and the record that are kept, or the answer
abbrev pub HasRunFrom : World → Option Grid → Grid → Caps → ℕ → Pass → Result (Work × Record) Answer → Type 0
HasRunFrom w g h caps age q (Ok kept) =
    HasAll h (length w.main.dests) caps age q × ∥ Shows w h caps (rec_of kept.1) ∥₁ × Recorded w h (kept_of kept.1) q.values.knows q.readers.knows q.marks.knows × HasOutputs w h q.values.knows × Answers caps (option_map (fresh w) g) (outcome w caps h) (Ok kept.0)
HasRunFrom w g h caps age q (Err a) =
    HasAll h (length w.main.dests) caps (age + 1) q × IsCleared (fixed_slots h (length w.main.dests)) q × Answers caps (option_map (fresh w) g) (outcome w caps h) (Err a)

-- a pass at rest over the grid, with the record that is kept, if one is
pub record Keeps (w : World) (g : Grid) (caps : Caps) (age : ℕ) (t : Tables) (kept : Option Record) (p : Pass) : Type 0 where
  pub of : IsOf p t
  pub all : HasAll g (length w.main.dests) caps age p
  pub rested : IsRested p
  pub cleared : is_some kept ≡ false → IsCleared (fixed_slots g (length w.main.dests)) p
  pub recorded : ForSome kept (λ r. Recorded w g (kept_of r) p.values.knows p.readers.knows p.marks.knows)
  -- the record shows the fresh run, which ends well within the caps
  pub shows : ForSome kept (λ r. ∥ Shows w g caps (rec_of r) ∥₁)
  pub outputs : is_some kept ≡ true → HasOutputs w g p.values.knows
  pub small : is_some kept ≡ true → fresh_over w g caps ≡ []
  pub done : is_some kept ≡ true → (fresh w g).end ≡ Done

-- what is told of a commit whose repair stopped
abbrev pub StoppedFor : World → Grid → Grid → Caps → Stop → Type 0
StoppedFor w g h caps (stop.Halt (halt.Fault kind line)) = Answers caps (Some (fresh w g)) (outcome w caps h) (Err (answer.Fault kind line))
-- a run anew is the model's commit too
StoppedFor w g h caps (stop.Halt (halt.Full which at)) = work_after caps (Some (fresh w g)) (fresh w h).tree ≡ anew_work (size_of (fresh w h).tree)
StoppedFor w g h caps (stop.Halt halt.NoMemory) = Unit {0}
StoppedFor w g h caps stop.Unsettled = Unit {0}

-- what a repair leaves once its tables are settled, with what is kept, or why it stopped
abbrev pub Finished : World → Grid → Grid → Caps → ℕ → Tables → Pass → Result (Work × Record) Stop → Type 0
Finished w g h caps age t q (Ok kept) = IsOf q t × IsRested q × HasRunFrom w (Some g) h caps age q (Ok kept)
Finished w g h caps age t q (Err stop) = MayRun (length w.main.dests) h caps age t q × StoppedFor w g h caps stop
