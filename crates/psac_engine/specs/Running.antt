-- A run anew: what it begins with, and what it leaves.
use Rattle.std.specs.Prelude.{◌≡◌, ℕ, ◌+◌, length, option_map, Some, None, Result, Ok, Err}
use Rattle.psac_ops.specs.declared.plain.Handle.{Handle}
use Rattle.psac_ops.specs.Value.{Value}
use Rattle.psac_ops.specs.Named.{same_handle, value_of}
use Rattle.psac_values.specs.declared.view.ValueView.{ValueView}
use Rattle.psac_fork.specs.declared.tables.Pass.{Pass}
use Rattle.psac_inputs.specs.Grid.{Grid}
use Rattle.psac_model.specs.declared.ends.Caps.{Caps}
use Rattle.psac_model.specs.declared.ends.Work.{Work}
use Rattle.psac_model.specs.Fresh.{World, Good, fresh, outcome}
use Rattle.psac_traced.specs.Rec.{Rec, held_by}
use Rattle.psac_record.specs.declared.record.Record.{Record}
use Rattle.psac_record.specs.Shown.{kept_of, rec_of}
use Rattle.psac_engine.specs.declared.answer.Answer.{Answer}
use Rattle.psac_engine.specs.Commit.{Answers}
use Rattle.psac_stage.specs.Places.{fixed_slots, heap_of, run_of}
use Rattle.psac_stage.specs.Holding.{value_in}
use Rattle.psac_stage.specs.Recorded.{Recorded}
use Rattle.psac_engine.specs.Outputs.{HasOutputs}
use Rattle.psac_stage.specs.Resting.{HasAll, IsCleared}

-- the words of the inputs and of all that the record wrote are the heap's values
pub record HasHeap (w : World) (g : Grid) (r : Rec Handle) (v : ValueView) : Type 0 where
  pub words : (m : Handle) (x : Value Handle) → held_by same_handle (heap_of g w.main.dests r) m ≡ Some x → option_map value_of (value_in m.slot v.mine) ≡ Some x

-- the record shows the fresh run, which ends well within the caps
pub record Shows (w : World) (g : Grid) (caps : Caps) (r : Rec Handle) : Type 0 where
  pub run : run_of g w.main.dests r ≡ fresh w g
  pub good : outcome w caps g ≡ Good (fresh w g).tree (fresh w g).heap

-- what a run leaves, with the work and the record that are kept, or the answer
abbrev pub HasRun : World → Grid → Caps → ℕ → Pass → Result (Work × Record) Answer → Type 0
HasRun w g caps age q (Ok kept) =
    HasAll g (length w.main.dests) caps age q × Shows w g caps (rec_of kept.1) × HasHeap w g (rec_of kept.1) q.values.knows × HasOutputs w g q.values.knows × Answers caps None (outcome w caps g) (Ok kept.0) × Recorded w g (kept_of kept.1) q.values.knows q.readers.knows q.marks.knows
HasRun w g caps age q (Err a) =
    HasAll g (length w.main.dests) caps (age + 1) q × IsCleared (fixed_slots g (length w.main.dests)) q × Answers caps None (outcome w caps g) (Err a)
