-- What a block that runs again begins with, and what is put in its place.
use Rattle.std.specs.Prelude.{◌≡◌, ◌⊎◌, ℕ, List, [], Some, Result, Ok, Err}
use Rattle.psac_ops.specs.declared.plain.Handle.{Handle}
use Rattle.psac_ops.specs.declared.plain.Plain.{Plain}
use Rattle.psac_ops.specs.Value.{ref}
use Rattle.psac_syntax.specs.declared.program.Stmt.{Stmt}
use Rattle.psac_slots.specs.Handles.{Member}
use Rattle.psac_values.specs.declared.view.ValueView.{ValueView}
use Rattle.psac_model.specs.Names.{Env, bound}
use Rattle.psac_model.specs.Expression.{Setting}
use Rattle.psac_laws.specs.Standing.{Standing, series}
use Rattle.psac_traced.specs.Rec.{Rec, writes}
use Rattle.psac_marks.specs.Steps.{cleared, dropping}
use Rattle.psac_fork.specs.declared.tables.Pass.{Pass}
use Rattle.psac_record.specs.declared.parts.Reading.{Reading}
use Rattle.psac_record.specs.declared.parts.Seen.{Seen}
use Rattle.psac_record.specs.declared.record.Record.{Record}
use Rattle.psac_record.specs.Kept.{Kept, R, bare, links_of, added}
use Rattle.psac_record.specs.Shown.{kept_of, rec_of}
use Rattle.psac_record.specs.Dropped.{dropped_of}
use Rattle.psac_traced.specs.Mending.{anew}
use Rattle.psac_trace.specs.declared.halt.Halt.{Halt}
use Rattle.psac_repair.specs.declared.outcome.Outcome.{Outcome}
use Rattle.psac_repair.specs.declared.outcome.Stop.TheVariants as stop
use Rattle.psac_repair.specs.Tallied.{tally_of}
use Rattle.psac_trace.specs.Rights.{Heap, In, Target, Ready}
use Rattle.psac_trace.specs.Raising.{puts}
use Rattle.psac_repair.specs.Taken.{all_left, indexes, nodes_up}
use Rattle.psac_repair.specs.Linked.{Relinked}

-- the pass is ready for statements, and whatever they are to write the old record wrote
pub record Begun (w : Setting Handle) (old : Rec Handle) (body : List Stmt) (env : Env Handle) (v : ValueView) : Type 0 where
  pub base : Heap
  pub st : Standing
  pub end : Standing
  pub meets : series body st ≡ Some end
  pub ready : Ready w st end.unwritten env v base
  pub wrote : (m : Handle) → Target st end.unwritten env m → In (writes old) m

-- behind these come those that the record wrote and that stand in the environment
pub record Gathers (env : Env Handle) (k : Kept) (before after : List Handle) : Type 0 where
  pub old : (m : Handle) → Member m before → Member m after
  pub wrote : (m : Handle) → Member m after → Member m before ⊎ ((x : Plain) × Member (m, x) (puts k))
  pub all : (m : Handle) (x : Plain) (n : ℕ) → Member (m, x) (puts k) → bound n env ≡ Some (ref m) → Member m after

-- the modifiables that the record wrote and that stand in the environment: it didn't make them
abbrev pub Olds : List Handle → Env Handle → Kept → Type 0
Olds olds env k = Gathers env k [] olds

-- a pass, and what it is once the record of a block was taken off and the block cleared
pub record TakenOff (p q : Pass) (b : Reading) (t : Kept) : Type 0 where
  pub values : q.values ≡ p.values
  pub left : q.readers.knows ≡ all_left (indexes (links_of t)) p.readers.knows
  pub relinked : Relinked p.readers.knows q.readers.knows (links_of t) []
  pub marks : q.marks.knows ≡ cleared b.node.slot (dropping (nodes_up t) p.marks.knows)

-- a block with what its body ran now, and what it ran before
pub record Replaces (b : Reading) (again : List Seen) (t : Kept) (ran : Result Record Halt) (o : Outcome) : Type 0 where
  pub good : (new : Record) → ran ≡ Ok new → (kept_of o.tree ≡ R (record b { reads = again }) (kept_of new)) × (o.told ≡ Ok (tally_of (anew (bare t) (rec_of new))))
  pub bad : (halt : Halt) → ran ≡ Err halt → o.told ≡ Err (stop.Halt halt)
  pub dropped : dropped_of o.dropped ≡ added t []
