-- A record that stands for the run by paths.
use Rattle.std.specs.Prelude.{◌≡◌, ℕ, List, ◌++◌}
use Rattle.psac_syntax.specs.declared.program.Stmt.{Stmt}
use Rattle.psac_syntax.specs.declared.program.Func.{Func}
use Rattle.psac_model.specs.declared.ends.End.{End}
use Rattle.psac_model.specs.declared.ends.End.TheVariants.{Done}
use Rattle.psac_model.specs.Names.{Name, Env, Heap}
use Rattle.psac_model.specs.Expression.{Setting}
use Rattle.psac_model.specs.Redo.{redo}
use Rattle.psac_model.specs.Work.{repair_of}
use Rattle.psac_model.specs.Run.{Ran}
use Rattle.psac_naming.specs.Alike.{Trees}
use Rattle.psac_naming.specs.Naming.{Naming, IsNamed, IsOneToOne}
use Rattle.psac_traced.specs.Rec.{Rec, HeapOf, writes, tree_of}
use Rattle.psac_traced.specs.Traced.{traced}
use Rattle.psac_traced.specs.Renamed.{Heaps}
use Rattle.psac_traced.specs.Mending.{mended, work_of}

-- by names that are one to one, the record over the heap is what the run gave: its tree, its end and its heap
pub record Serial {M : Type 0} (ns : Naming M) (r : Rec M) (heap : HeapOf M) (end : End) (ran : Ran Name Heap) : Type 0 where
  pub one : IsOneToOne ns
  pub trees : Trees (IsNamed ns) (tree_of r) ran.tree
  pub ends : ran.end ≡ end
  pub heaps : Heaps (IsNamed ns) (writes r ++ heap) ran.heap

-- an old record and the new one that came of it over another heap, with the runs by paths: the new one is what a run leaves there, it
-- stands for the second run, and what was done is the work of a repair from the first run's tree to the second's
pub record Repairs {M : Type 0} (w : Setting M) (funcs : List Func) (room : ℕ) (body : List Stmt) (env : Env M) (other : HeapOf M) (ms : Naming M) (r s : Rec M) (before after : Ran Name Heap) : Type 0 where
  pub stands : traced w funcs room body env other s Done
  pub serial : Serial ms s other Done after
  pub work : work_of (mended w.same r s) ≡ repair_of (redo before.tree after.tree) before.tree after.tree
