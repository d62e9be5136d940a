-- What the calls of a run need and leave over its world.
use Rattle.std.specs.Prelude.{ℕ, ◌-◌, List, Option}
use Rattle.psac_ops.specs.declared.plain.Handle.{Handle}
use Rattle.psac_syntax.specs.declared.program.Stmt.{Stmt}
use Rattle.psac_fork.specs.declared.tables.Pass.{Pass}
use Rattle.psac_model.specs.Fresh.{levels}
use Rattle.psac_model.specs.Names.{Env}
use Rattle.psac_model.specs.Expression.{Setting}
use Rattle.psac_model.specs.Run.{Action}
use Rattle.psac_traced.specs.Traced.{Traces, traced}
use Rattle.psac_cut.specs.CutShort.{Cuts, cut_short}
use Rattle.psac_record.specs.Kept.{Kept}
use Rattle.psac_trace.specs.declared.world.World.{World}
use Rattle.psac_trace.specs.Asking.{setting_on}
use Rattle.psac_trace.specs.Told.{Ended}
use Rattle.psac_trace.specs.Running.{Begins, Leaves, BeginsAct, LeavesAct, LeavesBoth, BeginsAfter, LeavesAfter}

abbrev pub setting_of : World → Setting Handle
setting_of g = setting_on g.ground.now g.texts.now

-- what a run from a level on may record, whole and cut short
abbrev pub traced_at : World → ℕ → Traces Handle
traced_at g level = traced (setting_of g) g.funcs.now (levels - level)

abbrev pub cut_at : World → ℕ → Cuts Handle
cut_at g level = cut_short (setting_of g) g.funcs.now (levels - level)

-- a run of statements
abbrev pub BeginsIn : World → List Stmt → Env Handle → Option Handle → Pass → Type 0
BeginsIn g = Begins (setting_of g) g.funcs.now g.olds.now g.tables.now

abbrev pub LeavesIn : World → ℕ → List Stmt → Env Handle → Option Handle → Pass → Pass → Ended Kept → Type 0
LeavesIn g level = Leaves (setting_of g) (traced_at g level) (cut_at g level) g.olds.now g.tables.now

-- what a statement asked for, and the rest of its body
abbrev pub BeginsActIn : World → Action Handle → List Stmt → Env Handle → Option Handle → Pass → Type 0
BeginsActIn g = BeginsAct (setting_of g) g.funcs.now g.olds.now g.tables.now

abbrev pub LeavesActIn : World → ℕ → Action Handle → List Stmt → Env Handle → Option Handle → Pass → Pass → Ended Kept → Type 0
LeavesActIn g level = LeavesAct (setting_of g) (levels - level) (traced_at g level) (cut_at g level) g.olds.now g.tables.now

-- both sides of a par
abbrev pub LeavesBothIn : World → ℕ → List Stmt → List Stmt → List Stmt → Env Handle → Option Handle → Pass → Pass → Ended Kept → Type 0
LeavesBothIn g level = LeavesBoth (setting_of g) (levels - level) (traced_at g level) (cut_at g level) g.olds.now g.tables.now

-- the rest of a body, behind a compound statement
abbrev pub BeginsAfterIn : World → Handle → Ended Kept → List Stmt → Env Handle → Pass → Type 0
BeginsAfterIn g = BeginsAfter (setting_of g) g.funcs.now g.olds.now g.tables.now

abbrev pub LeavesAfterIn : World → ℕ → Handle → Ended Kept → List Stmt → Env Handle → Pass → Pass → Ended Kept → Type 0
LeavesAfterIn g level = LeavesAfter (setting_of g) (traced_at g level) (cut_at g level) g.olds.now g.tables.now
