-- The equations of a run in a way.
use Rattle.std.proofs.Common.{◌≡◌, ℕ, zero, suc, List, [], ◌∷◌, refl}
use Rattle.psac_syntax.specs.declared.program.Stmt.{Stmt, out-Stmt}
use Rattle.psac_syntax.specs.declared.program.Func.{Func}
use Rattle.psac_model.specs.declared.ends.FaultKind.TheVariants.{TooDeep}
use Rattle.psac_model.specs.declared.ends.End.TheVariants.{Done}
use Rattle.psac_model.specs.Names.{Path, Name, Env, Heap}
use Rattle.psac_model.specs.Expression.{Setting}
use Rattle.psac_model.specs.Tree.{E}
use Rattle.psac_model.specs.Run.{stopped, line_of}
use Rattle.psac_series.specs.Ways.{Way, act_or_stop_by, action_by, run_by}

module _ (a : Way) (w : Setting Name) (funcs : List Func) where
  pub by_none : (room : ℕ) (env : Env Name) (heap : Heap) (path : Path)
      → run_by a w funcs room [] env heap path ≡ record { tree = E; heap = heap; end = Done }
  unfolding run_by
  by_none zero env heap path = refl
  by_none (suc room) env heap path = refl

  pub by_full : (s : Stmt) (rest : List Stmt) (env : Env Name) (heap : Heap) (path : Path)
      → run_by a w funcs 0 (s ∷ rest) env heap path ≡ stopped heap TooDeep (line_of (out-Stmt s))
  unfolding run_by
  by_full s rest env heap path = refl

  pub by_more : (room : ℕ) (s : Stmt) (rest : List Stmt) (env : Env Name) (heap : Heap) (path : Path)
      → run_by a w funcs (suc room) (s ∷ rest) env heap path ≡ act_or_stop_by a (run_by a w funcs room)
      (action_by a w funcs env heap (out-Stmt s)) (line_of (out-Stmt s)) rest env heap path
  unfolding run_by
  by_more room s rest env heap path = refl
