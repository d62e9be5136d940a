-- A record that a run may leave, statement by statement.
use Rattle.std.proofs.Common.{◌≡◌, ℕ, suc, List, [], ◌∷◌, Ok, Err, refl, sym, subst}
use Rattle.psac_syntax.specs.declared.program.Stmt.{Stmt, out-Stmt}
use Rattle.psac_syntax.specs.declared.program.Func.{Func}
use Rattle.psac_model.specs.declared.ends.FaultKind.{FaultKind}
use Rattle.psac_model.specs.declared.ends.FaultKind.TheVariants.{TooDeep}
use Rattle.psac_model.specs.declared.ends.End.{End}
use Rattle.psac_model.specs.declared.ends.End.TheVariants.{Done, Stop}
use Rattle.psac_model.specs.Names.{Env}
use Rattle.psac_model.specs.Expression.{Setting}
use Rattle.psac_model.specs.Run.{Action, action_of, line_of}
use Rattle.psac_traced.specs.Rec.{Rec, E, HeapOf}
use Rattle.psac_traced.specs.Traced.{listed, acts, acts_or_stops, traced}

module _ {N : Type 0} (w : Setting N) (funcs : List Func) (env : Env N) (heap : HeapOf N) where
  pub traced_none : (room : ℕ) → traced w funcs room [] env heap E Done
  unfolding traced
  traced_none room = (refl, refl)

  pub traced_full : (s : Stmt) (rest : List Stmt) → traced w funcs 0 (s ∷ rest) env heap E (Stop TooDeep (line_of (out-Stmt s)))
  unfolding traced
  traced_full s rest = (refl, refl)

  pub traced_acts : (room : ℕ) (s : Stmt) (rest : List Stmt) (a : Action N) (r : Rec N) (end : End) → action_of (listed w) w funcs env heap (out-Stmt s) ≡ Ok a → acts room (traced w funcs room) a rest env heap r end → traced w funcs (suc room) (s ∷ rest) env heap r end
  unfolding traced
  traced_acts room s rest a r end h t =
      subst (λ o. acts_or_stops room (traced w funcs room) o (line_of (out-Stmt s)) rest env heap r end) (sym h) t

  pub traced_stops : (room : ℕ) (s : Stmt) (rest : List Stmt) (k : FaultKind) → action_of (listed w) w funcs env heap (out-Stmt s) ≡ Err k → traced w funcs (suc room) (s ∷ rest) env heap E (Stop k (line_of (out-Stmt s)))
  unfolding traced
  traced_stops room s rest k h =
      subst (λ o. acts_or_stops room (traced w funcs room) o (line_of (out-Stmt s)) rest env heap E (Stop k (line_of (out-Stmt s)))) (sym h) (refl, refl)
