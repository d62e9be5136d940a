-- The run in the plain way is the run.
use Rattle.std.proofs.Common.{◌≡◌, ℕ, zero, suc, List, [], ◌∷◌, ◌++◌, Result, Ok, Err, refl, ap, sym, ◌∙◌}
use Rattle.psac_ops.specs.Value.{ref}
use Rattle.psac_syntax.specs.declared.program.Stmt.{Stmt, out-Stmt}
use Rattle.psac_syntax.specs.declared.program.Stmt.TheOpen.{Stmt-F}
use Rattle.psac_syntax.specs.declared.program.Func.{Func}
use Rattle.psac_inputs.specs.Grid.{Grid}
use Rattle.psac_model.specs.declared.ends.FaultKind.{FaultKind}
use Rattle.psac_model.specs.declared.ends.End.{End}
use Rattle.psac_model.specs.declared.ends.End.TheVariants.{Done, Stop}
use Rattle.psac_model.specs.Names.{Path, Name, Made, Env, Heap, bind}
use Rattle.psac_model.specs.Expression.{Setting}
use Rattle.psac_model.specs.Tree.{A, W, S, R}
use Rattle.psac_model.specs.Run.{Ran, Deeper, Action, Bind, Make, Put, Body, Block, Sides, by_path, under, sequence, sequence_by, both, beside, act, act_or_stop, action_of, run, run_none, run_full, run_more, line_of}
use Rattle.psac_model.specs.Fresh.{World, setting, levels, main_env, grid_heap, fresh}
use Rattle.psac_series.specs.Ways.{plain_way, act_by, act_or_stop_by, action_by, run_by, fresh_by}
use Rattle.psac_series.proofs.Rounds.{by_none, by_full, by_more}

by_end : (e : End) (r : Ran Name Heap) (k l : Heap → Ran Name Heap) → ((h : Heap) → k h ≡ l h)
    → sequence_by e r k ≡ sequence_by e r l
by_end Done r k l q = ap (under (S r.tree)) (q r.heap)
by_end (Stop why line) r k l q = refl

sequence_same : (s r : Ran Name Heap) (k l : Heap → Ran Name Heap) → s ≡ r → ((h : Heap) → k h ≡ l h)
    → sequence s k ≡ sequence r l
sequence_same s r k l e q = ap (λ (z : Ran Name Heap). sequence z k) e ∙ by_end r.end r k l q

both_same : (s r : Ran Name Heap) (k l : Heap → Ran Name Heap) → s ≡ r → ((h : Heap) → k h ≡ l h) → both s k ≡ both r l
both_same s r k l e q = ap (λ (z : Ran Name Heap). both z k) e ∙ ap (beside r) (q r.heap)

module _ (w : Setting Name) (funcs : List Func) where
  asks_plain : (env : Env Name) (heap : Heap) (y : Stmt-F Stmt)
      → action_by plain_way w funcs env heap y ≡ action_of by_path w funcs env heap y
  asks_plain env heap (Stmt-F.Let line x e) = refl
  asks_plain env heap (Stmt-F.New line d) = refl
  asks_plain env heap (Stmt-F.Write line d e) = refl
  asks_plain env heap (Stmt-F.Read line block items body) = refl
  asks_plain env heap (Stmt-F.If line e first second) = refl
  asks_plain env heap (Stmt-F.Par line left right) = refl
  asks_plain env heap (Stmt-F.Call line f values dests) = refl

  module _ (f g : Deeper Name Heap) (e : (body : List Stmt) (env : Env Name) (heap : Heap) (path : Path)
      → f body env heap path ≡ g body env heap path) where
    act_plain : (asked : Action Name) (rest : List Stmt) (env : Env Name) (heap : Heap) (path : Path)
        → act_by plain_way f asked rest env heap path ≡ act by_path g asked rest env heap path
    act_plain (Bind x v) rest env heap path = e rest (bind x v env) heap path
    act_plain (Make d) rest env heap path = ap (under A) (e rest (bind d (ref (Made path)) env) heap (path ++ 3 ∷ []))
    act_plain (Put m v) rest env heap path = ap (under (W m v)) (e rest env ((m, v) ∷ heap) (path ++ 3 ∷ []))
    act_plain (Body body inner) rest env heap path =
        sequence_same _ _ (λ after. f rest env after (path ++ 1 ∷ [])) (λ after. g rest env after (path ++ 1 ∷ []))
        (e body inner heap (path ++ 0 ∷ [])) (λ h. e rest env h (path ++ 1 ∷ []))
    act_plain (Block block reads body inner) rest env heap path =
        sequence_same _ _ (λ after. f rest env after (path ++ 1 ∷ [])) (λ after. g rest env after (path ++ 1 ∷ []))
        (ap (under (R block env reads)) (e body inner heap (path ++ 0 ∷ 2 ∷ [])))
        (λ h. e rest env h (path ++ 1 ∷ []))
    act_plain (Sides left right) rest env heap path =
        sequence_same _ _ (λ after. f rest env after (path ++ 1 ∷ [])) (λ after. g rest env after (path ++ 1 ∷ []))
        (both_same (f left env heap (path ++ 0 ∷ 0 ∷ [])) (g left env heap (path ++ 0 ∷ 0 ∷ []))
        (λ before. f right env before (path ++ 0 ∷ 1 ∷ [])) (λ before. g right env before (path ++ 0 ∷ 1 ∷ []))
        (e left env heap (path ++ 0 ∷ 0 ∷ [])) (λ h. e right env h (path ++ 0 ∷ 1 ∷ [])))
        (λ h. e rest env h (path ++ 1 ∷ []))

    result_plain : (r : Result (Action Name) FaultKind) (line : ℕ) (rest : List Stmt) (env : Env Name) (heap : Heap)
        (path : Path) → act_or_stop_by plain_way f r line rest env heap path ≡ act_or_stop by_path g r line rest env
        heap path
    result_plain (Ok asked) line rest env heap path = act_plain asked rest env heap path
    result_plain (Err k) line rest env heap path = refl

  pub run_plain : (room : ℕ) (body : List Stmt) (env : Env Name) (heap : Heap) (path : Path)
      → run_by plain_way w funcs room body env heap path ≡ run by_path w funcs room body env heap path
  run_plain room [] env heap path = by_none plain_way w funcs room env heap path
      ∙ sym (run_none by_path w funcs room env heap path)
  run_plain zero (s ∷ rest) env heap path = by_full plain_way w funcs s rest env heap path
      ∙ sym (run_full by_path w funcs s rest env heap path)
  run_plain (suc room) (s ∷ rest) env heap path =
      by_more plain_way w funcs room s rest env heap path
      ∙ ap (λ z. act_or_stop_by plain_way (run_by plain_way w funcs room) z (line_of (out-Stmt s)) rest env heap path)
      (asks_plain env heap (out-Stmt s))
      ∙ result_plain (run_by plain_way w funcs room) (run by_path w funcs room) (run_plain room)
      (action_of by_path w funcs env heap (out-Stmt s)) (line_of (out-Stmt s)) rest env heap path
      ∙ sym (run_more by_path w funcs room s rest env heap path)

pub fresh_plain : (w : World) (g : Grid) → fresh_by plain_way w g ≡ fresh w g
unfolding fresh fresh_by
fresh_plain w g = run_plain (setting w.texts g) w.program.funcs levels w.main.body (main_env 0 w.main.dests [])
    (grid_heap g) []
