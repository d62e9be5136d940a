-- Programs that break the series rule, and what the laws say of their runs.
use Rattle.std.proofs.Common.{◌≡◌, pos, true, false, List, [], ◌∷◌, Option, Some, None, Result, Ok, Err, refl, ap, sym, ◌∙◌, codes, inl}
use denote.Hole.Carrier.{out as carrier_out, hidden, shown}
use Rattle.psac_ops.specs.Value.{Value}
use Rattle.psac_syntax.specs.declared.program.Expr.{out-Expr}
use Rattle.psac_syntax.specs.declared.program.Stmt.{Stmt, out-Stmt}
use Rattle.psac_syntax.specs.declared.program.Expr.TheBlock as expr_block
use Rattle.psac_syntax.specs.declared.program.Stmt.TheBlock as stmt_block
use Rattle.psac_syntax.specs.declared.program.Expr.TheVariants as e
use Rattle.psac_syntax.specs.declared.program.Stmt.TheVariants as s
use Rattle.psac_syntax.specs.declared.program.Func.{Func}
use Rattle.psac_syntax.specs.Folds.{expr_fold, stmt_fold}
use Rattle.psac_inputs.specs.Grid.{Grid, grid_of}
use Rattle.psac_model.specs.declared.ends.FaultKind.{FaultKind}
use Rattle.psac_model.specs.declared.ends.FaultKind.TheVariants.{Kind, Overflow}
use Rattle.psac_model.specs.declared.ends.End.TheVariants.{Done, Stop}
use Rattle.psac_model.specs.Names.{Name, Out, held}
use Rattle.psac_model.specs.Expression.{value_of}
use Rattle.psac_model.specs.Run.{run}
use Rattle.psac_model.specs.Fresh.{World, fresh}
use Rattle.psac_series.specs.Ways.{Way, FindsHeld, run_by, fresh_by}
use Rattle.psac_series.specs.Looks.{FindsEachName}
use Rattle.psac_series.specs.Outputs.{IsWritten}
use Rattle.psac_series.specs.Lean.{calls_fit, MeetsRule}
use Rattle.psac_laws.specs.Standing.{every}

-- every definition that a sample computes with is open where this one is
unfoldable opened : Unit {0}
unfolding hidden shown expr_block.shape-the_row-Expr-0 expr_block.shape-the_row-Expr-1 expr_block.hidden-the_row-Expr-0 expr_block.hidden-the_row-Expr-1 expr_block.shown-the_row-Expr-0 expr_block.shown-the_row-Expr-1 stmt_block.shape-the_row-Stmt-0 stmt_block.hidden-the_row-Stmt-0 stmt_block.shown-the_row-Stmt-0 expr_fold stmt_fold out-Stmt out-Expr carrier_out value_of run fresh run_by fresh_by calls_fit
opened = tt

abbrev main_with : List Stmt → Func
main_with body = record { name = 0; values = []; dests = 1 ∷ 2 ∷ []; body = body; line = 1 }

-- a program of main alone, with the outputs 1 and 2
abbrev world : List Stmt → World
world body =
    record {
      program = record {
        names = codes "main" ∷ codes "a" ∷ codes "b" ∷ codes "x" ∷ codes "y" ∷ [];
        texts = [];
        funcs = main_with body ∷ [];
        blocks = 1;
      };
      texts = [];
      main = main_with body;
    }

abbrev no_cells : Grid
no_cells = grid_of 0 []

-- a look that misses is a fault
abbrev found_or : FaultKind → Option (Value Name) → Result (Value Name) FaultKind
found_or k (Some v) = Ok v
found_or k None = Err k

-- a look that misses is this fault, and the right side's stop is told
abbrev misses_with : FaultKind → Way
misses_with k = record { look = λ h m. found_or k (held h m); left_first = λ path. true; left_told = λ path. false }

misses_finds_held : (k : FaultKind) → FindsHeld (misses_with k)
misses_finds_held k h m v t = ap (found_or k) t

-- an output is looked up before it is written, beside a read that has a fault: either way the run stops
abbrev looks_early : World
looks_early =
    world (s.Read 2 0 (record { from = e.Name 1; bound = 3 } ∷ record { from = e.Int (pos 1); bound = 4 } ∷ []) [] ∷
    s.Write 3 1 e.Nil ∷ s.Write 3 2 e.Nil ∷ [])

looks_early_stops : (fresh looks_early no_cells).end ≡ Stop Kind 2
unfolding opened
looks_early_stops = refl

looks_early_overflows : (fresh_by (misses_with Overflow) looks_early no_cells).end ≡ Stop Overflow 2
unfolding opened
looks_early_overflows = refl

looks_early_has_kind : (fresh_by (misses_with Kind) looks_early no_cells).end ≡ Stop Kind 2
unfolding opened
looks_early_has_kind = refl

looks_early_is_not : FindsEachName looks_early no_cells → ⊥
looks_early_is_not k =
    let c : Stop Overflow 2 ≡ Stop Kind 2 = sym looks_early_overflows
    ∙ k.end (misses_with Overflow) (misses_with Kind) (misses_finds_held Overflow) (misses_finds_held Kind)
    (λ path. refl) ∙ looks_early_has_kind in
    absurd cc

-- the right side does so, and the left side stops, too
abbrev looks_aside : World
looks_aside =
    world (s.Par 2 (s.Read 3 0 (record { from = e.Nil; bound = 3 } ∷ []) [] ∷ s.Write 3 1 e.Nil ∷ [])
    (s.Read 5 0 (record { from = e.Name 1; bound = 3 } ∷ record { from = e.Int (pos 1); bound = 4 } ∷ []) [] ∷
    s.Write 5 2 e.Nil ∷ []) ∷ [])

looks_aside_tells_the_left : (fresh looks_aside no_cells).end ≡ Stop Kind 3
unfolding opened
looks_aside_tells_the_left = refl

looks_aside_overflows : (fresh_by (misses_with Overflow) looks_aside no_cells).end ≡ Stop Overflow 5
unfolding opened
looks_aside_overflows = refl

looks_aside_has_kind : (fresh_by (misses_with Kind) looks_aside no_cells).end ≡ Stop Kind 5
unfolding opened
looks_aside_has_kind = refl

looks_aside_is_not : FindsEachName looks_aside no_cells → ⊥
looks_aside_is_not k =
    let c : Stop Overflow 5 ≡ Stop Kind 5 = sym looks_aside_overflows
    ∙ k.end (misses_with Overflow) (misses_with Kind) (misses_finds_held Overflow) (misses_finds_held Kind)
    (λ path. refl) ∙ looks_aside_has_kind in
    absurd cc

-- an output that is never written
abbrev leaves_out : World
leaves_out = world (s.Write 2 1 e.Nil ∷ [])

leaves_out_is_done : (fresh leaves_out no_cells).end ≡ Done
unfolding opened
leaves_out_is_done = refl

leaves_out_lacks : held (fresh leaves_out no_cells).heap (Out 1) ≡ None
unfolding opened
leaves_out_lacks = refl

leaves_out_is_not : IsWritten (fresh leaves_out no_cells) (Out 1) → ⊥
leaves_out_is_not k = let c : None ≡ Some k.value = sym leaves_out_lacks ∙ k.has_it in absurd cc

-- a call of no function
abbrev calls_nothing : World
calls_nothing = world (s.Call 2 3 [] (1 ∷ 2 ∷ []) ∷ [])

calls_nothing_fits_not : every (calls_fit calls_nothing.program.funcs (s.Call 2 3 [] (1 ∷ 2 ∷ [])) ∷ []) ≡ false
unfolding opened
calls_nothing_fits_not = refl

calls_nothing_is_not : MeetsRule calls_nothing.program → ⊥
calls_nothing_is_not k =
    let x = k.each (main_with (s.Call 2 3 [] (1 ∷ 2 ∷ []) ∷ [])) (inl refl) in
    let c : true ≡ false = sym x.calls ∙ calls_nothing_fits_not in
    absurd cc
