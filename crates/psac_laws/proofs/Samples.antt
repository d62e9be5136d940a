-- Programs that break the series rule, and what their runs do; and the tests of places at a few paths.
use Rattle.std.proofs.Common.{◌≡◌, pos, true, false, List, [], ◌∷◌, Some, ◌≤◌, refl, ap, sym, ◌∙◌, arith, codes}
use Rattle.std.specs.Prelude.{unwrap_or}
use denote.Hole.Carrier.{out as carrier_out, hidden, shown}
use Rattle.psac_syntax.specs.declared.program.Expr.{out-Expr}
use Rattle.psac_syntax.specs.declared.program.Stmt.{Stmt, out-Stmt}
use Rattle.psac_syntax.specs.declared.program.Expr.TheBlock as expr_block
use Rattle.psac_syntax.specs.declared.program.Stmt.TheBlock as stmt_block
use Rattle.psac_syntax.specs.declared.program.Expr.TheVariants as e
use Rattle.psac_syntax.specs.declared.program.Stmt.TheVariants as s
use Rattle.psac_syntax.specs.declared.program.Func.{Func}
use Rattle.psac_syntax.specs.Folds.{expr_fold, stmt_fold}
use Rattle.psac_ops.specs.Value.{nil}
use Rattle.psac_inputs.specs.Grid.{Grid, grid_of}
use Rattle.psac_model.specs.declared.ends.FaultKind.TheVariants.{Kind}
use Rattle.psac_model.specs.declared.ends.End.TheVariants.{Done, Stop}
use Rattle.psac_model.specs.Names.{Out, held}
use Rattle.psac_model.specs.Tree.{E, W, P}
use Rattle.psac_model.specs.Expression.{value_of}
use Rattle.psac_model.specs.Run.{Manner, run}
use Rattle.psac_model.specs.Fresh.{World, fresh}
use Rattle.psac_laws.specs.Manners.{ReadsHeld}
use Rattle.psac_laws.specs.Places.{parted, stands_before}
use Rattle.psac_laws.specs.Writes.{times}
use Rattle.psac_laws.specs.InSeries.{fresh_in, IsInSeries}

-- every definition that a sample computes with is open where this one is
unfoldable opened : Unit {0}
unfolding hidden shown expr_block.shape-the_row-Expr-0 expr_block.shape-the_row-Expr-1 expr_block.hidden-the_row-Expr-0 expr_block.hidden-the_row-Expr-1 expr_block.shown-the_row-Expr-0 expr_block.shown-the_row-Expr-1 stmt_block.shape-the_row-Stmt-0 stmt_block.hidden-the_row-Stmt-0 stmt_block.shown-the_row-Stmt-0 expr_fold stmt_fold out-Stmt out-Expr carrier_out value_of run fresh fresh_in
opened = tt

abbrev main_with : List Stmt → Func
main_with body = record { name = 0; values = []; dests = 1 ∷ 2 ∷ []; body = body; line = 1 }

-- a program of main alone, with the outputs 1 and 2
abbrev world : List Stmt → World
world body =
    record {
      program = record { names = codes "main" ∷ codes "a" ∷ codes "b" ∷ codes "x" ∷ []; texts = []; funcs = main_with body ∷ []; blocks = 1 };
      texts = [];
      main = main_with body;
    }

abbrev no_cells : Grid
no_cells = grid_of 0 []

-- what the heap lacks is read as nil
abbrev leniently : Manner
leniently = record { get = λ h m. Some (unwrap_or (held h m) nil); left_first = λ path. true }

leniently_reads_held : ReadsHeld leniently
leniently_reads_held h m v t = ap (λ o. Some (unwrap_or o nil)) t

abbrev right_first : Manner
right_first = record { get = held; left_first = λ path. false }

-- an output is read before it is written
abbrev reads_first : World
reads_first = world (s.Read 2 0 (record { from = e.Name 1; bound = 3 } ∷ []) (s.Write 2 1 (e.Name 3) ∷ []) ∷ s.Write 3 2 e.Nil ∷ [])

reads_first_stops : (fresh reads_first no_cells).end ≡ Stop Kind 2
unfolding opened
reads_first_stops = refl

reads_first_may_go_on : (fresh_in leniently reads_first no_cells).end ≡ Done
unfolding opened
reads_first_may_go_on = refl

reads_first_is_not : IsInSeries reads_first no_cells → ⊥
reads_first_is_not k = let c : Done ≡ Stop Kind 2 = sym reads_first_may_go_on ∙ k.end leniently leniently_reads_held ∙ reads_first_stops in absurd cc

-- the right side reads what the left side writes
abbrev reads_across : World
reads_across =
    world (s.Par 2 (s.Write 3 1 (e.Int (pos 1)) ∷ []) (s.Read 5 0 (record { from = e.Name 1; bound = 3 } ∷ []) (s.Write 5 2 (e.Name 3) ∷ []) ∷ []) ∷ [])

reads_across_is_done : (fresh reads_across no_cells).end ≡ Done
unfolding opened
reads_across_is_done = refl

reads_across_may_stop : (fresh_in right_first reads_across no_cells).end ≡ Stop Kind 5
unfolding opened
reads_across_may_stop = refl

reads_across_is_not : IsInSeries reads_across no_cells → ⊥
reads_across_is_not k = let c : Stop Kind 5 ≡ Done = sym reads_across_may_stop ∙ k.end right_first (λ h m v t. t) ∙ reads_across_is_done in absurd cc

-- both sides write one output
abbrev both_write : World
both_write = world (s.Par 2 (s.Write 2 1 (e.Int (pos 1)) ∷ []) (s.Write 2 1 (e.Int (pos 2)) ∷ []) ∷ s.Write 3 2 e.Nil ∷ [])

both_write_twice : times (Out 0) (fresh both_write no_cells).tree ≡ 2
unfolding opened
both_write_twice = refl

both_write_is_not : IsInSeries both_write no_cells → ⊥
both_write_is_not k = let c : times (Out 0) (fresh both_write no_cells).tree ≤ 1 = k.once (Out 0) in omega (arith, both_write_twice)

-- what the two tests of places say
apart_sides : parted (P (W (Out 0) nil E) E) (0 ∷ []) (1 ∷ []) ≡ true
apart_sides = refl

in_series_order : stands_before (0 ∷ []) (1 ∷ []) ≡ true
in_series_order = refl

outer_first : stands_before [] (3 ∷ []) ≡ true
outer_first = refl

not_itself : stands_before (0 ∷ 3 ∷ []) (0 ∷ 3 ∷ []) ≡ false
not_itself = refl

not_back : stands_before (1 ∷ []) (0 ∷ 3 ∷ []) ≡ false
not_back = refl
