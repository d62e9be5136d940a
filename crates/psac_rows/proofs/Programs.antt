-- Each program's text is read as its tree: names, operators, numbers of blocks, and the line of each statement.
-- And the series rule refuses it with its line, or accepts it.
use Rattle.std.proofs.Common.{◌≡◌, ◌≤◌, ℕ, Bool, leb, true, List, [], ◌∷◌, length, map, All, refl, ap, subst, arith}
use Rattle.std.proofs.lemmas.List.Elements.{All-nil, All-cons}
use Rattle.std.proofs.lemmas.Bool.Decides.{nat_tests}
use Rattle.psac_tokens.specs.Lex.{reserved, front, lexemes_from}
use Rattle.psac_tokens.specs.Number.{tokens}
use Rattle.psac_grammar.specs.Grammar.{operator_at}
use Rattle.psac_grammar.specs.Language.{IsProgram, program, max_bytes}
use Rattle.psac_grammar.specs.Machine.{Answer, of_funcs, accepted, all_limits, nothing_behind, move, step, run_with, start, begun}
use Rattle.psac_grammar.proofs.Whole.{accepted_program}
use Rattle.psac_syntax.specs.declared.program.Program.{Program}
use Rattle.psac_model.specs.Series.{meets}
use Rattle.psac_rows.specs.Opened.{opened, line_told}
use Rattle.psac_rows.specs.Programs.{Row, all_programs}

record Stands (row : Row) : Type 0 where
  read : IsProgram row.text row.tree
  told : line_told (meets row.tree) ≡ row.told

-- Of a row: that its text isn't too long, where the grammar's run over it ends, its program and what is told of it.
-- Once as they are computed from the row's text and tree, and once as the row has them.
abbrev Computed : Type 0
Computed = Bool × (Answer × (Program × List ℕ))

abbrev computed : Row → Computed
computed row =
    let run = run_with all_limits (tokens row.text) nothing_behind start begun in
    (leb (length row.text) max_bytes, (run, (program row.text row.tree.funcs, line_told (meets row.tree))))

abbrev held : Row → Computed
held row = (true, (accepted (of_funcs row.tree.funcs ∷ []), (row.tree, row.told)))

stands : (row : Row) → computed row ≡ held row → Stands row
stands row same =
    let short : leb (length row.text) max_bytes ≡ true = ap (λ it. it.0) same in
    let within : length row.text ≤ max_bytes = grind (arith, nat_tests) in
    let as_run = accepted_program row.text row.tree.funcs within (ap (λ it. it.1.0) same) in
    record {
      read = subst (IsProgram row.text) (ap (λ it. it.1.1.0) same) as_run;
      told = ap (λ it. it.1.1.1) same;
    }

first : (x y : Computed) (xs ys : List Computed) → x ∷ xs ≡ y ∷ ys → x ≡ y
first x y xs ys same = cc

others : (x y : Computed) (xs ys : List Computed) → x ∷ xs ≡ y ∷ ys → xs ≡ ys
others x y xs ys same = cc

each_stands : (rows : List Row) → map computed rows ≡ map held rows → All Stands rows
each_stands [] same = All-nil Stands
each_stands (row ∷ rows) same =
    All-cons Stands row rows
    (stands row (first (computed row) (held row) (map computed rows) (map held rows) same))
    (each_stands rows (others (computed row) (held row) (map computed rows) (map held rows) same))

all_stand : All Stands all_programs
unfolding opened run_with step move operator_at front lexemes_from reserved
all_stand = each_stands all_programs refl
