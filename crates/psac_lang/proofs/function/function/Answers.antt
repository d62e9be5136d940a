use Rattle.std.proofs.Common.{◌+◌, ◌∙◌, ap, sym, refl, ◌∷◌, []}
use Rattle.std.proofs.lemmas.Result.{err_from_is_err_and}
use Rattle.psac_tokens.specs.declared.token.Kind.TheVariants.{Func}
use Rattle.psac_grammar.specs.Grammar as grammar
use Rattle.psac_grammar.specs.Grammar.{top, start_of, apply_one, is_chain}
use Rattle.psac_grammar.specs.Machine.{make, a_name, block, names, before_names, functions, of_name, of_names, of_stmts, of_funcs, func_made, first, run}
use Rattle.psac_lang.specs.Reads.{taken}
use Rattle.psac_lang.proofs.Moves.{fails_from, makes}
use Rattle.psac_lang.proofs.Sequences as sequences
use Rattle.psac_lang.proofs.function.function.Goals as goal

pub returns-in_err-header-clause-adds : goal.returns-in_err-header-clause-adds
returns-in_err-header-clause-adds c so_far s vs is =
    let p = err_from_is_err_and c.from_residual-in_err-header.result c.from_residual-in_err-header.ensures.1 in
    rw (p.1, p.2) (fails_from _ _ _
    (c.in_ok-take.ensures.takes (functions c.args.count) (a_name ∷ before_names ∷ names grammar.header_values 0 ∷ make (func_made (first c.args.tokens.now).line) ∷ functions (c.args.count + 1) ∷ []) [] s (of_funcs so_far ∷ vs) (is ∙ ap (λ m. taken (first c.args.tokens.now).kind Func m (a_name ∷ before_names ∷ names grammar.header_values 0 ∷ make (func_made (first c.args.tokens.now).line) ∷ functions (c.args.count + 1) ∷ []) []) (sym c.below.ensures.value)))
    (c.in_err-header.ensures.reads (make (func_made (first c.args.tokens.now).line) ∷ functions (c.args.count + 1) ∷ s) (of_funcs so_far ∷ vs)))

pub returns-in_err-body-clause-adds : goal.returns-in_err-body-clause-adds
returns-in_err-body-clause-adds c so_far s vs is =
    let p = err_from_is_err_and c.from_residual-in_err-body.result c.from_residual-in_err-body.ensures.1 in
    rw (p.1, p.2) (fails_from _ _ _
    (c.in_ok-take.ensures.takes (functions c.args.count) (a_name ∷ before_names ∷ names grammar.header_values 0 ∷ make (func_made (first c.args.tokens.now).line) ∷ functions (c.args.count + 1) ∷ []) [] s (of_funcs so_far ∷ vs) (is ∙ ap (λ m. taken (first c.args.tokens.now).kind Func m (a_name ∷ before_names ∷ names grammar.header_values 0 ∷ make (func_made (first c.args.tokens.now).line) ∷ functions (c.args.count + 1) ∷ []) []) (sym c.below.ensures.value))
    ∙ c.in_ok-header.ensures.reads (make (func_made (first c.args.tokens.now).line) ∷ functions (c.args.count + 1) ∷ s) (of_funcs so_far ∷ vs)
    ∙ ap (λ m. run c.read_header.new.tokens (block 0 m ∷ make (func_made (first c.args.tokens.now).line) ∷ functions (c.args.count + 1) ∷ s) (of_names c.in_ok-header.header.dests ∷ of_names c.in_ok-header.header.values ∷ of_name c.in_ok-header.header.name ∷ of_funcs so_far ∷ vs)) (sequences.both_lengths _ _ _ _ c.len.ensures c.len-2.ensures))
    (c.in_err-body.ensures.reads (make (func_made (first c.args.tokens.now).line) ∷ functions (c.args.count + 1) ∷ s) (of_names c.in_ok-header.header.dests ∷ of_names c.in_ok-header.header.values ∷ of_name c.in_ok-header.header.name ∷ of_funcs so_far ∷ vs)))

pub returns-clause-adds : goal.returns-clause-adds
returns-clause-adds c so_far s vs is =
    rw (c.func_of.ensures, c.peek-line.ensures) (c.in_ok-take.ensures.takes (functions c.args.count) (a_name ∷ before_names ∷ names grammar.header_values 0 ∷ make (func_made (first c.args.tokens.now).line) ∷ functions (c.args.count + 1) ∷ []) [] s (of_funcs so_far ∷ vs) (is ∙ ap (λ m. taken (first c.args.tokens.now).kind Func m (a_name ∷ before_names ∷ names grammar.header_values 0 ∷ make (func_made (first c.args.tokens.now).line) ∷ functions (c.args.count + 1) ∷ []) []) (sym c.below.ensures.value))
    ∙ c.in_ok-header.ensures.reads (make (func_made (first c.args.tokens.now).line) ∷ functions (c.args.count + 1) ∷ s) (of_funcs so_far ∷ vs)
    ∙ ap (λ m. run c.read_header.new.tokens (block 0 m ∷ make (func_made (first c.args.tokens.now).line) ∷ functions (c.args.count + 1) ∷ s) (of_names c.in_ok-header.header.dests ∷ of_names c.in_ok-header.header.values ∷ of_name c.in_ok-header.header.name ∷ of_funcs so_far ∷ vs)) (sequences.both_lengths _ _ _ _ c.len.ensures c.len-2.ensures)
    ∙ c.in_ok-body.ensures.reads (make (func_made (first c.args.tokens.now).line) ∷ functions (c.args.count + 1) ∷ s) (of_names c.in_ok-header.header.dests ∷ of_names c.in_ok-header.header.values ∷ of_name c.in_ok-header.header.name ∷ of_funcs so_far ∷ vs)
    ∙ makes _ (functions (c.args.count + 1) ∷ s) (of_stmts c.in_ok-body.body ∷ of_names c.in_ok-header.header.dests ∷ of_names c.in_ok-header.header.values ∷ of_name c.in_ok-header.header.name ∷ of_funcs so_far ∷ vs) (func_made (first c.args.tokens.now).line) refl)
