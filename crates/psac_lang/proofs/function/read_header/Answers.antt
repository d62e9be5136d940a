use Rattle.std.proofs.Common.{◌+◌, ◌∙◌, ap, sym, ◌∷◌, [], length, zero-add}
use Rattle.std.proofs.lemmas.Result.{err_from_is_err_and}
use Rattle.psac_tokens.specs.declared.token.Kind.TheVariants.{LeftParen}
use Rattle.psac_grammar.specs.Marked.{fine}
use Rattle.psac_grammar.specs.Grammar as grammar
use Rattle.psac_grammar.specs.Grammar.{top, start_of, apply_one, is_chain}
use Rattle.psac_grammar.specs.Machine.{block, names, before_names, of_name, of_names, first, run}
use Rattle.psac_lang.proofs.Moves.{fails_from, one_of_moves}
use Rattle.psac_lang.proofs.function.read_header.Goals as goal

pub returns-in_err-take-clause-reads : goal.returns-in_err-take-clause-reads
returns-in_err-take-clause-reads c s vs =
    let p = err_from_is_err_and c.from_residual-in_err-take.result c.from_residual-in_err-take.ensures.1 in
    rw (p.1, p.2) (fails_from _ _ _
    (c.in_ok-name.ensures.reads (before_names ∷ names grammar.header_values 0 ∷ s) vs)
    (c.in_err-take.ensures.takes before_names [] (of_names [] ∷ []) (names grammar.header_values 0 ∷ s) (of_name c.in_ok-name.name ∷ vs) (one_of_moves LeftParen (λ t. fine) (λ t. of_names [] ∷ []) (first c.name.new.tokens))))

pub returns-in_err-values-clause-reads : goal.returns-in_err-values-clause-reads
returns-in_err-values-clause-reads c s vs =
    let p = err_from_is_err_and c.from_residual-in_err-values.result c.from_residual-in_err-values.ensures.1 in
    rw (p.1, p.2) (fails_from _ _ _
    (c.in_ok-name.ensures.reads (before_names ∷ names grammar.header_values 0 ∷ s) vs
    ∙ c.in_ok-take.ensures.takes before_names [] (of_names [] ∷ []) (names grammar.header_values 0 ∷ s) (of_name c.in_ok-name.name ∷ vs) (one_of_moves LeftParen (λ t. fine) (λ t. of_names [] ∷ []) (first c.name.new.tokens)))
    (c.in_err-values.ensures.reads s (of_name c.in_ok-name.name ∷ vs)))

pub returns-in_err-dests-clause-reads : goal.returns-in_err-dests-clause-reads
returns-in_err-dests-clause-reads c s vs =
    let p = err_from_is_err_and c.from_residual-in_err-dests.result c.from_residual-in_err-dests.ensures.1 in
    rw (p.1, p.2) (fails_from _ _ _
    (c.in_ok-name.ensures.reads (before_names ∷ names grammar.header_values 0 ∷ s) vs
    ∙ c.in_ok-take.ensures.takes before_names [] (of_names [] ∷ []) (names grammar.header_values 0 ∷ s) (of_name c.in_ok-name.name ∷ vs) (one_of_moves LeftParen (λ t. fine) (λ t. of_names [] ∷ []) (first c.name.new.tokens))
    ∙ c.in_ok-values.ensures.reads s (of_name c.in_ok-name.name ∷ vs)
    ∙ ap (λ m. run c.names.new.tokens (names grammar.header_dests m ∷ s) (of_names [] ∷ of_names c.in_ok-values.values ∷ of_name c.in_ok-name.name ∷ vs)) (zero-add _ ∙ sym c.len-beside.ensures))
    (c.in_err-dests.ensures.reads s (of_names c.in_ok-values.values ∷ of_name c.in_ok-name.name ∷ vs)))

pub returns-clause-reads : goal.returns-clause-reads
returns-clause-reads c s vs =
    c.in_ok-name.ensures.reads (before_names ∷ names grammar.header_values 0 ∷ s) vs
    ∙ c.in_ok-take.ensures.takes before_names [] (of_names [] ∷ []) (names grammar.header_values 0 ∷ s) (of_name c.in_ok-name.name ∷ vs) (one_of_moves LeftParen (λ t. fine) (λ t. of_names [] ∷ []) (first c.name.new.tokens))
    ∙ c.in_ok-values.ensures.reads s (of_name c.in_ok-name.name ∷ vs)
    ∙ ap (λ m. run c.names.new.tokens (names grammar.header_dests m ∷ s) (of_names [] ∷ of_names c.in_ok-values.values ∷ of_name c.in_ok-name.name ∷ vs)) (zero-add _ ∙ sym c.len-beside.ensures)
    ∙ c.in_ok-dests.ensures.reads s (of_names c.in_ok-values.values ∷ of_name c.in_ok-name.name ∷ vs)
    ∙ ap (λ m. run c.names-2.new.tokens (block 0 (m + length c.in_ok-dests.dests) ∷ s) (of_names c.in_ok-dests.dests ∷ of_names c.in_ok-values.values ∷ of_name c.in_ok-name.name ∷ vs)) c.len-beside.ensures
