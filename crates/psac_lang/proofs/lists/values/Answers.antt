use Rattle.std.proofs.Common.{arith, ◌+◌, ◌∙◌, ap, sym, refl, ◌∷◌, [], length, length-append}
use Rattle.std.proofs.lemmas.Result.{err_from_is_err_and}
use Rattle.psac_grammar.specs.Marked.{by_values}
use Rattle.psac_grammar.specs.Grammar as grammar
use Rattle.psac_grammar.specs.Grammar.{top, start_of, apply_one, is_chain}
use Rattle.psac_grammar.specs.Machine.{tails, make, also, operand, names, values, more_values, value, of_names, of_values, value_made, first}
use Rattle.psac_lang.proofs.Moves.{fails_from}
use Rattle.psac_lang.proofs.Sequences as sequences
use Rattle.psac_lang.proofs.lists.values.Goals as goal

pub returns-in_err-take-clause-reads : goal.returns-in_err-take-clause-reads
returns-in_err-take-clause-reads c s vs =
    let p = err_from_is_err_and c.from_residual.result c.from_residual.ensures.1 in
    rw (p.1, p.2) (c.in_err-take.ensures.takes values (names grammar.call_dests 0 ∷ []) (of_names [] ∷ []) s (of_values [] ∷ vs) (sequences.values_close c.peek.result (first c.args.tokens.now) c.peek.ensures c.if-eq.ensures))

pub returns-then-eq-clause-reads : goal.returns-then-eq-clause-reads
returns-then-eq-clause-reads c s vs = rw (c.new-values.ensures) (c.in_ok-take.ensures.takes values (names grammar.call_dests 0 ∷ []) (of_names [] ∷ []) s (of_values [] ∷ vs) (sequences.values_close c.peek.result (first c.args.tokens.now) c.peek.ensures c.if-eq.ensures))

pub returns-in_err-value-clause-reads : goal.returns-in_err-value-clause-reads
returns-in_err-value-clause-reads c s vs =
    let p = err_from_is_err_and c.from_residual-in_err-value.result c.from_residual-in_err-value.ensures.1 in
    rw (p.1, p.2) (c.in_err-value.ensures.reads values (make value_made ∷ more_values 1 ∷ []) s (more_values 1 ∷ s) [] vs (sequences.values_first c.peek.result (first c.args.tokens.now) c.peek.ensures c.if-eq.ensures) refl)

pub more-init : goal.more-init
more-init c = record {
  reads = λ s vs. rw (c.in_ok-push.ensures.ok, c.new-values.ensures) (c.in_ok-value.ensures.reads values (make value_made ∷ more_values 1 ∷ []) s (more_values 1 ∷ s) [] vs (sequences.values_first c.peek.result (first c.args.tokens.now) c.peek.ensures c.if-eq.ensures) refl);
  shorter = c.in_ok-value.ensures.shorter;
}

pub returns-in_err-take-2-clause-reads : goal.returns-in_err-take-2-clause-reads
returns-in_err-take-2-clause-reads c s vs =
    let p = err_from_is_err_and c.from_residual-in_err-take-2.result c.from_residual-in_err-take-2.ensures.1 in
    rw (p.1, p.2) (fails_from _ _ _
    (c.more.invariant.reads s vs)
    (c.in_err-take-2.ensures.takes (more_values (length c.more.values)) (value (length c.more.values) ∷ make value_made ∷ more_values ((length c.more.values) + 1) ∷ []) [] s (of_values c.more.values ∷ vs) (sequences.values_comma c.peek-in-more.result (first c.more.tokens) c.peek-in-more.ensures (length c.more.values) c.more-test.ensures)))

pub returns-in_err-value-2-clause-reads : goal.returns-in_err-value-2-clause-reads
returns-in_err-value-2-clause-reads c s vs =
    let p = err_from_is_err_and c.from_residual-in_err-value-2.result c.from_residual-in_err-value-2.ensures.1 in
    rw (p.1, p.2) (fails_from _ _ _
    (c.more.invariant.reads s vs
    ∙ c.in_ok-take-2.ensures.takes (more_values (length c.more.values)) (value (length c.more.values) ∷ make value_made ∷ more_values ((length c.more.values) + 1) ∷ []) [] s (of_values c.more.values ∷ vs) (sequences.values_comma c.peek-in-more.result (first c.more.tokens) c.peek-in-more.ensures (length c.more.values) c.more-test.ensures))
    (c.in_err-value-2.ensures.reads (value (length c.more.values)) [] (make value_made ∷ more_values ((length c.more.values) + 1) ∷ s) (more_values ((length c.more.values) + 1) ∷ s) c.more.values vs (sequences.value_moves (length c.more.values) (first c.take-in-more.new.tokens) ∙ ap (λ m. also m (operand (start_of (first c.take-in-more.new.tokens).kind (first c.take-in-more.new.tokens)) (first c.take-in-more.new.tokens) 0 (tails top 0))) (ap by_values (sym c.len.ensures) ∙ sym c.below-beyond.ensures.value)) refl))

pub more-preserved : goal.more-preserved
more-preserved c =
    let count = length-append c.more.values (c.in_ok-value-2.field-0 ∷ []) in
    record {
      reads = λ s vs. rw (c.in_ok-push-2.ensures.ok, count) (c.more.invariant.reads s vs
          ∙ c.in_ok-take-2.ensures.takes (more_values (length c.more.values)) (value (length c.more.values) ∷ make value_made ∷ more_values ((length c.more.values) + 1) ∷ []) [] s (of_values c.more.values ∷ vs) (sequences.values_comma c.peek-in-more.result (first c.more.tokens) c.peek-in-more.ensures (length c.more.values) c.more-test.ensures)
          ∙ c.in_ok-value-2.ensures.reads (value (length c.more.values)) [] (make value_made ∷ more_values ((length c.more.values) + 1) ∷ s) (more_values ((length c.more.values) + 1) ∷ s) c.more.values vs (sequences.value_moves (length c.more.values) (first c.take-in-more.new.tokens) ∙ ap (λ m. also m (operand (start_of (first c.take-in-more.new.tokens).kind (first c.take-in-more.new.tokens)) (first c.take-in-more.new.tokens) 0 (tails top 0))) (ap by_values (sym c.len.ensures) ∙ sym c.below-beyond.ensures.value)) refl);
      shorter = omega (arith, c.in_ok-value-2.ensures.shorter, c.in_ok-take-2.ensures.shorter, c.more.invariant.shorter);
    }

pub returns-in_err-take-3-clause-reads : goal.returns-in_err-take-3-clause-reads
returns-in_err-take-3-clause-reads c s vs =
    let p = err_from_is_err_and c.from_residual-in_err-take-3.result c.from_residual-in_err-take-3.ensures.1 in
    rw (p.1, p.2) (fails_from _ _ _
    (c.more.invariant.reads s vs)
    (c.in_err-take-3.ensures.takes (more_values (length c.more.values)) (names grammar.call_dests 0 ∷ []) (of_names [] ∷ []) s (of_values c.more.values ∷ vs) (sequences.more_values_close c.peek-in-more.result (first c.more.tokens) c.peek-in-more.ensures (length c.more.values) c.more-test.ensures)))

pub returns-clause-reads : goal.returns-clause-reads
returns-clause-reads c s vs =
    c.more.invariant.reads s vs
    ∙ c.in_ok-take-3.ensures.takes (more_values (length c.more.values)) (names grammar.call_dests 0 ∷ []) (of_names [] ∷ []) s (of_values c.more.values ∷ vs) (sequences.more_values_close c.peek-in-more.result (first c.more.tokens) c.peek-in-more.ensures (length c.more.values) c.more-test.ensures)
