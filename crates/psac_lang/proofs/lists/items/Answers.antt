use Rattle.std.proofs.Common.{arith, ◌+◌, ◌∙◌, ap, sym, ◌∷◌, [], length, length-append}
use Rattle.std.proofs.lemmas.Result.{err_from_is_err_and}
use Rattle.psac_tokens.specs.declared.token.Kind.TheVariants.{As}
use Rattle.psac_grammar.specs.Grammar.{top}
use Rattle.psac_grammar.specs.Machine.{level, make, mark, binding, more_items, of_items, item_made, first, run}
use Rattle.psac_lang.specs.Reads.{item_follows}
use Rattle.psac_lang.proofs.Moves.{fails_from}
use Rattle.psac_lang.proofs.Sequences as sequences
use Rattle.psac_lang.proofs.lists.items.Goals as goal

pub returns-in_err-take-clause-reads : goal.returns-in_err-take-clause-reads
returns-in_err-take-clause-reads c b s vs =
    let p = err_from_is_err_and c.from_residual-in_err-take.result c.from_residual-in_err-take.ensures.1 in
    rw (p.1, p.2) (fails_from _ _ _
    (c.more.invariant.reads b s vs)
    (c.in_err-take.ensures.takes (more_items (length c.more.items) b c.args.names) (level top 0 ∷ mark As ∷ binding (c.args.names + (length c.more.items)) ∷ make item_made ∷ more_items ((length c.more.items) + 1) b c.args.names ∷ []) [] s (of_items c.more.items ∷ vs) (sequences.items_comma (length c.more.items) b c.args.names c.peek.result (first c.more.tokens) c.peek.ensures (ap (λ m. item_follows m c.peek.result.kind) (sym c.len.ensures) ∙ sym c.follows.ensures ∙ c.more-test.true))))

pub returns-in_err-item-2-clause-reads : goal.returns-in_err-item-2-clause-reads
returns-in_err-item-2-clause-reads c b s vs =
    let p = err_from_is_err_and c.from_residual-in_err-item-2.result c.from_residual-in_err-item-2.ensures.1 in
    rw (p.1, p.2) (fails_from _ _ _
    (c.more.invariant.reads b s vs
    ∙ c.in_ok-take.ensures.takes (more_items (length c.more.items) b c.args.names) (level top 0 ∷ mark As ∷ binding (c.args.names + (length c.more.items)) ∷ make item_made ∷ more_items ((length c.more.items) + 1) b c.args.names ∷ []) [] s (of_items c.more.items ∷ vs) (sequences.items_comma (length c.more.items) b c.args.names c.peek.result (first c.more.tokens) c.peek.ensures (ap (λ m. item_follows m c.peek.result.kind) (sym c.len.ensures) ∙ sym c.follows.ensures ∙ c.more-test.true))
    ∙ ap (λ m. run c.take.new.tokens (level top 0 ∷ mark As ∷ binding (c.args.names + m) ∷ make item_made ∷ more_items ((length c.more.items) + 1) b c.args.names ∷ s) (of_items c.more.items ∷ vs)) (sym c.len-in-more.ensures))
    (c.in_err-item-2.ensures.adds c.more.items (more_items ((length c.more.items) + 1) b c.args.names ∷ s) vs))

pub more-preserved : goal.more-preserved
more-preserved c =
    let count = length-append c.more.items (c.in_ok-item-2.field-0 ∷ []) in
    let follows = (ap (λ m. item_follows m c.peek.result.kind) (sym c.len.ensures) ∙ sym c.follows.ensures ∙ c.more-test.true) in
    record {
      reads = λ b s vs. rw (c.in_ok-push-2.ensures.ok, count) (c.more.invariant.reads b s vs
          ∙ c.in_ok-take.ensures.takes (more_items (length c.more.items) b c.args.names) (level top 0 ∷ mark As ∷ binding (c.args.names + (length c.more.items)) ∷ make item_made ∷ more_items ((length c.more.items) + 1) b c.args.names ∷ []) [] s (of_items c.more.items ∷ vs) (sequences.items_comma (length c.more.items) b c.args.names c.peek.result (first c.more.tokens) c.peek.ensures (ap (λ m. item_follows m c.peek.result.kind) (sym c.len.ensures) ∙ sym c.follows.ensures ∙ c.more-test.true))
          ∙ ap (λ m. run c.take.new.tokens (level top 0 ∷ mark As ∷ binding (c.args.names + m) ∷ make item_made ∷ more_items ((length c.more.items) + 1) b c.args.names ∷ s) (of_items c.more.items ∷ vs)) (sym c.len-in-more.ensures)
          ∙ c.in_ok-item-2.ensures.adds c.more.items (more_items ((length c.more.items) + 1) b c.args.names ∷ s) vs);
      shorter = omega (arith, c.in_ok-item-2.ensures.shorter, c.in_ok-take.ensures.shorter, c.more.invariant.shorter);
      few = rw (c.in_ok-push-2.ensures.ok, count) (omega (arith, sequences.follows_room (length c.more.items) c.peek.result.kind follows));
      room = rw (c.in_ok-push-2.ensures.ok, count) (omega (arith, c.in_ok-item-2.ensures.room, c.len-in-more.ensures));
    }

pub returns-clause-reads : goal.returns-clause-reads
returns-clause-reads c b s vs =
    c.more.invariant.reads b s vs
    ∙ sequences.items_end c.more.tokens (length c.more.items) b c.args.names c.peek.result s (of_items c.more.items ∷ vs) c.peek.ensures (ap (λ m. item_follows m c.peek.result.kind) (sym c.len.ensures) ∙ sym c.follows.ensures ∙ c.more-test.false)
