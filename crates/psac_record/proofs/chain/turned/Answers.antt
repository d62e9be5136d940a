use Rattle.std.proofs.Common.{◌∙◌, ◌++◌, ap, sym, reverse}
use Rattle.psac_record.specs.Shown.{kept_of, chain_of}
use Rattle.psac_record.proofs.Chains.{reverse_added}
use Rattle.psac_record.proofs.chain.turned.Goals as goal

pub loop-from-preserved : goal.loop-from-preserved
loop-from-preserved c =
    let rest = c.unlinked-first.result.1 in
    ap (λ x. reverse (chain_of rest) ++ x) c.linked-onto.ensures
    ∙ sym (reverse_added (kept_of c.unlinked-first.result.0) (chain_of rest) (chain_of c.loop-from.onto))
    ∙ ap (λ x. reverse x ++ chain_of c.loop-from.onto) (sym c.unlinked-first.ensures.all)
    ∙ c.loop-from.invariant
