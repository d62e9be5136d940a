use Rattle.std.proofs.Common.{sym, ap, ◌∙◌}
use Rattle.psac_model.specs.Series.{WrittenInBothSides, unless}
use Rattle.psac_check.proofs.Members.{apart_is}
use Rattle.psac_check.proofs.sides.apart_sides.Goals as goal

pub returns-then-are_apart : goal.returns-then-are_apart
returns-then-are_apart c =
    ap (λ z. unless z WrittenInBothSides) (sym (apart_is c.args.before.now c.args.first.now c.args.second.now ∙ sym c.are_apart.ensures ∙ c.if-are_apart.true))

pub returns : goal.returns
returns c =
    ap (λ z. unless z WrittenInBothSides) (sym (apart_is c.args.before.now c.args.first.now c.args.second.now ∙ sym c.are_apart.ensures ∙ c.if-are_apart.false))
