use Rattle.std.proofs.Common.{◌∙◌, sym, ap}
use Rattle.std.specs.Option.{option_copied}
use Rattle.psac_script.specs.Parts.{parts_left}
use Rattle.psac_script.proofs.LineParts.{next_part, last_part}
use Rattle.psac_script.proofs.parts.Parts.next.Goals as goal

pub returns-in-Some : goal.returns-in-Some
returns-in-Some c =
    let left = ap (λ o. parts_left (option_copied o)) (sym c.in_ok-left.was) ∙ c.self.view_is in
    next_part c.args.self.now c.in_ok-left.left.now c.in-Some.end left c.in-Some.ensures

pub returns-in-None : goal.returns-in-None
returns-in-None c =
    let left = ap (λ o. parts_left (option_copied o)) (sym c.in_ok-left.was) ∙ c.self.view_is in
    last_part c.args.self.now c.in_ok-left.left.now left c.in-None.ensures
