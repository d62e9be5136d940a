use Rattle.std.proofs.Common.{◌≡◌, ◌||◌, not, drop}
use Rattle.std.specs.List.{list_all}
use Rattle.psac_model.specs.Series.{has}
use Rattle.psac_check.proofs.sides.are_apart.Given as goal

abbrev pub invariant-loop-name : goal.invariant-loop-name
invariant-loop-name l =
    list_all (λ x. has x l.before || not (has x l.second)) (drop l.name-index l.first) ≡ list_all (λ x. has x l.before || not (has x l.second)) l.first
