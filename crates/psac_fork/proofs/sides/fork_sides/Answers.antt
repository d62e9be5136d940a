use Rattle.std.proofs.Common.{sym, subst}
use Rattle.psac_values.specs.declared.view.ValueView.{ValueView}
use Rattle.psac_values.specs.Knowing.{Has}
use Rattle.psac_marks.specs.declared.view.MarksView.{MarksView}
use Rattle.psac_marks.specs.Passes.{Owns}
use Rattle.psac_fork.proofs.Parting.{parted, has_left, has_right, owns_left, owns_right}
use Rattle.psac_fork.proofs.sides.fork_sides.Goals as goal

pub divided-requires-clause-parted : goal.divided-requires-clause-parted
divided-requires-clause-parted c = parted _ _ _ c.requires.parts

pub returns-clause-left_has : goal.returns-clause-left_has
returns-clause-left_has c = λ m h l r. subst (λ (v : ValueView). Has v m) (sym c.divided.ensures.left_values) (has_left _ _ c.args.pass.values.knows m h l r)

pub returns-clause-right_has : goal.returns-clause-right_has
returns-clause-right_has c = λ m h r. subst (λ (v : ValueView). Has v m) (sym c.divided.ensures.right_values) (has_right _ _ c.args.pass.values.knows m h r)

pub returns-clause-left_owns : goal.returns-clause-left_owns
returns-clause-left_owns c = λ h o l. subst (λ (v : MarksView). Owns v h) (sym c.divided.ensures.left_marks) (owns_left _ _ c.args.pass.marks.knows h o l (c.requires.parts.apart h.slot l))

pub returns-clause-right_owns : goal.returns-clause-right_owns
returns-clause-right_owns c = λ h o r. subst (λ (v : MarksView). Owns v h) (sym c.divided.ensures.right_marks) (owns_right _ _ c.args.pass.marks.knows h o r)
