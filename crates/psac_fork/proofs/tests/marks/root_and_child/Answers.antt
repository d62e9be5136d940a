use Rattle.std.proofs.Common.{◌∙◌}
use Rattle.psac_marks.proofs.Callers.{claimed_dropped, owns_claimed, keeps_own}
use Rattle.psac_fork.proofs.tests.marks.root_and_child.Goals as goal

pub claim-requires-2-clause-parent : goal.claim-requires-2-clause-parent
claim-requires-2-clause-parent c = let k = c.in-Ok.ensures.ok in keeps_own c.claim.new.pass.knows c.in-Ok.root (claimed_dropped _ _ _ _ k ∙ c.requires.kept) (owns_claimed _ _ _ _ k)
