use Rattle.psac_marks.proofs.Callers.{owns_claimed}
use Rattle.psac_fork.proofs.tests.marks.claim_past_two.Goals as goal

pub is_marked-marked-requires-clause-own : goal.is_marked-marked-requires-clause-own
is_marked-marked-requires-clause-own c = owns_claimed _ _ _ _ c.in-Ok-claim.ensures.ok
