use Rattle.psac_repair.proofs.Adding.{parts_stand, sides_stand}
use Rattle.psac_repair.proofs.laws.standing_parts_add_up.Goals as goal

pub returns-clause-parts : goal.returns-clause-parts
returns-clause-parts c = parts_stand

pub returns-clause-sides : goal.returns-clause-sides
returns-clause-sides c = sides_stand
