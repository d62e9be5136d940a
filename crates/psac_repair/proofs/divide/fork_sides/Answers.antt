use Rattle.std.proofs.Common.{◌∷◌, Some, sym, subst}
use Rattle.psac_record.specs.Shown.{kept_of}
use Rattle.psac_repair.specs.Planted.{Planted}
use Rattle.psac_repair.proofs.Parting.{sides_parted, planted_left, planted_right}
use Rattle.psac_repair.proofs.divide.fork_sides.Goals as goal

pub divided-requires-clause-parted : goal.divided-requires-clause-parted
divided-requires-clause-parted c =
    let q = c.requires.planted in
    sides_parted c.args.pass.marks.knows c.requires.rooted q.0 q.1 q.2 (kept_of c.args.left.now) (kept_of c.args.right.now) q.3

pub returns-clause-left_planted : goal.returns-clause-left_planted
returns-clause-left_planted c = λ us above n p.
    let l = kept_of c.args.left.now in
    let r = kept_of c.args.right.now in
    subst (λ z. Planted z (n.slot ∷ us) (Some n) l) (sym c.divided.ensures.left_marks) (planted_left c.args.pass.marks.knows c.requires.rooted us above n l r p)

pub returns-clause-right_planted : goal.returns-clause-right_planted
returns-clause-right_planted c = λ us above n p.
    let l = kept_of c.args.left.now in
    let r = kept_of c.args.right.now in
    subst (λ z. Planted z (n.slot ∷ us) (Some n) r) (sym c.divided.ensures.right_marks) (planted_right c.args.pass.marks.knows c.requires.rooted us above n l r p)
