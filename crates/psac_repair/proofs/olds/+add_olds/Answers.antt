use Rattle.std.proofs.Common.{ap, sym, subst, ◌∙◌}
use Rattle.psac_laws.proofs.Places.{not_both}
use Rattle.psac_plain.specs.Slots.{env_of}
use Rattle.psac_record.specs.Opened.{look_of}
use Rattle.psac_record.specs.Shown.{kept_of}
use Rattle.psac_repair.specs.Rebuilt.{Gathers}
use Rattle.psac_repair.proofs.Gathering.{gathers_made, gathers_block, gathers_other, gathers_wrote, gathers_then, gathers_both}
use Rattle.psac_repair.proofs.olds.+add_olds.Goals as goal
use Rattle.psac_repair.proofs.olds.+add_olds.Goals.{then-is_bound+in_ok-push-in-Wrote, else-is_bound}

pub returns-in_ok-add_olds-in-Made : goal.returns-in_ok-add_olds-in-Made
returns-in_ok-add_olds-in-Made t c =
    let env = env_of c.args.env.now in
    let xs = c.args.olds.now.items in
    let ys = c.add_olds.new.olds.items in
    subst (λ z. Gathers env z xs ys) (ap look_of (sym c.in-Made.is) ∙ c.look.ensures)
    (gathers_made env _ (kept_of c.in-Made.rest.now) xs ys c.in_ok-add_olds-in-Made.ensures)

pub returns-in_ok-add_olds-in-Wrote : goal.returns-in_ok-add_olds-in-Wrote
returns-in_ok-add_olds-in-Wrote t c =
    let env = env_of c.args.env.now in
    let xs = c.args.olds.now.items in
    let ys = c.add_olds-in-Wrote.new.olds.items in
    let k = kept_of c.in-Wrote.rest.now in
    subst (λ z. Gathers env z xs ys) (ap look_of (sym c.in-Wrote.is) ∙ c.look.ensures)
    (elim c.if-is_bound.branch [
      | then-is_bound+in_ok-push-in-Wrote w ↦
          gathers_wrote env c.in-Wrote.m _ k xs ys
          (subst (λ z. Gathers env k z ys) (ap (λ z. z.items) w.olds-is ∙ w.in_ok-push-in-Wrote.ensures.items) c.in_ok-add_olds-in-Wrote.ensures)
      | else-is_bound w ↦
          gathers_other env c.in-Wrote.m _ k xs ys
          (λ n e. not_both (c.is_bound.ensures n e) w.if-is_bound.false)
          (subst (λ z. Gathers env k z ys) (ap (λ z. z.items) w.olds-is) c.in_ok-add_olds-in-Wrote.ensures)
    ])

pub returns-in_ok-add_olds-in-Step-2 : goal.returns-in_ok-add_olds-in-Step-2
returns-in_ok-add_olds-in-Step-2 t c =
    let env = env_of c.args.env.now in
    let xs = c.args.olds.now.items in
    let ys = c.add_olds-in-Step.new.olds.items in
    let zs = c.add_olds-in-Step-2.new.olds.items in
    subst (λ z. Gathers env z xs zs) (ap look_of (sym c.in-Step.is) ∙ c.look.ensures)
    (gathers_then env _ (kept_of c.in-Step.inner.now) (kept_of c.in-Step.rest.now) xs ys zs c.in_ok-add_olds-in-Step.ensures c.in_ok-add_olds-in-Step-2.ensures)

pub returns-in_ok-add_olds-in-Both-2 : goal.returns-in_ok-add_olds-in-Both-2
returns-in_ok-add_olds-in-Both-2 t c =
    let env = env_of c.args.env.now in
    let xs = c.args.olds.now.items in
    let ys = c.add_olds-in-Both.new.olds.items in
    let zs = c.add_olds-in-Both-2.new.olds.items in
    subst (λ z. Gathers env z xs zs) (ap look_of (sym c.in-Both.is) ∙ c.look.ensures)
    (gathers_both env _ (kept_of c.in-Both.left.now) (kept_of c.in-Both.right.now) xs ys zs c.in_ok-add_olds-in-Both.ensures c.in_ok-add_olds-in-Both-2.ensures)

pub returns-in_ok-add_olds-in-Block : goal.returns-in_ok-add_olds-in-Block
returns-in_ok-add_olds-in-Block t c =
    let env = env_of c.args.env.now in
    let xs = c.args.olds.now.items in
    let ys = c.add_olds-in-Block.new.olds.items in
    subst (λ z. Gathers env z xs ys) (ap look_of (sym c.in-Block.is) ∙ c.look.ensures)
    (gathers_block env _ (kept_of c.in-Block.inner.now) xs ys c.in_ok-add_olds-in-Block.ensures)
