use Rattle.std.proofs.Common.{◌∙◌, ap, sym}
use Rattle.psac_model.specs.Tree.{one_s, one_p, one_mod}
use Rattle.psac_record.specs.Kept.{counts}
use Rattle.psac_record.specs.Opened.{look_of}
use Rattle.psac_record.specs.Shown.{kept_of}
use Rattle.psac_record.proofs.Sizes.{counts_on, counts_two, counts_block}
use Rattle.psac_record.proofs.size.+count.Goals as goal

pub returns-in-Made : goal.returns-in-Made
returns-in-Made t c =
    counts_on c.args.size.now one_mod c.grow.new.size c.count.new.size (kept_of c.args.tree.now) (kept_of c.in-Made.rest.now) (ap counts (sym c.look.ensures ∙ ap look_of c.in-Made.is)) c.grow.ensures c.count.ensures

pub returns-in-Step : goal.returns-in-Step
returns-in-Step t c =
    counts_two c.args.size.now one_s c.grow-in-Step.new.size c.count-in-Step.new.size c.count-in-Step-2.new.size (kept_of c.args.tree.now) (kept_of c.in-Step.inner.now) (kept_of c.in-Step.rest.now) (ap counts (sym c.look.ensures ∙ ap look_of c.in-Step.is)) c.grow-in-Step.ensures c.count-in-Step.ensures c.count-in-Step-2.ensures

pub returns-in-Both : goal.returns-in-Both
returns-in-Both t c =
    counts_two c.args.size.now one_p c.grow-in-Both.new.size c.count-in-Both.new.size c.count-in-Both-2.new.size (kept_of c.args.tree.now) (kept_of c.in-Both.left.now) (kept_of c.in-Both.right.now) (ap counts (sym c.look.ensures ∙ ap look_of c.in-Both.is)) c.grow-in-Both.ensures c.count-in-Both.ensures c.count-in-Both-2.ensures

pub returns-in-Block : goal.returns-in-Block
returns-in-Block t c =
    counts_on c.args.size.now c.one_block.result c.grow-in-Block.new.size c.count-in-Block.new.size (kept_of c.args.tree.now) (kept_of c.in-Block.inner.now) (counts_block (kept_of c.args.tree.now) (kept_of c.in-Block.inner.now) c.in-Block.reading.now c.one_block.result c.len.result (sym c.look.ensures ∙ ap look_of c.in-Block.is) c.one_block.ensures c.len.ensures) c.grow-in-Block.ensures c.count-in-Block.ensures
