use Rattle.psac_cert.proofs.Lined.{left_one}
use Rattle.psac_cert.proofs.lines.whole.Goals as goal

pub returns : goal.returns
returns c = λ d. rw (c.in_ok-push.ensures.items, c.new-left.ensures.items) (left_one d c.args.tree)
