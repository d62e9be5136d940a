use Rattle.std.proofs.Common.{◌∙◌, ap, arith}
use Rattle.psac_plain.specs.Slots.{env_of}
use Rattle.psac_plain.proofs.Binds.{bind_hit, bind_end}
use Rattle.psac_plain.proofs.binding.bind_to.Goals as goal

pub returns-then-index-name : goal.returns-then-index-name
returns-then-index-name c =
    bind_hit c.args.name c.args.value c.loop-i.env.items c.loop-i.i c.index.result.now (omega (arith, c.loop-i-test.true, c.loop-i.invariant.count)) c.index.ensures c.if-index-name.true ∙ c.loop-i.invariant.found

pub returns : goal.returns
returns c =
    ap env_of c.in_ok-push.ensures.items ∙ bind_end c.args.name c.args.value c.loop-i.env.items c.loop-i.i (omega (arith, c.loop-i-test.false, c.loop-i.auto.i-end, c.loop-i.invariant.count)) ∙ c.loop-i.invariant.found
