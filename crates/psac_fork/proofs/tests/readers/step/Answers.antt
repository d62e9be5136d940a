use Rattle.std.proofs.Common.{subst}
use Rattle.std.specs.Prelude.{IfSome}
use Rattle.psac_readers.specs.Passes.{OnWalk}
use Rattle.psac_readers.proofs.Walking.{chain_named}
use Rattle.psac_fork.proofs.tests.readers.step.Goals as goal

pub node-node-requires-clause-own : goal.node-node-requires-clause-own
node-node-requires-clause-own c =
    let v = c.args.pass.now.knows in
    let m = c.args.m.slot in
    let o = subst (λ r. IfSome r (λ l. OnWalk v m l.index)) c.in-Some.is c.requires.on in
    chain_named v m c.in-Some.link.index o.chain o.knows.2 o.on
