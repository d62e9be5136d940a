use Rattle.std.proofs.Common.{rules}
use Rattle.psac_engine.specs.Engine.{world_in}
use Rattle.psac_session.proofs.Goes.{held_put}
use Rattle.psac_session.proofs.Placing.{out_held}
use Rattle.psac_session.proofs.hold.hold_out.Goals as goal
use Rattle.psac_model.specs.Names.{Out}

pub returns-clause-step : goal.returns-clause-step
returns-clause-step c = λ b texts.
    let e = c.args.engine.now in
    rw c.put.ensures
    (out_held (world_in e) e b texts c.args.places.now.held c.args.place c.args.out c.out_handle.result c.has.result
    c.has_output.result
    c.has.ensures c.has_output.ensures (search rules) (search rules) c.requires.0 c.out_handle.ensures)

pub returns-clause-held : goal.returns-clause-held
returns-clause-held c =
    rw c.put.ensures (held_put c.args.engine.now c.args.places.now.held c.args.place c.out_handle.result (Out
    c.args.out) c.out_handle.ensures c.requires)
