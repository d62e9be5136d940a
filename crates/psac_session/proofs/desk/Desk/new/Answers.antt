use Rattle.psac_session.proofs.Goes.{held_begins}
use Rattle.psac_session.proofs.desk.Desk.new.Goals as goal

pub returns-clause-held : goal.returns-clause-held
returns-clause-held c = held_begins c.args.engine.now c.new-2.result.held c.handles.ensures c.new-2.ensures
