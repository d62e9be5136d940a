use Rattle.std.proofs.Common.{rules}
use Rattle.psac_engine.specs.declared.held.Held.TheVariants as told
use Rattle.psac_session.proofs.Reading.{handle_read}
use Rattle.psac_session.proofs.hold.value_at.Goals as goal

pub returns-in-Value-clause-read : goal.returns-in-Value-clause-read
returns-in-Value-clause-read c = λ b texts.
    handle_read c.args.engine.now b texts c.args.places.now.held c.args.place c.in-Some.handle (told.Value
    c.in-Value.value) (search rules) c.in-Value.ensures.named c.in-Value.ensures.stale

pub returns-in-Stale-clause-read : goal.returns-in-Stale-clause-read
returns-in-Stale-clause-read c = λ b texts.
    handle_read c.args.engine.now b texts c.args.places.now.held c.args.place c.in-Some.handle told.Stale (search
    rules) c.in-Stale.ensures.named c.in-Stale.ensures.stale

pub returns-in-Unwritten-clause-read : goal.returns-in-Unwritten-clause-read
returns-in-Unwritten-clause-read c = λ b texts.
    handle_read c.args.engine.now b texts c.args.places.now.held c.args.place c.in-Some.handle told.Unwritten (search
    rules) c.in-Unwritten.ensures.named c.in-Unwritten.ensures.stale
