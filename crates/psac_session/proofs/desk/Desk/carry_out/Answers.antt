use Rattle.psac_session.proofs.Placing.{held_step}
use Rattle.psac_session.proofs.Stepped.{ok_then}
use Rattle.psac_session.proofs.desk.Desk.carry_out.Goals as goal

pub returns-in-Rows-clause-step : goal.returns-in-Rows-clause-step
returns-in-Rows-clause-step g c =
    rw c.in-Rows.is (ok_then _ _ c.rows.result (λ reply told. told c.args.texts.now) c.rows.ensures.step)

pub returns-in-Commit-clause-step : goal.returns-in-Commit-clause-step
returns-in-Commit-clause-step g c =
    rw c.in-Commit.is (ok_then _ _ c.commit.result (λ reply told. told c.args.texts.now) c.commit.ensures.step)

pub returns-in-Show-clause-step : goal.returns-in-Show-clause-step
returns-in-Show-clause-step g c =
    rw c.in-Show.is (ok_then _ _ c.show.result (λ reply told. told c.args.texts.now) c.show.ensures.step)

pub returns-in-HoldOut-clause-step : goal.returns-in-HoldOut-clause-step
returns-in-HoldOut-clause-step g c = rw c.in-HoldOut.is (c.hold_out.ensures.step c.args.self.now.batch c.args.texts.now)

pub returns-in-HoldRef-clause-step : goal.returns-in-HoldRef-clause-step
returns-in-HoldRef-clause-step g c =
    rw c.in-HoldRef.is (c.hold_part.ensures.step c.args.self.now.batch c.args.texts.now)

pub returns-in-HoldFst-clause-step : goal.returns-in-HoldFst-clause-step
returns-in-HoldFst-clause-step g c =
    rw c.in-HoldFst.is (c.hold_part-in-HoldFst.ensures.step c.args.self.now.batch c.args.texts.now)

pub returns-in-HoldSnd-clause-step : goal.returns-in-HoldSnd-clause-step
returns-in-HoldSnd-clause-step g c =
    rw c.in-HoldSnd.is (c.hold_part-in-HoldSnd.ensures.step c.args.self.now.batch c.args.texts.now)

pub returns-in-Held-clause-step : goal.returns-in-Held-clause-step
returns-in-Held-clause-step g c =
    rw c.in-Held.is
    (held_step c.in-Held.place _ _ _ (c.held_reply.ensures.told c.args.self.now.batch c.args.texts.now)
    (c.held_reply.ensures.same c.args.self.now.batch c.args.texts.now))
