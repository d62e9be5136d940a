-- The reply to a commit.
use Rattle.std.specs.Prelude.{◌≡◌, Result, Ok, Err}
use Rattle.psac_model.specs.declared.ends.Work.{Work}
use Rattle.psac_report.specs.Session.{Reply, Worked, Faulted, TooLarge}
use Rattle.psac_engine.specs.declared.answer.Answer.{Answer}
use Rattle.psac_engine.specs.declared.answer.Answer.TheVariants as answer

abbrev pub IsReplyTo : Result Work Answer → Reply → Type 0
IsReplyTo (Ok work) reply = reply ≡ Worked work
IsReplyTo (Err (answer.Fault kind line)) reply = reply ≡ Faulted kind line
IsReplyTo (Err (answer.Full which)) reply = reply ≡ TooLarge
IsReplyTo (Err answer.NoMemory) reply = ⊥
