-- What a line came to.
use Rattle.std.specs.Prelude.{◌≡◌, Bool, true, false, Option}
use Rattle.psac_model.specs.Fresh.{World}
use Rattle.psac_report.specs.Script.{Command}
use Rattle.psac_report.specs.Session.{State, Reply, reply_text}
use Rattle.psac_report.specs.Steps.{quits}
use Rattle.psac_session.specs.Heard.{commits}
use Rattle.psac_session.specs.declared.desk.Carried.{Carried}
use Rattle.psac_session.specs.declared.desk.Carried.TheVariants as carried

-- the line that ends the script isn't carried out; after every other line the state is the step's, the text is that of
-- its reply, and it is told whether the line is a commit
abbrev pub IsCarriedBy : World → Bool → Bool → State × Reply → State → Carried → Type 0
IsCarriedBy w true is_commit after s carried.Quit = Unit {0}
IsCarriedBy w false is_commit after s (carried.Reply text told) = (s ≡ after.0) × (text.items ≡ reply_text w after.0.texts after.1) × (told ≡ is_commit)
IsCarriedBy w _ is_commit after s _ = ⊥

abbrev pub IsCarried : World → Option Command → State × Reply → State → Carried → Type 0
IsCarried w command = IsCarriedBy w (quits command) (commits command)
