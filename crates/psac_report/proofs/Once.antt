-- What is written of one commit is told by the outcome of its run.
use Rattle.std.proofs.Common.{◌≡◌, refl, List, ℕ, None}
use Rattle.psac_inputs.specs.Grid.{Grid}
use Rattle.psac_inputs.specs.Texts.{Texts}
use Rattle.psac_model.specs.declared.ends.Caps.{Caps}
use Rattle.psac_model.specs.Fresh.{World, Outcome, Full, Fault, Good, outcome}
use Rattle.psac_report.specs.Session.{State, begun, committed, after_outcome}
use Rattle.psac_report.specs.Report.{once_report, outcome_text, outputs_told}

outcome_told : (w : World) (caps : Caps) (g : Grid) (texts : Texts) (o : Outcome)
    → outputs_told w (after_outcome caps (record (begun g texts) { grid = g }) o) ≡ outcome_text w texts o
outcome_told w caps g texts (Full which) = refl
outcome_told w caps g texts (Fault kind line) = refl
outcome_told w caps g texts (Good tree heap) = refl

pub once_report_is : (w : World) (caps : Caps) (g : Grid) (texts : Texts) → once_report w caps g texts ≡ outcome_text w texts (outcome w caps g)
unfolding once_report committed
once_report_is w caps g texts = outcome_told w caps g texts (outcome w caps g)
