-- What a session over an engine that was just opened answers is the report.
use Rattle.std.proofs.Common.{◌≡◌, ◌∙◌, refl, sym, ℕ, List, None}
use Rattle.psac_base.specs.Feeds.{lines_of}
use Rattle.psac_inputs.specs.Grid.{Grid}
use Rattle.psac_inputs.specs.Texts.{Texts}
use Rattle.psac_model.specs.declared.ends.Caps.{Caps}
use Rattle.psac_model.specs.Fresh.{World}
use Rattle.psac_report.specs.Session.{State, begun, step_of}
use Rattle.psac_report.specs.Steps.{replies_by}
use Rattle.psac_report.specs.Report.{session_report}
use Rattle.psac_report.proofs.Steps.{replies_same}
use Rattle.psac_engine.specs.declared.engine.Engine.{Engine}
use Rattle.psac_engine.specs.Engine.{IsOpened, caps_in, grid_in, kept_in, world_in}
use Rattle.psac_session.specs.Answered.{answer_of}
use Rattle.psac_session.specs.State.{no_places, opening}

opening_is : (e : Engine) (texts : Texts) (g : Grid) → grid_in e ≡ g → kept_in e ≡ None → opening e texts ≡ begun g texts
unfolding no_places
opening_is e texts g grid kept = rw (kept, grid) refl

same_replies : (w : World) (caps most : Caps) (lines : List (List ℕ)) (s t : State) → caps ≡ most → s ≡ t
    → replies_by w (step_of w caps) lines s ≡ replies_by w (step_of w most) lines t
same_replies w caps most lines s t same_caps same = rw (same_caps, same) refl

pub report_is : (most : Caps) (g : Grid) (e : Engine) (texts : Texts) (script : List ℕ) → IsOpened most g e
    → answer_of e texts (lines_of script) ≡ session_report (world_in e) most g texts script
unfolding session_report
report_is most g e texts script opened =
    same_replies (world_in e) (caps_in e) most (lines_of script) (opening e texts) (begun g texts) opened.caps (opening_is e texts g opened.grid opened.kept)
    ∙ sym (replies_same (world_in e) most (lines_of script) (begun g texts))
