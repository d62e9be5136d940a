-- The state of a session, by the handles that its places hold.
use Rattle.std.specs.Prelude.{List, Option}
use Rattle.psac_ops.specs.declared.plain.Handle.{Handle}
use Rattle.psac_inputs.specs.Batch.{Batch}
use Rattle.psac_inputs.specs.Texts.{Texts}
use Rattle.psac_report.specs.Session.{State}
use Rattle.psac_engine.specs.declared.engine.Engine.{Engine}
use Rattle.psac_engine.specs.Held.{AreNamed, IsOutlived, names_in}
use Rattle.psac_session.specs.declared.desk.Desk.{Desk}
use Rattle.psac_session.specs.Holding.{AreKnown, places_among}
use Rattle.psac_session.specs.State.{state_at}

abbrev pub state_of : Engine → Batch → Texts → List (Option Handle) → State
state_of e b texts held = state_at e b texts (places_among (names_in e) held)

abbrev pub state_in : Engine → Desk → Texts → State
state_in e d texts = state_of e d.batch texts d.places.held

-- no handle has two names, and each one that is held has a name, or never gets one any more
abbrev pub AreHeld : Engine → List (Option Handle) → Type 0
AreHeld e held = AreNamed e × AreKnown (names_in e) (IsOutlived e) held
