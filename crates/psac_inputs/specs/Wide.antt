-- Records of many fields, and the states of csv's reader that its default settings come to.
use Rattle.std.specs.Prelude.{◌<◌, ℕ, List, [], length, get_or}
use Rattle.csv.specs.declared.parser.Action.{Action}
use Rattle.csv.specs.declared.parser.Action.TheVariants as act
use Rattle.csv.specs.declared.parser.State.{State}
use Rattle.csv.specs.declared.parser.State.TheVariants as st
use Rattle.psac_inputs.specs.declared.wide.Mark.{Mark}
use Rattle.psac_inputs.specs.declared.wide.Mark.TheVariants as mark
use Rattle.psac_inputs.specs.declared.wide.Place.{Place}
use Rattle.psac_inputs.specs.declared.wide.Place.TheVariants as place

abbrev pub state_of : Place → State
state_of place.Between = st.StartRecord
state_of place.FieldStart = st.StartField
state_of place.InField = st.InField
state_of place.InQuotes = st.InQuoted
state_of place.BehindQuote = st.AfterQuote
state_of place.BehindReturn = st.AfterCr

abbrev pub mark_of : Action → Mark
mark_of act.Skip = mark.Nothing
mark_of act.Copy = mark.Nothing
mark_of act.EndField = mark.Field
mark_of act.EndRecord = mark.Record

-- there is a record behind n others, with more fields than so many
abbrev pub IsWide : ℕ → ℕ → List (List (List ℕ)) → Type 0
IsWide most n records = (n < length records) × (most < length (get_or records n []))
