-- Replies, as the definition of a session has them, and what of a program they need.
use Rattle.std.specs.Prelude.{◌≡◌, ℕ, List, [], map, Some, slice_get, unwrap_or}
use Rattle.std.specs.Option.{option_map_or}
use Rattle.psac_ops.specs.declared.plain.TextId.{TextId}
use Rattle.psac_syntax.specs.declared.program.Program.{Program}
use Rattle.psac_inputs.specs.Texts.{Texts}
use Rattle.psac_model.specs.Fresh.{World, main_of, world_of}
use Rattle.psac_model.specs.declared.ends.Shown.{Shown}
use Rattle.psac_report.specs.Printed.{output_lines}
use Rattle.psac_report.specs.Session.{Reply, TooLarge, Holds, output_names, reply_text}
use Rattle.psac_report.specs.Session as session
use Rattle.psac_script.specs.declared.reply.Reply.{Reply as Answer}
use Rattle.psac_script.specs.declared.reply.Reply.TheVariants as answer

abbrev pub reply_view : Answer → Reply
reply_view answer.Nothing = session.Nothing
reply_view (answer.Worked work) = session.Worked work
reply_view (answer.Faulted kind line) = session.Faulted kind line
reply_view answer.Full = TooLarge
reply_view (answer.Outputs values) = session.Outputs values.items
reply_view answer.NoRecord = session.NoRecord
reply_view (answer.Sized size) = session.Sized size
reply_view (answer.Held place value) = Holds place value
reply_view answer.Stale = session.Stale
reply_view answer.RefusedForm = session.RefusedForm
reply_view answer.RefusedRange = session.RefusedRange
reply_view answer.RefusedUtf8 = session.RefusedUtf8
reply_view answer.RefusedLimit = session.RefusedLimit
reply_view answer.RefusedEmpty = session.RefusedEmpty
reply_view answer.RefusedKind = session.RefusedKind

-- the bytes of the name at a place
abbrev pub name_bytes : Program → ℕ → List ℕ
name_bytes program name = unwrap_or (slice_get program.names name) []

abbrev pub names_of : Program → List ℕ → List (List ℕ)
names_of program dests = map (name_bytes program) dests

-- the names of main's destinations
abbrev pub main_names : Program → List (List ℕ)
main_names program = option_map_or (λ main. names_of program main.dests) (main_of program) []

-- the lines of main's outputs, for a program with the ids of its texts
abbrev pub IsTextOfOutputs : Program → Texts → List Shown → List ℕ → Type 0
IsTextOfOutputs program texts values text =
    (ids : List TextId) (world : World) → world_of program ids ≡ Some world → text ≡ output_lines texts (output_names world) values

-- the text of a reply, for a program with the ids of its texts
abbrev pub IsTextOfReply : Program → Texts → Answer → List ℕ → Type 0
IsTextOfReply program texts reply text =
    (ids : List TextId) (world : World) → world_of program ids ≡ Some world → text ≡ reply_text world texts (reply_view reply)
