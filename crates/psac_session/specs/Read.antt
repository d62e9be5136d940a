-- What is read at a place, and the definition's value there.
use Rattle.std.specs.Prelude.{◌≡◌, Option, Some, None, Result, Ok, Err}
use Rattle.psac_ops.specs.declared.plain.Handle.{Handle}
use Rattle.psac_ops.specs.declared.plain.Plain.{Plain}
use Rattle.psac_ops.specs.declared.plain.Plain.TheVariants.{Ref, Pair}
use Rattle.psac_ops.specs.Value.{Value}
use Rattle.psac_ops.specs.Named.{value_of}
use Rattle.psac_model.specs.Names.{Name}
use Rattle.psac_naming.specs.Alike.{Alike}
use Rattle.psac_naming.specs.Naming.{Naming, IsNamed}
use Rattle.psac_report.specs.Session.{Reply, RefusedKind, referred, first_of, second_of}
use Rattle.psac_script.specs.declared.reply.Reply.{Reply as Answer}
use Rattle.psac_script.specs.Replies.{reply_view}
use Rattle.psac_session.specs.declared.hold.Part.{Part}
use Rattle.psac_session.specs.declared.hold.Part.TheVariants.{Referred, First, Second}

-- the value that was read stands for the definition's, or the same is replied in its place
abbrev pub IsRead : Naming Handle → Result Plain Answer → Result (Value Name) Reply → Type 0
IsRead ns (Ok x) (Ok v) = Alike (IsNamed ns) (value_of x) v
IsRead ns (Err answer) (Err reply) = reply_view answer ≡ reply
IsRead ns _ _ = ⊥

-- the modifiable that a value names
abbrev pub handle_of : Part → Plain → Option Handle
handle_of Referred (Ref h) = Some h
handle_of First (Pair g h) = Some g
handle_of Second (Pair g h) = Some h
handle_of _ _ = None

-- and that of the definition's value
abbrev pub name_of : Part → Value Name → Result Name Reply
name_of Referred = referred
name_of First = first_of
name_of Second = second_of

-- the handle is of that name, or the value isn't of the kind that is asked for
abbrev pub IsPart : Naming Handle → Option Handle → Result Name Reply → Type 0
IsPart ns (Some h) (Ok n) = IsNamed ns h n
IsPart ns None r = r ≡ Err RefusedKind
IsPart ns _ _ = ⊥
