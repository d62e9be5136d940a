-- What a line that was carried out tells, and what calls of the outside tell.
use Rattle.std.proofs.Common.{◌≡◌, ℕ, ◌≤◌, ◌<◌, ◌-◌, inl, inr, Bool, true, false, List, [], Result, Ok, Err, refl, arith, length, OnOk, OnErr}
use Rattle.std.specs.Result.{is_err}
use Rattle.psac_base.specs.Causes.{Rose}
use Rattle.psac_base.specs.Lines.{GivesLine}
use Rattle.psac_model.specs.Fresh.{World}
use Rattle.psac_report.specs.Script.{command_of}
use Rattle.psac_report.specs.Session.{Reply, State}
use Rattle.psac_report.specs.Steps.{Step, is_quit}
use Rattle.psac_session.specs.Carried.{IsCarried, IsCarriedBy}
use Rattle.psac_session.specs.Heard.{is_commit}
use Rattle.psac_session.specs.Turned.{text_of}
use Rattle.psac_session.specs.declared.desk.Carried.{Carried}
use Rattle.psac_session.specs.declared.desk.Carried.TheVariants as carried

abbrev items_of : Carried → List ℕ
items_of carried.Quit = []
items_of (carried.Reply text told) = text.items

abbrev pub is_reply : Carried → Bool
is_reply carried.Quit = false
is_reply (carried.Reply text told) = true

abbrev told_commit : Carried → Bool
told_commit carried.Quit = false
told_commit (carried.Reply text told) = told

-- a line that isn't `quit`, the state behind it, the text of its reply, and whether it is a commit
pub record Told (w : World) (step : Step) (s s' : State) (line out : List ℕ) (told : Bool) : Type 0 where
  pub other : is_quit line ≡ false
  pub state : s' ≡ (step s (command_of line)).0
  pub text : out ≡ text_of w (step s (command_of line))
  pub commit : told ≡ is_commit line

told_by : (w : World) (quit is_commit : Bool) (after : State × Reply) (s' : State) (reply : Carried) → IsCarriedBy w quit is_commit after s' reply → is_reply reply ≡ true
    → (quit ≡ false) × (s' ≡ after.0) × (items_of reply ≡ text_of w after) × (told_commit reply ≡ is_commit)
told_by w quit is_commit after s' carried.Quit is reply_is = absurd (cc)
told_by w true is_commit after s' (carried.Reply text told) is reply_is = absurd is
told_by w false is_commit after s' (carried.Reply text told) is reply_is = (refl, is.0, is.1, is.2)

quit_by : (w : World) (quit is_commit : Bool) (after : State × Reply) (s' : State) (reply : Carried) → IsCarriedBy w quit is_commit after s' reply → is_reply reply ≡ false → quit ≡ true
quit_by w true is_commit after s' carried.Quit is quit_is = refl
quit_by w false is_commit after s' carried.Quit is quit_is = absurd is
quit_by w quit is_commit after s' (carried.Reply text told) is quit_is = absurd (cc)

pub told : (w : World) (step : Step) (s s' : State) (line : List ℕ) (reply : Carried) → IsCarried w (command_of line) (step s (command_of line)) s' reply → is_reply reply ≡ true
    → Told w step s s' line (items_of reply) (told_commit reply)
told w step s s' line reply is reply_is =
    let all = told_by w (is_quit line) (is_commit line) (step s (command_of line)) s' reply is reply_is in
    record { other = all.0; state = all.1; text = all.2; commit = all.3 }

pub told_quit : (w : World) (step : Step) (s s' : State) (line : List ℕ) (reply : Carried) → IsCarried w (command_of line) (step s (command_of line)) s' reply → is_reply reply ≡ false → is_quit line ≡ true
told_quit w step s s' line reply is quit_is =
    quit_by w (is_quit line) (is_commit line) (step s (command_of line)) s' reply is quit_is

-- what a call tells where it answers an error, and where it doesn't
pub on_err : {T E P : Type 0} (r : Result T E) → is_err r ≡ true → OnErr r P → P
on_err (Ok x) bad told = absurd (cc)
on_err (Err e) bad told = told

pub on_ok : {T E P : Type 0} (r : Result T E) → is_err r ≡ false → OnOk r P → P
on_ok (Ok x) good told = told
on_ok (Err e) good told = absurd (cc)

-- a count that rose later rose since the beginning
pub rose_since : (a b c : ℕ) → a ≤ b → Rose b c → Rose a c
rose_since a b c before rose = omega arith

-- a line that is given leaves fewer bytes
pub smaller : (bytes : List ℕ) (from to : ℕ) (ended : Bool) (text : List ℕ) → GivesLine bytes from to ended text → length bytes < 16777217
    → 16777217 - to < 16777217 - from
smaller bytes from to ended text (inl whole) short = omega (arith, whole.next, whole.is_end.low, whole.is_end.high)
smaller bytes from to ended text (inr last) short = omega (arith, last.1.next, last.1.some)

pub given_more : (bytes : List ℕ) (from to : ℕ) (ended : Bool) (text : List ℕ) → GivesLine bytes from to ended text → from < to
given_more bytes from to ended text (inl whole) = omega (arith, whole.next, whole.is_end.low)
given_more bytes from to ended text (inr last) = omega (arith, last.1.next, last.1.some)
