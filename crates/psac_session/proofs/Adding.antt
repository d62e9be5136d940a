-- What was written and heard, one after another.
use Rattle.std.proofs.Common.{ℕ, ◌<◌, ◌≤◌, Bool, true, false, List, [], ◌++◌, Option, Some, None, length, ap, sym, arith, append_assoc, length-append}
use Rattle.std.specs.Prelude.{IfSome}
use Rattle.std.proofs.lemmas.List.{append-nil}
use Rattle.psac_base.proofs.Wrote.{Appended-append, Appended-nil}
use Rattle.psac_model.specs.declared.ends.Shown.{Shown}
use Rattle.psac_session.specs.Heard.{Adds, HasRoom, Heard, Outward, Shows, heard_where}

pub Heard-append : (a b c : Option Shows) (xs ys : Shows) → Heard a b xs → Heard b c ys → Heard a c (xs ++ ys)
Heard-append a b None xs ys before after = tt
Heard-append a None (Some c) xs ys before after = absurd after
Heard-append None (Some b) (Some c) xs ys before after = absurd before
Heard-append (Some a) (Some b) (Some c) xs ys before after = rw (after, before, append_assoc a xs ys)

-- nothing was heard
pub Heard-nil : (a : Option Shows) → Heard a a []
Heard-nil None = tt
Heard-nil (Some a) = sym (append-nil a)

pub adds_none : (a : Outward) → Adds a a [] []
adds_none a = (Appended-nil a.0, Heard-nil a.1)

pub adds_more : (a b c : Outward) (xs ys : List ℕ) (us vs : Shows) → Adds a b xs us → Adds b c ys vs → Adds a c (xs ++ ys) (us ++ vs)
adds_more a b c xs ys us vs before after =
    (Appended-append a.0 b.0 c.0 xs ys before.0 after.0, Heard-append a.1 b.1 c.1 us vs before.1 after.1)

pub one_heard : (is : Bool) (shown : Option (List Shown)) → length (heard_where is shown) ≤ 1
one_heard true shown = omega arith
one_heard false shown = omega arith

-- what was heard leaves room
pub room_left : (a b : Option Shows) (xs : Shows) (n : ℕ) → IfSome a (λ seen. length seen < 500000000) → Heard a b xs → length xs ≤ n → n < 16777217 → HasRoom b
room_left a None xs n few heard many short = tt
room_left None (Some b) xs n few heard many short = absurd heard
room_left (Some a) (Some b) xs n few heard many short = omega (arith, ap length heard, length-append a xs)
