-- The first line of some bytes.
use Rattle.std.proofs.Common.{◌≡◌, ℕ, ◌+◌, ◌-◌, ◌≤◌, ◌<◌, List, [], ◌∷◌, length, take, drop, get_or, arith, refl, subst}
use Rattle.std.proofs.lemmas.List.{append-nil, drop_all, take_rest}
use Rattle.psac_base.specs.Feeds.{NoFeed, line_text, lines_of}
use Rattle.psac_base.specs.Lines.{GivesLast, GivesWhole, IsEnd}
use Rattle.psac_base.proofs.Splits.{last_is_last, whole_is_next}

-- a line that ends with a line feed
pub feed_line : (bytes : List ℕ) (stop : ℕ) (text : List ℕ) → stop < length bytes → get_or bytes stop 0 ≡ 10 → NoFeed bytes 0 stop
    → text ≡ line_text (take stop bytes)
    → lines_of bytes ≡ text ∷ lines_of (take (length bytes - (stop + 1)) (drop (stop + 1) bytes))
feed_line bytes stop text within feed none is =
    let end : IsEnd bytes 0 stop = record { low = omega arith; high = within; feed = feed; first = none } in
    let whole : stop - 0 ≡ stop = omega arith in
    let given : GivesWhole bytes 0 (stop + 1) text = record { stop = stop; is_end = end; next = refl; is_text = rw whole is } in
    let Says : List ℕ → Type 0 = λ all. lines_of (drop 0 all) ≡ text ∷ lines_of (drop (stop + 1) all) in
    let next = subst Says (append-nil bytes) (whole_is_next bytes [] 0 (stop + 1) text given) in
    rw (take_rest bytes (stop + 1)) next

-- the last line, without a line feed
pub open_line : (bytes : List ℕ) (stop : ℕ) → 0 < length bytes → length bytes ≤ stop → stop ≤ length bytes → NoFeed bytes 0 stop
    → lines_of bytes ≡ bytes ∷ lines_of (take (length bytes - stop) (drop stop bytes))
open_line bytes stop some low high none =
    let whole : stop ≡ length bytes = omega arith in
    let given : GivesLast bytes 0 (length bytes) bytes = record { some = some; open_end = rw (← whole) none; next = refl; is_text = refl } in
    rw (take_rest bytes stop, drop_all stop bytes low) (last_is_last bytes 0 (length bytes) bytes given)
