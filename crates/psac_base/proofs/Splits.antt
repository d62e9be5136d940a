-- What a line that was given is among the lines of the whole text.
use Rattle.std.proofs.Common.{◌≡◌, ℕ, ◌≤◌, ◌<◌, ◌+◌, ◌-◌, suc, List, [], ◌∷◌, ◌++◌, ◌∙◌, length, take, drop, get_or, arith, append_assoc, length-append, length-take, length-drop, add-one, sym, ap, refl, get_or-take, get_or-drop, ◌==◌, false}
use Rattle.std.proofs.lemmas.Bool.{ne_eqb}
use Rattle.std.proofs.lemmas.List.{append-nil, drop-drop, take-append-drop, take-append-le, drop-append-le}
use Rattle.std.proofs.Math.ListN.{get_or-append}
use Rattle.std.proofs.Math.Seq.{drop-cons}
use Rattle.psac_base.specs.Feeds.{NoFeed, last_line, line_text, lines_after, lines_of}
use Rattle.psac_base.specs.Lines.{GivesLast, GivesWhole, IsEnd}

-- no byte of the list ends a line
abbrev Plain : List ℕ → Type 0
Plain xs = (k : ℕ) → k < length xs → get_or xs k 0 ≡ 10 → ⊥

after_one : (line : List ℕ) (c : ℕ) (cs : List ℕ) → (c ≡ 10 → ⊥) → lines_after line (c ∷ cs) ≡ lines_after (line ++ c ∷ []) cs
after_one line c cs plain = let e : (c == 10) ≡ false = ne_eqb c 10 plain in rw e refl

skip : (line front rest : List ℕ) → Plain front → lines_after line (front ++ 10 ∷ rest) ≡ line_text (line ++ front) ∷ lines_of rest
skip line [] rest plain = rw (append-nil line) refl
skip line (c ∷ cs) rest plain =
    after_one line c (cs ++ 10 ∷ rest) (plain 0 (omega arith))
    ∙ skip (line ++ c ∷ []) cs rest (λ k low. plain (suc k) (omega arith))
    ∙ rw (append_assoc line (c ∷ []) cs) refl

skip_all : (line front : List ℕ) → Plain front → lines_after line front ≡ last_line (line ++ front)
skip_all line [] plain = rw (append-nil line) refl
skip_all line (c ∷ cs) plain =
    after_one line c cs (plain 0 (omega arith))
    ∙ skip_all (line ++ c ∷ []) cs (λ k low. plain (suc k) (omega arith))
    ∙ rw (append_assoc line (c ∷ []) cs) refl

plain_part : (bytes : List ℕ) (from stop : ℕ) → from ≤ stop → stop ≤ length bytes → NoFeed bytes from stop → Plain (take (stop - from) (drop from bytes))
plain_part bytes from stop low high none = λ k below feed.
    let short : k < stop - from = omega (arith, length-take (stop - from) (drop from bytes)) in
    none (from + k) (omega arith) (omega arith) (sym (get_or-drop from bytes k 0) ∙ sym (get_or-take (stop - from) (drop from bytes) k 0 short) ∙ feed)

-- the text from a line's start is the line, its end, and the text behind
parts : (bytes : List ℕ) (from stop : ℕ) → IsEnd bytes from stop
    → drop from bytes ≡ take (stop - from) (drop from bytes) ++ 10 ∷ drop (stop + 1) bytes
parts bytes from stop is_end =
    let at : from + (stop - from) ≡ stop = omega (arith, is_end.low) in
    let behind : drop (stop - from) (drop from bytes) ≡ 10 ∷ drop (stop + 1) bytes =
    drop-drop (stop - from) from bytes ∙ rw at (drop-cons bytes stop 0 is_end.high ∙ rw (is_end.feed, add-one) refl) in
    sym (rw (← behind) (take-append-drop (stop - from) (drop from bytes)))

-- a line that ends within the front of a text ends there in the text
ends_in : (bytes more : List ℕ) (from stop : ℕ) → IsEnd bytes from stop → IsEnd (bytes ++ more) from stop
ends_in bytes more from stop e = record {
  low = e.low;
  high = omega (arith, length-append bytes more, e.high);
  feed = get_or-append bytes more 0 stop e.high ∙ e.feed;
  first = λ k low high feed. e.first k low high (sym (get_or-append bytes more 0 k (omega (arith, e.high))) ∙ feed);
}

pub whole_is_next : (bytes more : List ℕ) (from to : ℕ) (text : List ℕ) → GivesWhole bytes from to text
    → lines_of (drop from (bytes ++ more)) ≡ text ∷ lines_of (drop to (bytes ++ more))
whole_is_next bytes more from to text given =
    let all = bytes ++ more in
    let stop = given.stop in
    let e = ends_in bytes more from stop given.is_end in
    let front = take (stop - from) (drop from all) in
    let same : front ≡ take (stop - from) (drop from bytes) =
    ap (take (stop - from)) (drop-append-le from bytes more (omega (arith, given.is_end.low, given.is_end.high)))
    ∙ take-append-le (stop - from) (drop from bytes) more (omega (arith, length-drop from bytes, given.is_end.low, given.is_end.high)) in
    let plain = plain_part all from stop e.low (omega (arith, e.high)) e.first in
    ap lines_of (parts all from stop e) ∙ skip [] front (drop (stop + 1) all) plain
    ∙ rw (same, given.is_text, given.next) refl

nonempty : (xs : List ℕ) → 0 < length xs → last_line xs ≡ xs ∷ []
nonempty [] h = absurd (omega arith)
nonempty (x ∷ xs) h = refl

pub last_is_last : (bytes : List ℕ) (from to : ℕ) (text : List ℕ) → GivesLast bytes from to text
    → lines_of (drop from bytes) ≡ text ∷ []
last_is_last bytes from to text given =
    let plain : Plain (drop from bytes) = λ k below feed.
    given.open_end (from + k) (omega arith) (omega (arith, length-drop from bytes)) (sym (get_or-drop from bytes k 0) ∙ feed) in
    skip_all [] (drop from bytes) plain
    ∙ nonempty (drop from bytes) (omega (arith, length-drop from bytes, given.some))
    ∙ rw given.is_text refl
