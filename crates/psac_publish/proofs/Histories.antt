-- Beginnings of a history are told apart by their numbers of commits.
use Rattle.std.proofs.Common.{◌≡◌, ℕ, ◌-◌, ◌<◌, ◌≤◌, ◌⊎◌, inl, inr, List, [], ◌∷◌, ◌++◌, length, get_or, Option, Some, slice_get, option_map, unwrap_or, refl, ap, sym, subst, ◌∙◌, arith, length-append}
use Rattle.std.proofs.lemmas.List.{append-nil}
use Rattle.std.proofs.lemmas.Option.{slice_get_within, slice_get-get_or}
use Rattle.std.proofs.Math.Nat.{eq-or-lt_of_le}
use mathlib.Core.List.{IsPrefix}
use Rattle.psac_publish.specs.declared.seen.Seen.{Seen}
use Rattle.psac_publish.specs.History.{IsHistory, IsLast, last_commit, nothing}
use Rattle.psac_publish.proofs.Prefixes.{shorter_begins, whole_of, stands, at_end}

abbrev commit_in : Option Seen → ℕ
commit_in o = unwrap_or (option_map (λ (s : Seen). s.commit) o) 0

pub commit_of_last : (s : Seen) (log : List Seen) → IsLast s log → last_commit log ≡ s.commit
commit_of_last s log last = ap commit_in last

-- there is a last value
pub has_last : (log : List Seen) → IsHistory log → (s : Seen) × IsLast s log
has_last log history =
    let some : 0 < length log = slice_get_within log 0 nothing history.begins in
    (get_or log (length log - 1) nothing, slice_get-get_or log (length log - 1) nothing (omega arith))

not_longer : (xs ys zs : List Seen) (s t : Seen) → IsPrefix xs zs → IsPrefix ys zs → IsHistory zs → IsLast s xs → IsLast t ys → s.commit ≤ t.commit
    → length ys < length xs → ⊥
not_longer xs ys zs s t p q history last last' up longer =
    let some : length ys - 1 < length ys = slice_get_within ys (length ys - 1) t last' in
    let at : slice_get zs (length xs - 1) ≡ Some s = stands xs zs (length xs - 1) s p last in
    let at' : slice_get zs (length ys - 1) ≡ Some t = stands ys zs (length ys - 1) t q last' in
    let less : t.commit < s.commit = history.rises (length ys - 1) (length xs - 1) t s (omega arith) at' at in
    absurd (omega arith)

-- of two beginnings the one whose last value has no more commits begins the other
pub begins_later : (xs ys zs : List Seen) (s t : Seen) → IsPrefix xs zs → IsPrefix ys zs → IsHistory zs → IsLast s xs → IsLast t ys → s.commit ≤ t.commit
    → IsPrefix xs ys
begins_later xs ys zs s t p q history last last' up =
    let longer : ¬ (length ys < length xs) = not_longer xs ys zs s t p q history last last' up in
    shorter_begins xs ys zs p q (omega arith)

-- a beginning whose last value has as many commits as the history is the history
pub is_all : (xs zs : List Seen) (s t : Seen) → IsPrefix xs zs → IsHistory zs → IsLast s xs → IsLast t zs → t.commit ≤ s.commit → xs ≡ zs
is_all xs zs s t p history last last' up =
    let longer : ¬ (length xs < length zs) = not_longer zs xs zs t s ([], append-nil zs) p history last' last up in
    whole_of xs zs p (omega arith)

there : (log : List Seen) (e : Seen) → slice_get (log ++ e ∷ []) (length log) ≡ Some e
there [] e = refl
there (x ∷ log) e = there log e

-- the last of a list with one more is that one
pub last_added : (log : List Seen) (e : Seen) → IsLast e (log ++ e ∷ [])
last_added log e =
    let at : length (log ++ e ∷ []) - 1 ≡ length log = omega (arith, length-append log (e ∷ [])) in
    ap (slice_get (log ++ e ∷ [])) at ∙ there log e

below : (log : List Seen) → IsHistory log → (k : ℕ) (s t : Seen) → slice_get log k ≡ Some s → IsLast t log → last_commit log ≡ t.commit
    → (k ≡ length log - 1) ⊎ (k < length log - 1) → s.commit ≤ last_commit log
below log history k s t at last value (inl here) =
    let same : Some s ≡ Some t = sym at ∙ (ap (slice_get log) here ∙ last) in
    let equal : s ≡ t = cc same in
    let commits : s.commit ≡ t.commit = ap (λ (u : Seen). u.commit) equal in omega arith
below log history k s t at last value (inr before) = let less : s.commit < t.commit = history.rises k (length log - 1) s t before at last in omega arith

-- no value has more commits than the last one
pub up_to_last : (log : List Seen) → IsHistory log → (k : ℕ) (s : Seen) → slice_get log k ≡ Some s → s.commit ≤ last_commit log
up_to_last log history k s at =
    let last = has_last log history in
    let within : k < length log = slice_get_within log k s at in
    let value : last_commit log ≡ last.0.commit = commit_of_last last.0 log last.1 in
    below log history k s last.0 at last.1 value (eq-or-lt_of_le (omega arith))

-- no value of a beginning has more commits than the last value of the whole
pub commits_rise : (xs zs : List Seen) → IsHistory xs → IsHistory zs → IsPrefix xs zs → last_commit xs ≤ last_commit zs
commits_rise xs zs first history p =
    let last = has_last xs first in
    let value : last_commit xs ≡ last.0.commit = commit_of_last last.0 xs last.1 in
    let up : last.0.commit ≤ last_commit zs = up_to_last zs history (length xs - 1) last.0 (stands xs zs (length xs - 1) last.0 p last.1) in
    rw value up

-- a beginning whose last value has as many commits as the history is the history, and so it has each other beginning
pub has_all : (xs ys zs : List Seen) (s : Seen) → IsPrefix xs zs → IsPrefix ys zs → IsHistory zs → IsLast s xs → last_commit zs ≡ s.commit → IsPrefix ys xs
has_all xs ys zs s p q history last same =
    let end = has_last zs history in
    let value : last_commit zs ≡ end.0.commit = commit_of_last end.0 zs end.1 in
    let up : end.0.commit ≤ s.commit = omega arith in
    subst (λ l. IsPrefix ys l) (sym (is_all xs zs s end.0 p history last end.1 up)) q

starts : (log : List Seen) (e : Seen) → slice_get log 0 ≡ Some nothing → slice_get (log ++ e ∷ []) 0 ≡ Some nothing
starts [] e at = absurd (cc at)
starts (x ∷ log) e at = at

rises_on : (log : List Seen) (e : Seen) → IsHistory log → last_commit log < e.commit → (i j : ℕ) (s t : Seen) → i < j
    → (slice_get log i ≡ Some s) ⊎ ((i ≡ length log) × (e ≡ s)) → (slice_get log j ≡ Some t) ⊎ ((j ≡ length log) × (e ≡ t)) → s.commit < t.commit
rises_on log e history later i j s t before (inl here) (inl there) = history.rises i j s t before here there
rises_on log e history later i j s t before (inl here) (inr end) =
    let low : s.commit ≤ last_commit log = up_to_last log history i s here in
    let same : e.commit ≡ t.commit = ap (λ (u : Seen). u.commit) end.1 in omega arith
rises_on log e history later i j s t before (inr end) (inl there) = let within : j < length log = slice_get_within log j t there in let at : i ≡ length log = end.0 in absurd (omega arith)
rises_on log e history later i j s t before (inr end) (inr end') = let at : i ≡ length log = end.0 in let at' : j ≡ length log = end'.0 in absurd (omega arith)

-- a history with a later value added is a history
pub adds_to : (log : List Seen) (e : Seen) → IsHistory log → last_commit log < e.commit → IsHistory (log ++ e ∷ [])
adds_to log e history later = record {
  begins = starts log e history.begins;
  rises = λ i j s t before at at'. rises_on log e history later i j s t before (at_end log e i s at) (at_end log e j t at');
}
