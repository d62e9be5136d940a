-- The exchange that adds a value keeps the rule, and so does a read.
use Rattle.std.proofs.Common.{◌≡◌, ℕ, ◌<◌, ◌==◌, Bool, true, false, List, [], ◌∷◌, ◌++◌, length, refl, ap, sym, subst, arith, inl, None}
use Rattle.std.proofs.lemmas.List.{append-nil}
use Rattle.std.proofs.lemmas.Bool.Decides.{nat_tests}
use mathlib.Core.List.{IsPrefix}
use prog.Atomic.{either}
use Rattle.logbook.specs.Pages.{Cell, cell, keeps, no_nib, step, Moves, Goes}
use Rattle.psac_publish.specs.declared.seen.Seen.{Seen}
use Rattle.psac_publish.specs.History.{IsHistory, IsLast, last_commit}
use Rattle.psac_publish.specs.Kept.{IsKept, Added, WasRead}
use Rattle.psac_publish.proofs.Histories.{adds_to, commit_of_last, has_last, is_all, last_added}

abbrev pub shown : List Seen → List Seen
shown log = []

abbrev pub moved : List Seen → List Seen → ℕ → Type 0
moved xs ys n = Unit {0}

goes : (log v : List Seen) (e s : Seen) → IsLast s v → s.commit < e.commit → IsHistory log → IsPrefix v log → (b : Bool) → (last_commit log == s.commit) ≡ b
    → Goes IsKept shown moved 0 (v, (no_nib, None)) (λ n. either (n == s.commit) e.commit n) (Added (step 0 s.commit e.commit e) (v, (no_nib, None)))
    ((last_commit log, true) ∷ (0, true) ∷ []) log
goes log v e s last later history pre true is =
    let here : last_commit log ≡ s.commit = grind (arith, nat_tests) in
    let end = has_last log history in
    let end_is : last_commit log ≡ end.0.commit = commit_of_last end.0 log end.1 in
    let same : v ≡ log = is_all v log s end.0 pre history last end.1 (omega arith) in
    let word : either (last_commit log == s.commit) e.commit (last_commit log) ≡ last_commit (log ++ e ∷ []) =
    rw is (sym (commit_of_last e (log ++ e ∷ []) (last_added log e))) in (
      keeps,
      e ∷ [],
      None,
      tt,
      record { words = ap (λ (n : ℕ). (n, true) ∷ (0, true) ∷ []) word; history = adds_to log e history (omega arith) },
      inl (refl, refl),
      rw is (ap (λ w. w ++ e ∷ []) (sym same)),
    )
goes log v e s last later history pre false is =
    let all : log ++ [] ≡ log = append-nil log in
    let word : either (last_commit log == s.commit) e.commit (last_commit log) ≡ last_commit (log ++ []) = rw is (sym (ap last_commit all)) in (
      keeps,
      [],
      None,
      tt,
      record { words = ap (λ (n : ℕ). (n, true) ∷ (0, true) ∷ []) word; history = subst IsHistory (sym all) history },
      inl (refl, refl),
      rw is tt,
    )

-- whatever the history is, the exchange adds the value to all that was seen, or finds that the history went on
pub adds : (v : List Seen) (e s : Seen) → IsLast s v → s.commit < e.commit
    → Moves IsKept shown moved 0 (v, (no_nib, None)) (λ n. either (n == s.commit) e.commit n) (Added (step 0 s.commit e.commit e) (v, (no_nib, None)))
adds v e s last later cs log kept pre away =
    let P : List Cell → Type 0 = λ c. (0 < length c) × ((cell c 0).1 ≡ true)
    × Goes IsKept shown moved 0 (v, (no_nib, None)) (λ n. either (n == s.commit) e.commit n) (Added (step 0 s.commit e.commit e) (v, (no_nib, None))) c log in
    subst P (sym kept.words) (omega arith, refl, goes log v e s last later kept.history pre (last_commit log == s.commit) refl)

stays : (log v : List Seen) (ask : Seen) → IsHistory log
    → Goes IsKept shown moved 0 (v, (no_nib, None)) (λ n. n) (WasRead (step 0 0 0 ask) (v, (no_nib, None)))
    ((last_commit log, true) ∷ (0, true) ∷ []) log
stays log v ask history =
    let all : log ++ [] ≡ log = append-nil log in
    let word : last_commit log ≡ last_commit (log ++ []) = sym (ap last_commit all) in
    let whole : IsHistory (log ++ []) = subst IsHistory (sym all) history in (
      keeps,
      [],
      None,
      tt,
      record { words = ap (λ (n : ℕ). (n, true) ∷ (0, true) ∷ []) word; history = whole },
      inl (refl, refl),
      (word, whole),
    )

-- whatever the history is, a read finds the number of commits of its last value
pub reads : (v : List Seen) (ask : Seen)
    → Moves IsKept shown moved 0 (v, (no_nib, None)) (λ n. n) (WasRead (step 0 0 0 ask) (v, (no_nib, None)))
reads v ask cs log kept pre away =
    let P : List Cell → Type 0 = λ c. (0 < length c) × ((cell c 0).1 ≡ true)
    × Goes IsKept shown moved 0 (v, (no_nib, None)) (λ n. n) (WasRead (step 0 0 0 ask) (v, (no_nib, None))) c log in
    subst P (sym kept.words) (omega arith, refl, stays log v ask kept.history)
