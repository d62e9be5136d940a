use Rattle.psac_marks.proofs.Terms.{◌≡◌, ℕ, ◌<◌, List, ◌++◌, slot_times, times, dropping}
use Rattle.psac_marks.proofs.marks.Marks.drop_all.Given as goal

abbrev pub invariant-loop-slot : goal.invariant-loop-slot
invariant-loop-slot l =
    (l.pass.table ≡ l.fn.pass.table)
    × ((xs : List ℕ) × (l.pass.knows ≡ dropping xs l.fn.pass.knows) × ((x : ℕ) → 0 < times x xs → 0 < slot_times x l.fn.pass.knows.claims.held)
    × ((x : ℕ) → x < l.slot → 0 < slot_times x l.fn.pass.knows.claims.held → 0 < times x (l.fn.pass.knows.dropped ++ xs)))
