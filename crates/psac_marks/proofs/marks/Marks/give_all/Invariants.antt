use Rattle.psac_marks.proofs.Terms.{◌≡◌, ℕ, List, Accounted, dropping, rewound}
use Rattle.psac_marks.proofs.GivingAll.{gave_below, Ready}
use Rattle.psac_marks.proofs.marks.Marks.give_all.Given as goal

abbrev pub invariant-loop-slot : goal.invariant-loop-slot
invariant-loop-slot l =
    (l.pass.table ≡ l.fn.pass.table)
    × ((xs : List ℕ) × Ready (dropping xs (rewound l.fn.pass.knows)) × (l.pass.knows ≡ gave_below l.slot (dropping xs (rewound l.fn.pass.knows))))
    × Accounted l.pass.knows.claims
