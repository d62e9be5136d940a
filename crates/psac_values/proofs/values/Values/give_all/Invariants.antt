use Rattle.psac_values.proofs.Terms.{◌≡◌, Accounted, rewound}
use Rattle.psac_values.proofs.Giving.{gave_below}
use Rattle.psac_values.proofs.values.Values.give_all.Given as goal

abbrev pub invariant-loop-slot : goal.invariant-loop-slot
invariant-loop-slot l = (l.pass.table ≡ l.fn.pass.table) × (l.pass.knows ≡ gave_below l.slot (rewound l.fn.pass.knows)) × Accounted l.pass.knows.claims
