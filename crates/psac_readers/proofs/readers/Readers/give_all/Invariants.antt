use Rattle.psac_readers.proofs.Terms.{◌≡◌, Some, Accounted, rewound, AllGiven}
use Rattle.psac_readers.proofs.readers.Readers.give_all.Given as goal

abbrev pub invariant-loop-m : goal.invariant-loop-m
invariant-loop-m l = (l.pass.table ≡ l.fn.pass.table) × (l.pass.knows.claims.counter ≡ Some 0) × AllGiven l.m (rewound l.fn.pass.knows) l.pass.knows × Accounted l.pass.knows.claims
