-- What becomes of a pass that regains its tables, whose counters begin anew.
use Rattle.std.specs.Prelude.{◌≡◌, ℕ}
use Rattle.psac_slots.specs.Claiming.{Accounted, DrewBelow}
use Rattle.psac_values.specs.Steps as values
use Rattle.psac_readers.specs.Steps as readers
use Rattle.psac_readers.specs.Steps.{Holds}
use Rattle.psac_marks.specs.Steps as marks
use Rattle.psac_marks.specs.Steps.{Holds as HoldsNodes, IsClosed}
use Rattle.psac_fork.specs.declared.tables.Pass.{Pass}

-- the indexes below these numbers were drawn, and no others
pub record Settles (p q : Pass) : Type 0 where
  pub mods : ℕ
  pub drew_mods : DrewBelow mods p.values.knows.claims
  pub values : q.values.knows ≡ values.rewound (values.learned mods p.values.knows)
  pub whole_mods : Accounted q.values.knows.claims
  pub links : ℕ
  pub drew_links : DrewBelow links p.readers.knows.claims
  pub readers : q.readers.knows ≡ readers.rewound (readers.regained links p.readers.knows)
  pub whole_links : Accounted q.readers.knows.claims
  pub holds : Holds q.readers.knows
  pub nodes : ℕ
  pub drew_nodes : DrewBelow nodes p.marks.knows.claims
  pub marks : q.marks.knows ≡ marks.rewound (marks.regained nodes p.marks.knows)
  pub whole_nodes : Accounted q.marks.knows.claims
  pub holds_nodes : HoldsNodes q.marks.knows
  pub closed : IsClosed q.marks.knows
