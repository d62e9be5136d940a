-- How often a run looks at words of the table.
use Rattle.std.specs.Prelude.{◌≡◌, ℕ, suc, ◌+◌, ◌≤◌, length}
use Rattle.psac_values.specs.declared.view.ValueView.{ValueView}
use Rattle.psac_record.specs.Kept.{Kept, E, A, W, S, P, R, links_of}

-- how many writes a record has
abbrev pub writes_in : Kept → ℕ
writes_in E = 0
writes_in (A m rest) = writes_in rest
writes_in (W m v rest) = suc (writes_in rest)
writes_in (S node t rest) = writes_in t + writes_in rest
writes_in (P node l r) = writes_in l + writes_in r
writes_in (R reading t) = writes_in t

-- with those before, one look for each link of the record, and at most one for each write, whose old words may be compared
pub record Looks (before : ℕ) (v u : ValueView) (k : Kept) : Type 0 where
  pub compared : ℕ
  pub most : compared ≤ writes_in k
  pub count : u.looks + before ≡ v.looks + (length (links_of k) + compared)
