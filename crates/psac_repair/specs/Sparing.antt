-- How little a repair does where each marked node stands over a block that read other words than are present.
use Rattle.std.specs.Prelude.{◌≡◌, ℕ, ◌+◌, ◌≤◌, List}
use Rattle.psac_record.specs.Kept.{Kept}
use Rattle.psac_repair.specs.Counted.{Spent}
use Rattle.psac_repair.specs.Founded.{Coherent, Founded, OnlyWoken, Idle}
use Rattle.psac_repair.specs.Going.{Views}

-- what the record read of its own is present, and each marked node of it stands over a block that read other words
-- than are present
abbrev pub IsFounded : Views → Kept → Type 0
IsFounded p k = Coherent p.values k × Founded p.values p.marks k

-- from one pass to another, where k became `new`: nothing was marked outside but what leads up from readers of changed
-- words, where nothing ran again each read was of what was present, and so many looks and asks were enough
pub record Sparing (us : List ℕ) (k new : Kept) (p q : Views) : Type 0 where
  pub only : OnlyWoken p.readers p.marks q.values q.marks us k
  pub idle : Idle p.values k new
  pub spent : Spent p.values q.values p.marks q.marks k new

-- the pass looked and asked at most so often, and nothing else
pub record Since (l a : ℕ) (p q : Views) : Type 0 where
  pub looked : ℕ
  pub asked : ℕ
  pub is : q ≡ record {
    values = record p.values { looks = looked };
    readers = p.readers;
    marks = record p.marks { asks = asked };
  }
  pub looks : looked ≤ p.values.looks + l
  pub asks : asked ≤ p.marks.asks + a
