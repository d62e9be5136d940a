-- What holds of a sole pass on the way, where some slots and links still have to go.
use Rattle.std.specs.Prelude.{◌≡◌, ℕ, ◌<◌, ◌≤◌, List, map, Some, sum_by}
use Rattle.psac_ops.specs.declared.plain.Handle.{Handle}
use Rattle.psac_slots.specs.Handles.{Member, IsDistinct}
use Rattle.psac_values.specs.declared.view.ValueView.{ValueView}
use Rattle.psac_marks.specs.declared.view.MarksView.{MarksView}
use Rattle.psac_marks.specs.Passes.{Owns}
use Rattle.psac_readers.specs.declared.view.Stage.TheVariants.{In, Dead}
use Rattle.psac_readers.specs.declared.view.LinkView.{LinkView}
use Rattle.psac_readers.specs.declared.view.ReadersView.{ReadersView}
use Rattle.psac_readers.specs.Chained.{mods_of, named}
use Rattle.psac_record.specs.Kept.{Stands}
use Rattle.psac_reclaim.specs.Gave.{Left, unless_dead}
use Rattle.psac_reclaim.specs.Owed.{entered, ValuesOwed, MarksOwed}

pub record ValuesGoing (kept gone : List Handle) (v : ValueView) : Type 0 where
  pub owed : ValuesOwed kept gone v
  pub once : IsDistinct v.claims.held
  pub begun : v.claims.counter ≡ Some 0

-- a link that goes may be gone already, with its set
pub record ReadersGoing (kept gone : List Stands) (v : ReadersView) : Type 0 where
  pub live : (g : LinkView → ℕ) → sum_by (unless_dead g) v.links ≡ sum_by g (map (entered In) kept)
  -- a dead link stands in a set that one of those that go names
  pub dead : (k : LinkView) → Member k v.links → k.stage ≡ Dead → (s : Stands) × Member s gone × (s.of.slot ≡ k.of)
  pub inside : (s : Stands) → Member s gone → s.of.slot < v.mods
  pub low : (s : Stands) → Member s gone → s.link.index < v.claims.count
  pub left : (s : Stands) → Member s gone → Left s.of.slot s.link.index v
  pub sets : (m : ℕ) → m < v.mods → Member m (mods_of v.walk)
  pub once : (l : ℕ) → sum_by (named l) v.links ≤ 1
  pub begun : v.claims.counter ≡ Some 0

pub record MarksGoing (kept gone : List Handle) (v : MarksView) : Type 0 where
  pub owed : MarksOwed kept gone v
  pub once : IsDistinct v.claims.held
  pub owned : (h : Handle) → Member h v.claims.held → Owns v h
  pub begun : v.claims.counter ≡ Some 0
