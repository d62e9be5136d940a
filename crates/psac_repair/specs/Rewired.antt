-- The links of a record that is gone through: what each part begins with, and what it leaves.
use Rattle.std.specs.Prelude.{◌≡◌, ◌⊎◌, ℕ, ◌+◌, ◌<◌, true, false, List, map, Option, Some, sum_by, IfSome}
use Rattle.psac_ops.specs.declared.plain.Handle.{Handle}
use Rattle.psac_ops.specs.declared.plain.Plain.{Plain}
use Rattle.psac_slots.specs.Handles.{Member, word_of}
use Rattle.psac_readers.specs.declared.view.Stage.TheVariants.{In}
use Rattle.psac_readers.specs.declared.view.LinkView.{LinkView}
use Rattle.psac_readers.specs.declared.view.ReadersView.{ReadersView}
use Rattle.psac_readers.specs.Chained.{named, mods_of}
use Rattle.psac_marks.specs.declared.view.MarksView.{MarksView}
use Rattle.psac_raise.specs.Raise.{IsSlot, LeadsIn}
use Rattle.psac_record.specs.declared.parts.Reading.{Reading}
use Rattle.psac_record.specs.Kept.{Kept, E, A, W, S, P, R, Stands, stands, links_of, bare}
use Rattle.psac_trace.specs.Raising.{puts}
use Rattle.psac_repair.specs.Divided.{writes_slot}
use Rattle.psac_repair.specs.Taken.{indexes}
use Rattle.psac_repair.specs.Planted.{slots}
use Rattle.psac_repair.specs.Linked.{standing, LinksOnce, Linked, Relinked}

-- the record wrote a modifiable in the slot
abbrev pub Writes : Kept → ℕ → Type 0
Writes k s = (p : Handle × Plain) × Member p (puts k) × (p.0.slot ≡ s)

-- the links of a block's reads
abbrev pub reads_in : Reading → List Stands
reads_in b = map (stands b.node) b.reads

-- none of these reads is of what the record made or wrote
abbrev pub Unread : List Stands → Kept → Type 0
Unread ss k = (s : Stands) → Member s ss → writes_slot (bare k) s.of.slot ≡ false

-- nothing is read before it is written, or beside what writes it; and no two parts of a record made or wrote the same
abbrev pub Ordered : Kept → Type 0
Ordered E = Unit {0}
Ordered (A m r) = Ordered r
Ordered (W m v r) = Ordered r
Ordered (S n t r) = Unread (links_of t) r × Ordered t × Ordered r × ((s : ℕ) → writes_slot (bare t) s ≡ true → writes_slot (bare r) s ≡ false)
Ordered (P n l r) = Unread (links_of l) r × Unread (links_of r) l × ((s : ℕ) → writes_slot (bare l) s ≡ true → writes_slot (bare r) s ≡ false) × Ordered l × Ordered r
Ordered (R b t) = Unread (reads_in b) t × Ordered t

-- the word is that of a node in one of these slots
abbrev pub NodeIn : List ℕ → Option ℕ → Type 0
NodeIn xs o = (n : Handle) × IsSlot n.slot × (o ≡ Some (word_of n)) × Member n.slot xs

-- what a record begins with: its links, and what is needed so that the readers of what it wrote can be raised. Those that are
-- live are its own, or stand outside
pub record Wired (r : ReadersView) (m : MarksView) (us : List ℕ) (above : Option Handle) (k : Kept) : Type 0 where
  pub linked : Linked r k
  pub once : LinksOnce r
  pub walk : (s : ℕ) → Writes k s → (s < r.mods) × Member s (mods_of r.walk)
  pub readers : (s : ℕ) (l : LinkView) → Writes k s → Member l r.links → l.of ≡ s → l.stage ≡ In → ((t : Stands) × Member t (links_of k) × (standing t ≡ l)) ⊎ NodeIn us l.node
  -- the nodes outside lead up by nodes outside
  pub led : (x : ℕ) → Member x us → LeadsIn m us x
  pub above_led : IfSome above (λ h. LeadsIn m us h.slot)
  pub fits : (x : ℕ) → Member x (slots k) → IsSlot x

-- what it leaves of links, also where there is no new record: some of its links were left, and others entered
pub record Relinks (r q : ReadersView) (old : Kept) (gone made : List Stands) : Type 0 where
  pub relinked : Relinked r q gone made
  pub once : LinksOnce q
  pub gone_is : (l : ℕ) → Member l (indexes gone) → Member l (indexes (links_of old))
  -- what entered the pass didn't have
  pub entered : (l : ℕ) → Member l (indexes made) → sum_by (named l) r.links ≡ 0

-- and with a new one
pub record Rewired (r q : ReadersView) (old new : Kept) (gone made : List Stands) : Type 0 where
  pub relinked : Relinked r q gone made
  pub linked : Linked q new
  pub once : LinksOnce q
  pub gone_is : (l : ℕ) → Member l (indexes gone) → Member l (indexes (links_of old))
  -- what entered the pass didn't have
  pub entered : (l : ℕ) → Member l (indexes made) → sum_by (named l) r.links ≡ 0
  pub covers : (l : ℕ) → Member l (indexes (links_of new)) → Member l (indexes (links_of old)) ⊎ Member l (indexes made)
  pub sums : (g : Stands → ℕ) → sum_by g (links_of new) + sum_by g gone ≡ sum_by g (links_of old) + sum_by g made
