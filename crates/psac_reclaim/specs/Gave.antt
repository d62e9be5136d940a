-- What becomes of a sole pass where slots are given back one after another.
use Rattle.std.specs.Prelude.{◌≡◌, ◌≢◌, ◌⊎◌, ℕ, ◌+◌, ◌<◌, ◌≤◌, List, ◌++◌, map, filter, Bool, Some, sum_by}
use Rattle.psac_ops.specs.declared.plain.Handle.{Handle}
use Rattle.psac_slots.specs.Handles.{Member, later, slot_times}
use Rattle.psac_values.specs.declared.view.OwnedView.{OwnedView}
use Rattle.psac_values.specs.declared.view.ValueView.{ValueView}
use Rattle.psac_values.specs.Steps.{made_handle}
use Rattle.psac_values.specs.Knowing.{claimed_as}
use Rattle.psac_marks.specs.declared.view.OwnView.{OwnView}
use Rattle.psac_marks.specs.declared.view.MarksView.{MarksView}
use Rattle.psac_marks.specs.Passes.{Owns, Childless, IsDropped, IsBusy}
use Rattle.psac_readers.specs.declared.view.Stage.{Stage}
use Rattle.psac_readers.specs.declared.view.Stage.TheVariants.{Claimed, UnderWay, In, Dead}
use Rattle.psac_readers.specs.declared.view.LinkView.{LinkView}
use Rattle.psac_readers.specs.declared.view.ReadersView.{ReadersView}
use Rattle.psac_readers.specs.Chained.{named, mods_of}
use Rattle.psac_record.specs.declared.parts.Seen.{Seen}
use Rattle.psac_record.specs.Kept.{Stands}
use Rattle.psac_reclaim.specs.Parts.{Outside, is_outside}

-- the made modifiables that are out
abbrev pub out_of : ValueView → List Handle
out_of v = map (made_handle v.fixed) v.claims.held

-- what the pass has of a slot of none of these
abbrev pub is_other : List Handle → OwnedView → Bool
is_other gone x = is_outside gone x.of.slot

-- these modifiables were given back
pub record ValuesGave (gone : List Handle) (v w : ValueView) : Type 0 where
  -- each is free with the next generation, behind all others, in this order, and nothing else is
  pub list : w.claims.list ≡ v.claims.list ++ map (λ m. later (claimed_as m v)) gone
  -- they are out no more, and all others are still
  pub out : (g : Handle → ℕ) → sum_by g (out_of w) + sum_by g gone ≡ sum_by g (out_of v)
  pub once : (s : ℕ) → slot_times s w.claims.held ≤ slot_times s v.claims.held
  -- what the pass has of the others, with their words, stays, and nothing else does
  pub left : w.mine ≡ filter (is_other gone) v.mine
  pub stays : (x : OwnedView) → Member x v.mine → Outside gone x.of.slot → Member x w.mine
  pub mine : (x : OwnedView) → Member x w.mine → Member x v.mine × Outside gone x.of.slot
  pub known : w.known ≡ v.known
  pub fixed : w.fixed ≡ v.fixed
  pub count : w.claims.count ≡ v.claims.count
  pub branch : w.claims.branch ≡ v.claims.branch
  pub looks : w.looks ≡ v.looks
  pub begun : w.claims.counter ≡ Some 0

-- these nodes were given back
pub record MarksGave (gone : List Handle) (v w : MarksView) : Type 0 where
  pub list : w.claims.list ≡ v.claims.list ++ map later gone
  pub out : (g : Handle → ℕ) → sum_by g w.claims.held + sum_by g gone ≡ sum_by g v.claims.held
  pub once : (s : ℕ) → slot_times s w.claims.held ≤ slot_times s v.claims.held
  -- what the pass has of the others stays
  pub stays : (o : OwnView) → Member o v.own → Outside gone o.node.slot → Member o w.own
  pub own : (o : OwnView) → Member o w.own → Member o v.own × Outside gone o.node.slot
  pub shared : w.shared ≡ v.shared
  -- a mark is gone with its node, and no other is
  pub marks : (x : ℕ) → IsBusy w x → IsBusy v x × Outside gone x
  pub dropped : (x : ℕ) → IsDropped w x → IsDropped v x × Outside gone x
  pub still : (x : ℕ) → IsDropped v x → Outside gone x → IsDropped w x
  pub count : w.claims.count ≡ v.claims.count
  pub branch : w.claims.branch ≡ v.claims.branch
  pub asks : w.asks ≡ v.asks
  pub begun : w.claims.counter ≡ Some 0

-- the node may go back
pub record MayRelease (n : Handle) (v : MarksView) : Type 0 where
  pub own : Owns v n
  pub out : Member n v.claims.held
  pub dropped : IsDropped v n.slot
  pub children : Childless v n.slot
  pub next : n.generation < 4294967295

abbrev pub live_part : Stage → ℕ → ℕ
live_part Claimed n = n
live_part (UnderWay m) n = n
live_part In n = n
live_part Dead n = 0

-- the weight of a link, unless it is dead
abbrev pub unless_dead : (LinkView → ℕ) → LinkView → ℕ
unless_dead g k = live_part k.stage (g k)

-- no dead link stands in the set
abbrev pub Clean : ℕ → ReadersView → Type 0
Clean m v = (k : LinkView) → Member k v.links → k.stage ≡ Dead → m ≢ k.of

-- the link is a dead one of the set, or the set was swept
abbrev pub Left : ℕ → ℕ → ReadersView → Type 0
Left m l v = ((k : LinkView) × Member k v.links × (k.link ≡ l) × (k.of ≡ m) × (k.stage ≡ Dead)) ⊎ Clean m v

-- the pass has the same sets
pub record SameSets (v w : ReadersView) : Type 0 where
  pub mods : w.mods ≡ v.mods
  pub shared : w.shared ≡ v.shared
  pub sets_are : mods_of w.walk ≡ mods_of v.walk
  pub count : w.claims.count ≡ v.claims.count
  pub branch : w.claims.branch ≡ v.claims.branch
  pub begun : w.claims.counter ≡ Some 0

-- the dead links of these sets were taken off
pub record Cleaned (sets : List ℕ) (v w : ReadersView) : Type 0 where
  pub live : (g : LinkView → ℕ) → sum_by (unless_dead g) w.links ≡ sum_by (unless_dead g) v.links
  pub links : (k : LinkView) → Member k w.links → Member k v.links
  pub clean : (m : ℕ) → Member m sets → Clean m w
  -- those of other sets stay
  pub stays : (k : LinkView) → Member k v.links → ((m : ℕ) → Member m sets → m ≢ k.of) → Member k w.links
  pub once : (l : ℕ) → sum_by (named l) w.links ≤ sum_by (named l) v.links
  pub same : SameSets v w

-- the set of a link can be swept, or was
pub record MayGo (s : Stands) (v : ReadersView) : Type 0 where
  pub inside : s.of.slot < v.mods
  pub low : s.link.index < v.claims.count
  pub left : Left s.of.slot s.link.index v

-- and so can the set of a read
pub record MaySweep (s : Seen) (v : ReadersView) : Type 0 where
  pub inside : s.from.slot < v.mods
  pub low : s.link.index < v.claims.count
  pub left : Left s.from.slot s.link.index v

-- the sets that reads name
abbrev pub slots_of : List Seen → List ℕ
slots_of = map (λ s. s.from.slot)

-- the sets in which links stand
abbrev pub sets_of : List Stands → List ℕ
sets_of = map (λ s. s.of.slot)
