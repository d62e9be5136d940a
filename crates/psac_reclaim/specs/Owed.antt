-- What has to hold of a sole pass where a record keeps some slots and links and others go back, and what is left.
use Rattle.std.specs.Prelude.{◌≡◌, ◌⊎◌, ℕ, ◌+◌, ◌<◌, ◌≤◌, List, [], ◌++◌, map, filter, length, Some, sum_by}
use Rattle.psac_ops.specs.declared.plain.Handle.{Handle}
use Rattle.psac_slots.specs.Handles.{Member, word_of, later}
use Rattle.psac_slots.specs.Claiming as claiming
use Rattle.psac_slots.specs.Given.{by_slot}
use Rattle.psac_values.specs.Steps.{is_fixed}
use Rattle.psac_values.specs.declared.view.ValueView.{ValueView}
use Rattle.psac_values.specs.Knowing.{Has, Knows, claimed_as}
use Rattle.psac_marks.specs.declared.view.OwnView.{OwnView}
use Rattle.psac_marks.specs.declared.view.MarksView.{MarksView}
use Rattle.psac_marks.specs.Passes.{Owns, IsDropped, IsBusy}
use Rattle.psac_readers.specs.declared.view.Stage.{Stage}
use Rattle.psac_readers.specs.declared.view.Stage.TheVariants.{In, Dead}
use Rattle.psac_readers.specs.declared.view.LinkView.{LinkView}
use Rattle.psac_readers.specs.declared.view.ReadersView.{ReadersView}
use Rattle.psac_readers.specs.Chained.{named, mods_of}
use Rattle.psac_readers.specs.Steps.{Holds}
use Rattle.psac_fork.specs.declared.tables.Pass.{Pass}
use Rattle.psac_record.specs.Kept.{Stands}
use Rattle.psac_reclaim.specs.Parts.{Outside}
use Rattle.psac_reclaim.specs.Gave.{out_of, is_other}

-- the pass knows the counter of each table, so no other pass is left
abbrev pub AreSole : Pass → Type 0
AreSole p = claiming.IsSole p.values.knows.claims × claiming.IsSole p.readers.knows.claims × claiming.IsSole p.marks.knows.claims

-- a link as the pass that entered with it has it
abbrev pub entered : Stage → Stands → LinkView
entered stage s = record { link = s.link.index; of = s.of.slot; node = Some (word_of s.node); stage = stage }

-- the handle is of a fixed slot, or of one of these modifiables
abbrev pub IsNamed : ℕ → List Handle → Handle → Type 0
IsNamed fixed made m = (m.slot < fixed) ⊎ Member m made

-- each link stands in the set of a fixed slot or of a modifiable that is out
abbrev pub Stand : ValueView → ReadersView → Type 0
Stand v r = (k : LinkView) → Member k r.links → (k.of < v.fixed) ⊎ ((m : Handle) × Member m (out_of v) × (m.slot ≡ k.of))

-- the made modifiables that are out are those that are kept and those that go
pub record ValuesOwed (kept gone : List Handle) (v : ValueView) : Type 0 where
  pub out : (g : Handle → ℕ) → sum_by g (out_of v) ≡ sum_by g kept + sum_by g gone
  pub next : (m : Handle) → Member m gone → m.generation < 4294967295

-- the links that are out are those that are kept, which are live, and those that go, which were left, each in the set of
-- what its read names
pub record ReadersOwed (kept gone : List Stands) (v : ReadersView) : Type 0 where
  pub links : (g : LinkView → ℕ) → sum_by g v.links ≡ sum_by g (map (entered In) kept) + sum_by g (map (entered Dead) gone)
  -- the pass alone has each set of the table
  pub sets : (m : ℕ) → m < v.mods → Member m (mods_of v.walk)

-- the nodes that are out are those that are kept and those that go; the latter are the dropped ones
pub record MarksOwed (kept gone : List Handle) (v : MarksView) : Type 0 where
  pub out : (g : Handle → ℕ) → sum_by g v.claims.held ≡ sum_by g kept + sum_by g gone
  pub next : (n : Handle) → Member n gone → n.generation < 4294967295
  pub dropped : (n : Handle) → Member n gone → IsDropped v n.slot
  pub alone : (x : ℕ) → IsDropped v x → (n : Handle) × Member n gone × (n.slot ≡ x)
  -- a child of a dropped node is dropped
  pub families : (o : OwnView) (p : ℕ) → Member o v.own → o.parent ≡ Some p → IsDropped v p → IsDropped v o.node.slot
  -- only dropped nodes may be marked
  pub marks : (x : ℕ) → IsBusy v x → IsDropped v x

-- of the made modifiables those are out that are kept, and each other slot is free; those that went have the next
-- generation, and no others
pub record ValuesLeft (kept gone : List Handle) (v w : ValueView) : Type 0 where
  pub out : (g : Handle → ℕ) → sum_by g (out_of w) ≡ sum_by g kept
  pub whole : claiming.Accounted w.claims
  pub list : w.claims.list ≡ (claiming.rewound v.claims).list ++ map (λ m. later (claimed_as m v)) gone
  pub few : length w.claims.held ≡ length kept
  pub count : w.claims.count ≡ v.claims.count
  -- what the pass had and knew of others it has and knows, with their words, and it has nothing else
  pub mine : w.mine ≡ filter (is_other gone) v.mine
  pub has : (m : Handle) → Has v m → Outside gone m.slot → Has w m
  pub knows : (m : Handle) (ws : List ℕ) → Knows v m ws → Outside gone m.slot → Knows w m ws
  pub known : w.known ≡ v.known
  pub looks : w.looks ≡ v.looks
  pub begun : (w.claims.counter ≡ Some 0) × (w.claims.drawn ≡ []) × (w.claims.over ≡ 0)
  pub fixed : w.fixed ≡ v.fixed
  pub branch : w.claims.branch ≡ v.claims.branch

-- each set has the links that are kept, all live, and no others
pub record ReadersLeft (kept : List Stands) (v w : ReadersView) : Type 0 where
  pub links : (g : LinkView → ℕ) → sum_by g w.links ≡ sum_by g (map (entered In) kept)
  pub once : (l : ℕ) → sum_by (named l) w.links ≤ 1
  pub whole : claiming.Accounted w.claims
  -- each is out, and nothing else is
  pub holds : Holds w
  pub few : length w.claims.held ≡ length kept
  pub count : w.claims.count ≡ v.claims.count
  pub sets : mods_of w.walk ≡ mods_of v.walk
  pub mods : w.mods ≡ v.mods
  pub shared : w.shared ≡ v.shared
  pub begun : (w.claims.counter ≡ Some 0) × (w.claims.drawn ≡ []) × (w.claims.over ≡ 0)
  pub branch : w.claims.branch ≡ v.claims.branch

-- those nodes are out that are kept, none is marked or dropped, and each other slot is free
pub record MarksLeft (kept gone : List Handle) (v w : MarksView) : Type 0 where
  pub out : (g : Handle → ℕ) → sum_by g w.claims.held ≡ sum_by g kept
  pub whole : claiming.Accounted w.claims
  pub list : w.claims.list ≡ (claiming.rewound v.claims).list ++ map later gone
  pub few : length w.claims.held ≡ length kept
  pub count : w.claims.count ≡ v.claims.count
  pub unmarked : (x : ℕ) → IsBusy w x → ⊥
  pub undropped : (x : ℕ) → IsDropped w x → ⊥
  pub none : (w.marked ≡ []) × (w.busy ≡ []) × (w.dropped ≡ [])
  pub own : (o : OwnView) → Member o v.own → Outside gone o.node.slot → Member o w.own
  pub own_only : (o : OwnView) → Member o w.own → Member o v.own × Outside gone o.node.slot
  -- the pass has what is kept, and nothing else
  pub owned : (n : Handle) → Member n kept → Owns w n
  pub alone : (o : OwnView) → Member o w.own → Member o.node kept
  pub shared : w.shared ≡ v.shared
  pub begun : (w.claims.counter ≡ Some 0) × (w.claims.drawn ≡ []) × (w.claims.over ≡ 0)
  pub asks : w.asks ≡ v.asks
  pub branch : w.claims.branch ≡ v.claims.branch

-- no made modifiable is out. Of those that were each is free with the next generation, lower slots first, and fixed ones
-- stay as they were
pub record ValuesNone (v w : ValueView) : Type 0 where
  pub out : w.claims.held ≡ []
  pub whole : claiming.Accounted w.claims
  pub list : w.claims.list ≡ (claiming.rewound v.claims).list ++ map later (by_slot v.claims.count v.claims.held)
  pub mine : w.mine ≡ filter (is_fixed v.fixed) v.mine
  pub known : w.known ≡ v.known
  pub count : w.claims.count ≡ v.claims.count
  pub begun : (w.claims.counter ≡ Some 0) × (w.claims.drawn ≡ []) × (w.claims.over ≡ 0)
  pub fixed : w.fixed ≡ v.fixed
  pub branch : w.claims.branch ≡ v.claims.branch

-- each set is empty, and each link is free
pub record ReadersNone (v w : ReadersView) : Type 0 where
  pub links : w.links ≡ []
  pub out : w.claims.held ≡ []
  pub whole : claiming.Accounted w.claims
  pub sets : mods_of w.walk ≡ mods_of v.walk
  pub mods : w.mods ≡ v.mods
  pub shared : w.shared ≡ v.shared
  pub count : w.claims.count ≡ v.claims.count
  pub begun : (w.claims.counter ≡ Some 0) × (w.claims.drawn ≡ []) × (w.claims.over ≡ 0)
  pub branch : w.claims.branch ≡ v.claims.branch

-- no node is out or marked
pub record MarksNone (v w : MarksView) : Type 0 where
  pub out : w.claims.held ≡ []
  pub own : w.own ≡ []
  pub marked : (w.marked ≡ []) × (w.busy ≡ []) × (w.dropped ≡ [])
  pub whole : claiming.Accounted w.claims
  pub list : w.claims.list ≡ (claiming.rewound v.claims).list ++ map later (by_slot v.claims.count v.claims.held)
  pub shared : w.shared ≡ v.shared
  pub count : w.claims.count ≡ v.claims.count
  pub begun : (w.claims.counter ≡ Some 0) × (w.claims.drawn ≡ []) × (w.claims.over ≡ 0)
  pub asks : w.asks ≡ v.asks
  pub branch : w.claims.branch ≡ v.claims.branch
