-- What adds up along the walk of a repair of marks and the blocks that they stand over.
use Rattle.std.specs.Prelude.{◌≡◌, ℕ, ◌≤◌, ◌<◌, true, List, [], ◌∷◌, ◌++◌, Option, None}
use Rattle.psac_ops.specs.declared.plain.Handle.{Handle}
use Rattle.psac_ops.specs.declared.plain.Plain.{Plain}
use Rattle.psac_ops.specs.Named.{value_of, same_handle}
use Rattle.psac_slots.specs.Handles.{Member}
use Rattle.psac_slots.specs.Claiming.{times}
use Rattle.psac_values.specs.declared.view.ValueView.{ValueView}
use Rattle.psac_values.specs.Knowing.{United}
use Rattle.psac_readers.specs.declared.view.Stage.TheVariants.{In}
use Rattle.psac_readers.specs.declared.view.LinkView.{LinkView}
use Rattle.psac_readers.specs.declared.view.ReadersView.{ReadersView}
use Rattle.psac_marks.specs.declared.view.MarksView.{MarksView}
use Rattle.psac_marks.specs.Steps as marks
use Rattle.psac_raise.specs.Raise.{IsSlot, LeadsIn, LeadUpIn, with_marks}
use Rattle.psac_traced.specs.Mending.{unlike}
use Rattle.psac_traced.specs.Holds.{EachOf, EachRead}
use Rattle.psac_record.specs.declared.parts.Reading.{Reading}
use Rattle.psac_record.specs.Kept.{Kept as Tree, A, W, S, P, R, Stands, links_of, reads_of, bare}
use Rattle.psac_trace.specs.Rights.{Sees, Tidy}
use Rattle.psac_trace.specs.Fit.{Rooted}
use Rattle.psac_trace.specs.Raising.{puts}
use Rattle.psac_repair.specs.Divided.{has_node, outside}
use Rattle.psac_repair.specs.Marks.{Present, IsMarked, Nodes}
use Rattle.psac_repair.specs.Stood.{Owned}
use Rattle.psac_repair.specs.Planted.{slots, Once, NoneMarked, Planted, Passed}
use Rattle.psac_repair.specs.Linked.{standing, Relinked}
use Rattle.psac_repair.specs.Rewired.{Unread, Ordered, Wired, Relinks}
use Rattle.psac_repair.specs.LinkLaws.{left_pass, right_pass}
use Rattle.psac_repair.specs.Watched.{Watched, Steady}
use Rattle.psac_repair.specs.WatchLaws.{left_view, right_view}
use Rattle.psac_repair.specs.Counted.{done}
use Rattle.psac_repair.specs.Founded.{AllPresent, Coherent, Founded, OnlyWoken, Idle}

-- nothing was marked, or a node was cleared
abbrev pub NoneFounded : Type 0
NoneFounded = (r : ReadersView) (m : MarksView) (u : ValueView) (us : List ℕ) (k : Tree) → OnlyWoken r m u m us k

abbrev pub FewerFounded : Type 0
FewerFounded =
    (r : ReadersView) (m n x : MarksView) (u : ValueView) (us : List ℕ) (k : Tree) →
    ((y : ℕ) → Member y us → times y x.marked ≤ times y n.marked) → OnlyWoken r m u n us k → OnlyWoken r m u x us k

-- where no node is marked, a record is founded
abbrev pub UnmarkedFounded : Type 0
UnmarkedFounded = (v : ValueView) (m : MarksView) (k : Tree) → NoneMarked m (slots k) → Founded v m k

-- where words of these slots were changed that the record k didn't write, all live readers of them are blocks of k, and what was
-- marked anew stands wherever these lead up
pub record RootRaised (r : ReadersView) (u : ValueView) (m x : MarksView) (k : Tree)
    (ss news found : List ℕ) : Type 0 where
  pub nodes : Nodes m None k
  pub once : Once k
  pub unmarked : NoneMarked m (slots k)
  pub fits : (y : ℕ) → Member y (slots k) → IsSlot y
  pub readers : (s : ℕ) (l : LinkView) → Member s ss → Member l r.links → l.of ≡ s → l.stage ≡ In
      → (y : Stands) × Member y (links_of k) × (standing y ≡ l)
  pub changed : EachRead (λ h y. Member h.slot ss → Present u h y → ⊥) (bare k)
  pub becomes : x ≡ with_marks news found m
  pub within : (ns : List ℕ) → ((s : ℕ) → Member s ss → LeadUpIn r m ns s) → (y : ℕ) → Member y news → Member y ns

abbrev pub RootsFound : Type 0
RootsFound =
    (r : ReadersView) (u : ValueView) (m x : MarksView) (k : Tree) (ss news found : List ℕ)
    → RootRaised r u m x k ss news found → Founded u x k

-- where a record stands over a block that read other words than are present, something of it runs again
abbrev pub SomethingRuns : Type 0
SomethingRuns = (v : ValueView) (k new : Tree) → (AllPresent v k → ⊥) → Idle v k new → 0 < (done k new).rerun

-- what was made, or written, before the rest
pub record FrontFounds (v : ValueView) (m : MarksView) (f : Tree → Tree) (k : Tree) : Type 0 where
  pub coherent : Coherent v (f k) → Coherent v k
  pub founded : Founded v m (f k) → Founded v m k
  pub only : (r : ReadersView) (u : ValueView) (n : MarksView) (us : List ℕ) → OnlyWoken r m u n us k
      → OnlyWoken r m u n us (f k)
  pub idle : (u : Tree) → Idle v k u → Idle v (f k) (f u)

abbrev pub MadeFounds : Type 0
MadeFounds = (v : ValueView) (m : MarksView) (h : Handle) (k : Tree) → FrontFounds v m (A h) k

abbrev pub WroteFounds : Type 0
WroteFounds = (v : ValueView) (m : MarksView) (h : Handle) (x : Plain) (k : Tree) → FrontFounds v m (W h x) k

-- two parts below a marked node, one after the other: what each begins with, what both marked anew, and what both say where nothing
-- ran again
pub record PartsFound (r : ReadersView) (v : ValueView) (m : MarksView) (us : List ℕ) (n : Handle)
    (f : Tree → Tree → Tree) (t k : Tree) : Type 0 where
  pub part : Coherent v t × Founded v m t
  pub rest : (u : ValueView) (x : MarksView) → Steady v u t → Passed m x (n.slot ∷ us ++ slots k) (slots t)
      → OnlyWoken r m u x (n.slot ∷ us ++ slots k) t → Coherent u k × Founded u x k
  pub both : (q : ReadersView) (u z : ValueView) (x y : MarksView) (gone made : List Stands) → Relinks r q t gone made
      → Unread made k → Steady v u t → Steady u z k → Passed m x (n.slot ∷ us ++ slots k) (slots t)
      → OnlyWoken r m u x (n.slot ∷ us ++ slots k) t → OnlyWoken q x z y (n.slot ∷ us) k → OnlyWoken r m z y us (f t k)
  pub idle : (u : ValueView) (a b : Tree) → Steady v u t → Idle v t a → Idle u k b → Idle v (f t k) (f a b)

abbrev pub StepsFound : Type 0
StepsFound =
    (r : ReadersView) (v : ValueView) (m : MarksView) (us : List ℕ) (above : Option Handle) (n : Handle) (t k : Tree)
    → Tidy v → Owned v (bare (S n t k)) → Planted m us above (S n t k) → Wired r m us above (S n t k) → Ordered
    (S n t k) → Watched v m (S n t k) → IsMarked m n → Coherent v (S n t k) → Founded v m (S n t k)
    → PartsFound r v m us n (S n) t k

abbrev pub TurnsFound : Type 0
TurnsFound =
    (r : ReadersView) (v : ValueView) (m : MarksView) (us : List ℕ) (above : Option Handle) (n : Handle) (l k : Tree)
    → Tidy v → Owned v (bare (P n l k)) → Planted m us above (P n l k) → Wired r m us above (P n l k) → Ordered
    (P n l k) → Watched v m (P n l k) → IsMarked m n → Coherent v (P n l k) → Founded v m (P n l k)
    → PartsFound r v m us n (P n) l k

-- both sides at once
pub record SidesFound (r : ReadersView) (v : ValueView) (m : MarksView) (us : List ℕ) (n : Handle)
    (l k : Tree) : Type 0 where
  pub left : Coherent (left_view l k v) l × Founded (left_view l k v) (marks.left_of (outside m l k) (has_node k) m) l
  pub right : Coherent (right_view l k v) k × Founded (right_view l k v)
      (marks.right_of (outside m l k) (has_node k) m) k
  pub both : (a b j : ValueView) (x y z : MarksView) → United a b j → z ≡ marks.joined x y → OnlyWoken
      (left_pass l k r) (marks.left_of (outside m l k) (has_node k) m) a x (n.slot ∷ us) l → OnlyWoken
      (right_pass l k r) (marks.right_of (outside m l k) (has_node k) m) b y (n.slot ∷ us) k → OnlyWoken r m j z us
      (P n l k)
  pub idle : (u w : Tree) → Idle (left_view l k v) l u → Idle (right_view l k v) k w → Idle v (P n l k) (P n u w)

abbrev pub SidesFoundUp : Type 0
SidesFoundUp =
    (r : ReadersView) (v : ValueView) (m : MarksView) (us : List ℕ) (above : Option Handle) (n : Handle) (l k : Tree)
    → Rooted m → Planted m us above (P n l k) → Wired r m us above (P n l k) → Ordered (P n l k) → IsMarked m n
    → Coherent v (P n l k) → Founded v m (P n l k) → SidesFound r v m us n l k

-- a marked read block: what its body begins with, and what the block leaves where its body was gone through, or ran again
pub record BlockFounds (r : ReadersView) (v : ValueView) (m : MarksView) (us : List ℕ) (b : Reading)
    (t : Tree) : Type 0 where
  pub body : Coherent v t × Founded v m t
  pub same : (u : ValueView) (x : MarksView) → OnlyWoken r m u x (b.node.slot ∷ us) t → OnlyWoken r m u x us (R b t)
  pub idle : (a : Tree) → EachOf (Present v) (reads_of b.reads) → Idle v t a → Idle v (R b t) (R b a)
  pub again : (c : Reading) (a : Tree) → unlike same_handle (reads_of b.reads) (reads_of c.reads) ≡ true → Idle v
      (R b t) (R c a)

abbrev pub BlocksFound : Type 0
BlocksFound =
    (r : ReadersView) (v : ValueView) (m : MarksView) (us : List ℕ) (above : Option Handle) (b : Reading) (t : Tree)
    → Planted m us above (R b t) → IsMarked m b.node → Coherent v (R b t) → Founded v m (R b t)
    → BlockFounds r v m us b t

-- a block that is run again, on a pass that left the links of its body: what its run wrote is known, and what it marked stands wherever
-- the live readers of old destinations that got other values lead up
pub record RunOnly (q : ReadersView) (v u : ValueView) (x n : MarksView) (t : Tree)
    (ws : List (Handle × Plain)) : Type 0 where
  pub told : (h : Handle) (y : Plain) → Member (h, y) ws → Sees u h (value_of y)
  pub only : (ns : List ℕ) → ((h : Handle) (o y : Plain) → Member (h, o) (puts t) → Member (h, y) ws →
      (Sees v h (value_of y) → ⊥) → LeadUpIn q x ns h.slot) → (y : ℕ) → times y x.marked < times y n.marked
      → Member y ns

abbrev pub RunsOnly : Type 0
RunsOnly =
    (r q : ReadersView) (v u : ValueView) (m x n : MarksView) (us : List ℕ) (above : Option Handle) (b : Reading)
    (t : Tree) (ws : List (Handle × Plain)) → Owned v (bare t) → Planted m us above (R b t) → Wired r m us above
    (R b t) → Ordered (R b t) → Relinked r q (links_of t) [] →
    ((y : ℕ) → Member y us → times y x.marked ≤ times y m.marked) →
    ((ns : List ℕ) → ((y : ℕ) → Member y ns → Member y us) → (y : ℕ) → LeadsIn m ns y → LeadsIn x ns y)
    → RunOnly q v u x n t ws → OnlyWoken r m u n us (R b t)
