-- What adds up along the walk of a repair of what blocks read and what is there now.
use Rattle.std.specs.Prelude.{◌≡◌, ◌≢◌, ◌⊎◌, ℕ, true, List, [], ◌∷◌, ◌++◌, Option}
use Rattle.psac_ops.specs.declared.plain.Handle.{Handle}
use Rattle.psac_ops.specs.declared.plain.Plain.{Plain}
use Rattle.psac_ops.specs.Value.{Value}
use Rattle.psac_ops.specs.Words.{words_of}
use Rattle.psac_slots.specs.Handles.{Member}
use Rattle.psac_values.specs.declared.view.ValueView.{ValueView}
use Rattle.psac_values.specs.Steps as values
use Rattle.psac_values.specs.Steps.{Lacks}
use Rattle.psac_values.specs.Knowing.{Has, Knows, United}
use Rattle.psac_readers.specs.declared.view.ReadersView.{ReadersView}
use Rattle.psac_marks.specs.declared.view.MarksView.{MarksView}
use Rattle.psac_marks.specs.Steps as marks
use Rattle.psac_marks.specs.Steps.{IsClosed}
use Rattle.psac_marks.specs.Passes.{IsBusy}
use Rattle.psac_traced.specs.Holds.{EachRead}
use Rattle.psac_record.specs.declared.parts.Reading.{Reading}
use Rattle.psac_record.specs.Kept.{Kept as Tree, S, P, R, Stands, links_of, bare}
use Rattle.psac_trace.specs.Rights.{Sees, Tidy, Kept}
use Rattle.psac_trace.specs.Fit.{Rooted}
use Rattle.psac_trace.specs.Asking.{Looked}
use Rattle.psac_trace.specs.Raising.{AllBusy}
use Rattle.psac_repair.specs.Divided.{neither, writes_slot, has_node, outside}
use Rattle.psac_repair.specs.Marks.{Present, Nodes}
use Rattle.psac_repair.specs.Planted.{slots, NoneMarked, Planted, Passed}
use Rattle.psac_repair.specs.Linked.{Relinked}
use Rattle.psac_repair.specs.Rewired.{Unread, Ordered, Wired, Rewired}
use Rattle.psac_repair.specs.LinkLaws.{left_pass, right_pass}
use Rattle.psac_repair.specs.Watched.{Watched, Woken, Steady}

-- where no node of a record is marked it read what is present
abbrev pub QuietReads : Type 0
QuietReads = (v : ValueView) (m : MarksView) (above : Option Handle) (k : Tree) → IsClosed m → Nodes m above k → NoneMarked m (slots k) → Watched v m k → EachRead (Present v) (bare k)

-- nothing happened, or nothing but looks; a node was cleared, and others stand outside
abbrev pub NothingWoke : Type 0
NothingWoke = (r : ReadersView) (v : ValueView) (n : MarksView) (us : List ℕ) → Woken r v v n us

abbrev pub LooksWake : Type 0
LooksWake = (r : ReadersView) (v u z : ValueView) (n : MarksView) (us : List ℕ) → Looked v u → Woken r u z n us → Woken r v z n us

abbrev pub OutsideWoke : Type 0
OutsideWoke =
    (r : ReadersView) (v u : ValueView) (n x : MarksView) (ws us : List ℕ) → ((y : ℕ) → Member y us → Member y ws) → ((y : ℕ) → Member y us → IsBusy n y → IsBusy x y) → Woken r v u n ws → Woken r v u x us

-- two parts below a node, one after the other: the second is watched behind the first, and what both woke the whole woke
pub record PartsWatch (r : ReadersView) (v : ValueView) (m : MarksView) (us : List ℕ) (n : Handle) (t k : Tree) : Type 0 where
  pub rest : (u : ValueView) (x : MarksView) → Woken r v u x (n.slot ∷ us ++ slots k) → Passed m x (n.slot ∷ us ++ slots k) (slots t) → Watched v m k → Watched u x k
  pub both : (q : ReadersView) (u z : ValueView) (x y : MarksView) (a : Tree) (gone made : List Stands) → Rewired r q t a gone made → Kept v u → Passed x y (n.slot ∷ us) (slots k) → Woken r v u x (n.slot ∷ us ++ slots k) → Woken q u z y (n.slot ∷ us) → Woken r v z y us

abbrev pub StepsWatch : Type 0
StepsWatch = (r : ReadersView) (v : ValueView) (m : MarksView) (us : List ℕ) (above : Option Handle) (n : Handle) (t k : Tree) → Planted m us above (S n t k) → Wired r m us above (S n t k) → PartsWatch r v m us n t k

abbrev pub TurnsWatch : Type 0
TurnsWatch = (r : ReadersView) (v : ValueView) (m : MarksView) (us : List ℕ) (above : Option Handle) (n : Handle) (l k : Tree) → Planted m us above (P n l k) → Wired r m us above (P n l k) → PartsWatch r v m us n l k

-- both sides at once
abbrev pub left_view : Tree → Tree → ValueView → ValueView
left_view l k = values.left_of (neither (bare l) (bare k)) (writes_slot (bare k))

abbrev pub right_view : Tree → Tree → ValueView → ValueView
right_view l k = values.right_of (neither (bare l) (bare k)) (writes_slot (bare k))

pub record SidesWatch (r : ReadersView) (v : ValueView) (m : MarksView) (us : List ℕ) (n : Handle) (l k : Tree) : Type 0 where
  pub left : Watched v m l → Watched (left_view l k v) (marks.left_of (outside m l k) (has_node k) m) l
  pub right : Watched v m k → Watched (right_view l k v) (marks.right_of (outside m l k) (has_node k) m) k
  pub both : (a b j : ValueView) (x y z : MarksView) → Kept (left_view l k v) a → Kept (right_view l k v) b → j ≡ values.joined a b → United a b j → z ≡ marks.joined x y → Woken (left_pass l k r) (left_view l k v) a x (n.slot ∷ us) → Woken (right_pass l k r) (right_view l k v) b y (n.slot ∷ us) → Woken r v j z (n.slot ∷ us)
  pub beside : (a b j : ValueView) → Kept (left_view l k v) a → Kept (right_view l k v) b → j ≡ values.joined a b → United a b j → Steady (left_view l k v) a l → Steady (right_view l k v) b k → Steady v j (P n l k)

abbrev pub SidesWatchUp : Type 0
SidesWatchUp = (r : ReadersView) (v : ValueView) (m : MarksView) (us : List ℕ) (above : Option Handle) (n : Handle) (l k : Tree) → Rooted m → Tidy v → Planted m us above (P n l k) → Wired r m us above (P n l k) → Ordered (P n l k) → SidesWatch r v m us n l k

-- a block that is run again: its run raised the live readers of what it wrote with other words
pub record RunWarns (q : ReadersView) (v u : ValueView) (n : MarksView) (ws : List (Handle × Plain)) : Type 0 where
  pub stays : (m : Handle) (ks : List ℕ) → Knows v m ks → ((x : Plain) → Member (m, x) ws → ⊥) → Knows u m ks
  pub learned : (m : Handle) (ks : List ℕ) → Knows u m ks → Knows v m ks ⊎ (((x : Plain) × Member (m, x) ws × (ks ≡ words_of x)) ⊎ Lacks v m.slot)
  pub seen : (m : Handle) (x : Plain) → Member (m, x) ws → (y : Value Handle) × Sees u m y
  pub warned : (m : Handle) (x : Plain) (ks : List ℕ) → Member (m, x) ws → Knows v m ks → ks ≢ words_of x → Has v m × AllBusy q n m.slot

abbrev pub RunsWake : Type 0
RunsWake =
    (r q : ReadersView) (v u : ValueView) (m n : MarksView) (us : List ℕ) (above : Option Handle) (b : Reading) (t : Tree) (ws : List (Handle × Plain)) → Planted m us above (R b t) → Wired r m us above (R b t) → Relinked r q (links_of t) [] → RunWarns q v u n ws → Woken r v u n us

-- what neither part touched keeps its words
abbrev pub SteadyParts : Type 0
SteadyParts = (v u x : ValueView) (n : Handle) (t k : Tree) → Steady v u t → Steady u x k → Steady v x (S n t k)

-- a record that read nothing of what another one touched is watched behind it
abbrev pub SteadyWatch : Type 0
SteadyWatch = (v u : ValueView) (m x : MarksView) (t k : Tree) → Steady v u t → Unread (links_of k) t → ((y : ℕ) → Member y (slots k) → IsBusy m y → IsBusy x y) → Watched v m k → Watched u x k

-- a run that wrote of what was known only what the old record touched
abbrev pub SteadyRun : Type 0
SteadyRun =
    (v u : ValueView) (ws : List (Handle × Plain)) (k : Tree) → ((m : Handle) (ks : List ℕ) → Knows v m ks → ((x : Plain) → Member (m, x) ws → ⊥) → Knows u m ks) → ((m : Handle) (ks : List ℕ) → Knows u m ks → Knows v m ks ⊎ (((x : Plain) × Member (m, x) ws × (ks ≡ words_of x)) ⊎ Lacks v m.slot)) → ((m : Handle) (x : Plain) → Member (m, x) ws → (ks : List ℕ) → Knows v m ks → writes_slot (bare k) m.slot ≡ true) → Steady v u k
