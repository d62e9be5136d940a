-- What holds of a pass between two calls, on both sides of a par and after the join.
use Rattle.std.specs.Prelude.{◌≡◌, ℕ, true, false, List, ◌∷◌, ◌++◌, Option}
use Rattle.psac_ops.specs.declared.plain.Handle.{Handle}
use Rattle.psac_slots.specs.Handles.{Member}
use Rattle.psac_values.specs.declared.view.ValueView.{ValueView}
use Rattle.psac_values.specs.Steps as values
use Rattle.psac_readers.specs.declared.view.ReadersView.{ReadersView}
use Rattle.psac_readers.specs.Steps as readers
use Rattle.psac_marks.specs.declared.view.SharedView.{SharedView}
use Rattle.psac_marks.specs.declared.view.MarksView.{MarksView}
use Rattle.psac_marks.specs.Marked.{HasOwn}
use Rattle.psac_marks.specs.Steps as marks
use Rattle.psac_marks.specs.Passes as passes
use Rattle.psac_marks.specs.Passes.{IsKept, IsDropped}
use Rattle.psac_record.specs.Kept.{Kept as Tree, P, Stands, bare}
use Rattle.psac_trace.specs.Rights.{Kept}
use Rattle.psac_trace.specs.Fit.{SetsReady, Rooted, is_spare}
use Rattle.psac_repair.specs.Divided.{writes_slot, has_node, outside}
use Rattle.psac_repair.specs.Planted.{slots, Planted, Passed}
use Rattle.psac_repair.specs.Linked.{Relinked}
use Rattle.psac_repair.specs.LinkLaws.{left_pass, right_pass}
use Rattle.psac_repair.specs.WatchLaws.{left_view, right_view}

-- none of what the record made or wrote is a slot that a claim may give
abbrev pub Unspared : ValueView → Tree → Type 0
Unspared v k = (s : ℕ) → writes_slot (bare k) s ≡ true → is_spare v.fixed v.claims.list s ≡ false

-- sets
pub record SidesReady (v : ValueView) (r : ReadersView) (l k : Tree) : Type 0 where
  pub left : SetsReady (left_view l k v) (left_pass l k r)
  pub right : SetsReady (right_view l k v) (right_pass l k r)
  pub both : (a b j : ValueView) (x y z : ReadersView) (g m e n : List Stands) → Kept (left_view l k v) a → Relinked (left_pass l k r) x g m → Relinked (right_pass l k r) y e n → j ≡ values.joined a b → z ≡ readers.joined x y → SetsReady a x → SetsReady b y → SetsReady j z

abbrev pub SetsFit : Type 0
SetsFit = (v : ValueView) (r : ReadersView) (l k : Tree) → r.claims.branch ≡ v.claims.branch → Unspared v l → Unspared v k → SetsReady v r → SidesReady v r l k

-- nodes, also where a side stopped at a fault
pub record SidesRooted (m : MarksView) (us : List ℕ) (n : Handle) (l k : Tree) : Type 0 where
  pub left : Rooted (marks.left_of (outside m l k) (has_node k) m)
  pub right : Rooted (marks.right_of (outside m l k) (has_node k) m)
  pub passed : (a b j : MarksView) → Passed (marks.left_of (outside m l k) (has_node k) m) a (n.slot ∷ us) (slots l) → Passed (marks.right_of (outside m l k) (has_node k) m) b (n.slot ∷ us) (slots k) → j ≡ marks.joined a b → passes.United a b j → Passed m j (n.slot ∷ us) (slots l ++ slots k)
  pub both : (a b j : MarksView) → Passed (marks.left_of (outside m l k) (has_node k) m) a (n.slot ∷ us) (slots l) → Passed (marks.right_of (outside m l k) (has_node k) m) b (n.slot ∷ us) (slots k) → Rooted a → Rooted b → j ≡ marks.joined a b → passes.United a b j → ((x : ℕ) → IsDropped j x → HasOwn j.own x) → ((e : SharedView) → Member e j.shared → IsKept j e.node.slot) → Rooted j

abbrev pub NodesFit : Type 0
NodesFit = (m : MarksView) (us : List ℕ) (above : Option Handle) (n : Handle) (l k : Tree) → Rooted m → Planted m us above (P n l k) → SidesRooted m us n l k
