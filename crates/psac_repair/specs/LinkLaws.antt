-- What adds up of links along the walk of a repair: what each part begins with, and what the parts leave.
use Rattle.std.specs.Prelude.{◌≡◌, ℕ, ◌<◌, ◌≤◌, sum_by, List, [], ◌∷◌, ◌++◌, length, Option, Some}
use Rattle.psac_ops.specs.declared.plain.Handle.{Handle}
use Rattle.psac_ops.specs.declared.plain.Plain.{Plain}
use Rattle.psac_slots.specs.Handles.{Member}
use Rattle.psac_readers.specs.declared.view.SharedView.{SharedView}
use Rattle.psac_readers.specs.declared.view.ReadersView.{ReadersView}
use Rattle.psac_readers.specs.Chained.{named, mods_of}
use Rattle.psac_readers.specs.Steps as readers
use Rattle.psac_marks.specs.declared.view.MarksView.{MarksView}
use Rattle.psac_marks.specs.Steps as marks
use Rattle.psac_raise.specs.Raise.{LeadsIn, LeadUpIn}
use Rattle.psac_record.specs.declared.parts.Reading.{Reading}
use Rattle.psac_record.specs.Kept.{Kept, A, W, S, P, R, Stands, links_of, bare}
use Rattle.psac_trace.specs.Fit.{Rooted}
use Rattle.psac_trace.specs.Grown.{MoreLinks, as_link}
use Rattle.psac_model.specs.declared.ends.CapKind.{CapKind}
use Rattle.psac_traced.specs.Rec as rec
use Rattle.psac_traced.specs.Places.{IsApart}
use Rattle.psac_trace.specs.Rights.{Tidy, Kept as Stays}
use Rattle.psac_values.specs.declared.view.ValueView.{ValueView}
use Rattle.psac_repair.specs.Ended.{Good}
use Rattle.psac_repair.specs.Stood.{Owned}
use Rattle.psac_repair.specs.Laws.{Program, NeedsOf, TellsOf, PartOf}
use Rattle.psac_repair.specs.Divided.{neither, writes_slot, has_link, has_node, outside}
use Rattle.psac_repair.specs.Planted.{slots, Planted, Passed}
use Rattle.psac_repair.specs.Linked.{LinksOnce, Linked, Relinked}
use Rattle.psac_repair.specs.Watched.{Watched}
use Rattle.psac_repair.specs.Rewired.{Writes, reads_in, Unread, Ordered, Wired, Relinks, Rewired}

-- a record that is kept
abbrev pub KeptWires : Type 0
KeptWires = (r : ReadersView) (k : Kept) → Linked r k → LinksOnce r → Rewired r r k k [] []

-- what is left of links with a new record is left without it
abbrev pub LinksStay : Type 0
LinksStay = (r q : ReadersView) (old new : Kept) (gone made : List Stands) → Rewired r q old new gone made → Relinks r q old gone made

-- what was made, or written, before the rest
pub record FrontWires (r : ReadersView) (m : MarksView) (us : List ℕ) (above : Option Handle) (f : Kept → Kept) (k : Kept) : Type 0 where
  pub rest : Wired r m us above k
  pub whole : (q : ReadersView) (u : Kept) (gone made : List Stands) → Rewired r q k u gone made → Rewired r q (f k) (f u) gone made
  pub beside : (q : ReadersView) (gone made : List Stands) → Relinks r q k gone made → Relinks r q (f k) gone made

abbrev pub MadeWires : Type 0
MadeWires = (r : ReadersView) (m : MarksView) (us : List ℕ) (above : Option Handle) (h : Handle) (k : Kept) → Wired r m us above (A h k) → FrontWires r m us above (A h) k

abbrev pub WroteWires : Type 0
WroteWires = (r : ReadersView) (m : MarksView) (us : List ℕ) (above : Option Handle) (h : Handle) (x : Plain) (k : Kept) → Wired r m us above (W h x k) → FrontWires r m us above (W h x) k

-- two parts below a node, one after the other: what the first begins with, what the second does, and what both leave
pub record PartsWire (r : ReadersView) (m : MarksView) (us : List ℕ) (n : Handle) (f : Kept → Kept → Kept) (t k : Kept) : Type 0 where
  pub part : Wired r m (n.slot ∷ us ++ slots k) (Some n) t
  pub rest : (q : ReadersView) (x : MarksView) (gone made : List Stands) → Relinks r q t gone made → Passed m x (n.slot ∷ us ++ slots k) (slots t) → Unread made k → Wired q x (n.slot ∷ us) (Some n) k
  pub both : (q y : ReadersView) (u v : Kept) (gone left made new : List Stands) → Rewired r q t u gone made → Rewired q y k v left new → Rewired r y (f t k) (f u v) (gone ++ left) (made ++ new)
  pub beside : (q y : ReadersView) (gone left made new : List Stands) → Relinks r q t gone made → Relinks q y k left new → Relinks r y (f t k) (gone ++ left) (made ++ new)

abbrev pub StepsWire : Type 0
StepsWire = (r : ReadersView) (m : MarksView) (us : List ℕ) (above : Option Handle) (n : Handle) (t k : Kept) → Planted m us above (S n t k) → Wired r m us above (S n t k) → Ordered (S n t k) → PartsWire r m us n (S n) t k

abbrev pub TurnsWire : Type 0
TurnsWire = (r : ReadersView) (m : MarksView) (us : List ℕ) (above : Option Handle) (n : Handle) (l k : Kept) → Planted m us above (P n l k) → Wired r m us above (P n l k) → Ordered (P n l k) → PartsWire r m us n (P n) l k

-- the division of a pass at a par
abbrev pub left_pass : Kept → Kept → ReadersView → ReadersView
left_pass l k = readers.left_of (neither (bare l) (bare k)) (writes_slot (bare k)) (has_link k)

abbrev pub right_pass : Kept → Kept → ReadersView → ReadersView
right_pass l k = readers.right_of (neither (bare l) (bare k)) (writes_slot (bare k)) (has_link k)

-- both sides at once
pub record SidesWire (r : ReadersView) (m : MarksView) (us : List ℕ) (n : Handle) (l k : Kept) : Type 0 where
  pub left : Wired (left_pass l k r) (marks.left_of (outside m l k) (has_node k) m) (n.slot ∷ us) (Some n) l
  pub right : Wired (right_pass l k r) (marks.right_of (outside m l k) (has_node k) m) (n.slot ∷ us) (Some n) k
  pub both : (a b j : ReadersView) (u v : Kept) (gone left made new : List Stands) → ((e : SharedView) → Member e r.shared → length e.label < length r.claims.branch) → Rewired (left_pass l k r) a l u gone made → Rewired (right_pass l k r) b k v left new → j ≡ readers.joined a b → LinksOnce j → Rewired r j (P n l k) (P n u v) (gone ++ left) (made ++ new)
  pub beside : (a b j : ReadersView) (gone left made new : List Stands) → ((e : SharedView) → Member e r.shared → length e.label < length r.claims.branch) → Relinks (left_pass l k r) a l gone made → Relinks (right_pass l k r) b k left new → j ≡ readers.joined a b → LinksOnce j → Relinks r j (P n l k) (gone ++ left) (made ++ new)

abbrev pub SidesWireUp : Type 0
SidesWireUp = (r : ReadersView) (m : MarksView) (us : List ℕ) (above : Option Handle) (n : Handle) (l k : Kept) → Rooted m → Planted m us above (P n l k) → Wired r m us above (P n l k) → Ordered (P n l k) → SidesWire r m us n l k

-- a read block: what its body begins with, and what the block leaves where its body was gone through, or run again
pub record BlockWires (r : ReadersView) (m : MarksView) (us : List ℕ) (b : Reading) (t : Kept) : Type 0 where
  pub body : Wired r m (b.node.slot ∷ us) (Some b.node) t
  pub same : (q : ReadersView) (u : Kept) (gone made : List Stands) → Rewired r q t u gone made → Rewired r q (R b t) (R b u) gone made
  pub beside : (q : ReadersView) (gone made : List Stands) → Relinks r q t gone made → Relinks r q (R b t) gone made
  pub again : (q x : ReadersView) (c : Reading) (u : Kept) → reads_in c ≡ reads_in b → Relinked r q (links_of t) [] → MoreLinks q x (links_of u) → ((l : ℕ) → 0 < sum_by (λ (s : Stands). named l (as_link s)) (links_of u) → sum_by (named l) x.links ≤ 1) → Rewired r x (R b t) (R c u) (links_of t) (links_of u)
  -- once the body's links were left, all live readers of what it wrote lead up outside
  pub may_raise : (q : ReadersView) (y : MarksView) → Ordered (R b t) → Relinked r q (links_of t) [] → ((x : ℕ) → LeadsIn m us x → LeadsIn y us x) → (s : ℕ) → Writes t s → (s < q.mods) × Member s (mods_of q.walk) × LeadUpIn q y us s

abbrev pub BlocksWire : Type 0
BlocksWire = (r : ReadersView) (m : MarksView) (us : List ℕ) (above : Option Handle) (b : Reading) (t : Kept) → Planted m us above (R b t) → Wired r m us above (R b t) → BlockWires r m us b t

-- what stands in place of a part reads nothing that is still to be written behind it
abbrev pub PartReads : Type 0
PartReads =
    (g : Program) (v u : ValueView) (t k new : Kept) (drawn : CapKind → ℕ) → IsApart (rec.S (bare t) (bare k)) → Owned v (bare k)
    → Stays v u → NeedsOf g (rec.S (bare t) (bare k)) v → PartOf g (bare t) (bare k) v u drawn (Good (bare new)) → Unread (links_of new) k

-- and so it is with what stands in place of the left side of a par, before the right one
abbrev pub SideReads : Type 0
SideReads =
    (g : Program) (v u : ValueView) (l k new : Kept) (r : rec.Rec Handle) (drawn : CapKind → ℕ)
    → IsApart (rec.S (rec.P (bare l) (bare k)) r) → Tidy v → Owned v (bare l) → Owned v (bare k) → Stays v u
    → NeedsOf g (rec.S (rec.P (bare l) (bare k)) r) v → TellsOf g (bare l) v u drawn (Good (bare new)) → Unread (links_of new) k

-- a record that a run left, and whose reads the pass knows, is ordered
abbrev pub RecordsOrdered : Type 0
RecordsOrdered = (g : Program) (v : ValueView) (m : MarksView) (k : Kept) → IsApart (bare k) → Tidy v → Owned v (bare k) → Watched v m k → NeedsOf g (bare k) v → Ordered k
