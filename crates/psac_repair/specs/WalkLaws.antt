-- The walk of a repair, call by call: what each call needs, from what its caller needs, and what the caller leaves, from what its
-- calls leave.
use Rattle.std.specs.Prelude.{◌≡◌, ℕ, true, false, List, ◌∷◌, ◌++◌, Option, Some, None}
use Rattle.psac_ops.specs.declared.plain.Handle.{Handle}
use Rattle.psac_ops.specs.declared.plain.Plain.{Plain}
use Rattle.psac_ops.specs.Named.{value_of}
use Rattle.psac_slots.specs.Handles.{Member}
use Rattle.psac_values.specs.Steps as values
use Rattle.psac_values.specs.Knowing as knowing
use Rattle.psac_readers.specs.Steps as readers
use Rattle.psac_marks.specs.declared.view.SharedView.{SharedView}
use Rattle.psac_marks.specs.Marked.{HasOwn}
use Rattle.psac_marks.specs.Steps as marks
use Rattle.psac_marks.specs.Passes as passes
use Rattle.psac_marks.specs.Passes.{IsKept, IsDropped, Owns, Bare}
use Rattle.psac_traced.specs.Rec as rec
use Rattle.psac_traced.specs.Rec.{Rec}
use Rattle.psac_traced.specs.Holds.{EachOf, EachRead}
use Rattle.psac_record.specs.declared.parts.Reading.{Reading}
use Rattle.psac_record.specs.Kept.{Kept, A, W, S, P, R, Stands, bare, reads_of}
use Rattle.psac_repair.specs.Ended.{Ended, Good, Other, then_ended, both_ended, untried_ended}
use Rattle.psac_repair.specs.Outcomes.{is_body, is_good, block_round}
use Rattle.psac_repair.specs.Marks.{Present}
use Rattle.psac_repair.specs.Seen.{Known}
use Rattle.psac_repair.specs.Divided.{has_node, outside}
use Rattle.psac_repair.specs.Laws.{Program, NeedsOf, TellsOf, PartOf}
use Rattle.psac_repair.specs.Planted.{slots, NoneMarked}
use Rattle.psac_repair.specs.Linked.{LinksOnce}
use Rattle.psac_repair.specs.LinkLaws.{left_pass, right_pass}
use Rattle.psac_repair.specs.WatchLaws.{left_view, right_view}
use Rattle.psac_repair.specs.Going.{Views, Roomy, Before, After, WentBelow, AfterBelow, Asks, Looks, Clears}

-- a call on a record needs it, and leaves it; and so a call on a part of a body, with the rest behind it
abbrev pub Here : Program → List ℕ → Option Handle → Rec Handle → Kept → Views → Type 0
Here g = Before (NeedsOf g) g.funcs

abbrev pub Gone : Program → List ℕ → Option Handle → Kept → Kept → Views → Views → Ended → Type 0
Gone g us above k = After (TellsOf g (bare k)) us above k

abbrev pub PartGone : Program → List ℕ → Option Handle → Kept → Kept → Kept → Views → Views → Ended → Type 0
PartGone g us above rest k = After (PartOf g (bare k) (bare rest)) us above k

-- a record no node of which is marked and that read what is present is kept
abbrev pub RecordIsKept : Type 0
RecordIsKept = (g : Program) (us : List ℕ) (above : Option Handle) (k : Kept) (p : Views) → Here g us above (bare k) k p → NoneMarked p.marks (slots k) → EachRead (Present p.values) (bare k) → Gone g us above k k p p (Good (bare k))

abbrev pub SidesAreKept : Type 0
SidesAreKept =
    (g : Program) (us : List ℕ) (above : Option Handle) (n : Handle) (l k rest : Kept) (p : Views) → Here g us above (rec.S (bare (P n l k)) (bare rest)) (P n l k) p → NoneMarked p.marks (slots (P n l k)) → EachRead (Present p.values) (bare (P n l k)) → PartGone g us above rest (P n l k) (P n l k) p p (Good (bare (P n l k)))

abbrev pub BlockIsKept : Type 0
BlockIsKept =
    (g : Program) (us : List ℕ) (above : Option Handle) (c : Reading) (t rest : Kept) (p : Views) → Here g us above (rec.S (bare (R c t)) (bare rest)) (R c t) p → NoneMarked p.marks (slots (R c t)) → EachRead (Present p.values) (bare (R c t)) → PartGone g us above rest (R c t) (R c t) p p (Good (bare (R c t)))

-- memory was wanting before anything was done
abbrev pub RecordWants : Type 0
RecordWants =
    (g : Program) (us : List ℕ) (above : Option Handle) (k new : Kept) (p : Views) → Here g us above (bare k) k p
    → Gone g us above k new p p (Other None)

abbrev pub PartWants : Type 0
PartWants =
    (g : Program) (us : List ℕ) (above : Option Handle) (k rest new : Kept) (p : Views) → Here g us above (rec.S (bare k) (bare rest)) k p
    → PartGone g us above rest k new p p (Other None)

-- before a call a node was asked, or words were looked at
abbrev pub AskedBegins : Type 0
AskedBegins = (g : Program) (us : List ℕ) (above : Option Handle) (stood : Rec Handle) (k : Kept) (p q : Views) → Asks p q → Here g us above stood k p → Here g us above stood k q

abbrev pub AskedLeaves : Type 0
AskedLeaves = (g : Program) (us : List ℕ) (above : Option Handle) (k new : Kept) (p q x : Views) (e : Ended) → Asks p q → Gone g us above k new q x e → Gone g us above k new p x e

abbrev pub PartAskedLeaves : Type 0
PartAskedLeaves = (g : Program) (us : List ℕ) (above : Option Handle) (k rest new : Kept) (p q x : Views) (e : Ended) → Asks p q → PartGone g us above rest k new q x e → PartGone g us above rest k new p x e

abbrev pub LookedBegins : Type 0
LookedBegins = (g : Program) (us : List ℕ) (above : Option Handle) (stood : Rec Handle) (k : Kept) (p q : Views) → Looks p q → Here g us above stood k p → Here g us above stood k q

abbrev pub LookedLeaves : Type 0
LookedLeaves = (g : Program) (us : List ℕ) (above : Option Handle) (k new : Kept) (p q x : Views) (e : Ended) → Looks p q → Gone g us above k new q x e → Gone g us above k new p x e

abbrev pub PartLookedLeaves : Type 0
PartLookedLeaves = (g : Program) (us : List ℕ) (above : Option Handle) (k rest new : Kept) (p q x : Views) (e : Ended) → Looks p q → PartGone g us above rest k new q x e → PartGone g us above rest k new p x e

-- what was made, or written, before the rest
pub record FrontGoes (g : Program) (us : List ℕ) (above : Option Handle) (f : Kept → Kept) (h : Rec Handle → Rec Handle) (r : Kept) (p : Views) : Type 0 where
  pub rest : Here g us above (bare r) r p
  pub whole : (u : Kept) (q : Views) (e : Ended) → Gone g us above r u p q e → Gone g us above (f r) (f u) p q (then_ended h e)

abbrev pub MadeGoes : Type 0
MadeGoes = (g : Program) (us : List ℕ) (above : Option Handle) (m : Handle) (r : Kept) (p : Views) → Here g us above (bare (A m r)) (A m r) p → FrontGoes g us above (A m) (rec.A m) r p

abbrev pub WroteGoes : Type 0
WroteGoes = (g : Program) (us : List ℕ) (above : Option Handle) (m : Handle) (x : Plain) (r : Kept) (p : Views) → Here g us above (bare (W m x r)) (W m x r) p → FrontGoes g us above (W m x) (rec.W m (value_of x)) r p

-- the body of an `if` or a `call`, as a part of the body that it stands in
pub record BodyGoes (g : Program) (us : List ℕ) (above : Option Handle) (t rest : Kept) (p : Views) : Type 0 where
  pub body : Here g us above (bare t) t p
  pub whole : (u : Kept) (q : Views) (e : Ended) → Gone g us above t u p q e → PartGone g us above rest t u p q e

abbrev pub BodiesGo : Type 0
BodiesGo = (g : Program) (us : List ℕ) (above : Option Handle) (t rest : Kept) (p : Views) → is_body t ≡ true → Here g us above (rec.S (bare t) (bare rest)) t p → BodyGoes g us above t rest p

-- a part and the rest behind it: what each begins with, what is left where the part isn't done, and what both leave below their
-- node; where both are done that can be cleared, and then the whole is done
pub record StepGoes (g : Program) (us : List ℕ) (above : Option Handle) (n : Handle) (t r : Kept) (p : Views) : Type 0 where
  pub part : Here g (n.slot ∷ us ++ slots r) (Some n) (rec.S (bare t) (bare r)) t p
  pub stop : (u new : Kept) (q : Views) (e : Ended) → is_good e ≡ false → PartGone g (n.slot ∷ us ++ slots r) (Some n) r t u p q e → Gone g us above (S n t r) new p q e
  pub rest : (u : Kept) (q : Views) → PartGone g (n.slot ∷ us ++ slots r) (Some n) r t u p q (Good (bare u)) → Here g (n.slot ∷ us) (Some n) (bare r) r q
  pub both : (u w : Kept) (q x : Views) (e : Ended) → PartGone g (n.slot ∷ us ++ slots r) (Some n) r t u p q (Good (bare u)) → Gone g (n.slot ∷ us) (Some n) r w q x e → AfterBelow (TellsOf g (bare (S n t r))) us n (S n) t r u w p x (then_ended (rec.S (bare u)) e)
  pub owns : (u w : Kept) (gone made : List Stands) (q : Views) → WentBelow us n (S n) t r u w gone made p q → Owns q.marks n
  pub bared : (u w : Kept) (gone made : List Stands) (q : Views) → WentBelow us n (S n) t r u w gone made p q → Bare q.marks n.slot
  pub done : (u w : Kept) (q x : Views) (z : Rec Handle) → AfterBelow (TellsOf g (bare (S n t r))) us n (S n) t r u w p q (Good z) → Clears n q x → Gone g us above (S n t r) (S n u w) p x (Good z)
  pub undone : (u w new : Kept) (q : Views) (e : Ended) → is_good e ≡ false → AfterBelow (TellsOf g (bare (S n t r))) us n (S n) t r u w p q e → Gone g us above (S n t r) new p q e

abbrev pub StepsGo : Type 0
StepsGo = (g : Program) (us : List ℕ) (above : Option Handle) (n : Handle) (t r : Kept) (p : Views) → Here g us above (bare (S n t r)) (S n t r) p → StepGoes g us above n t r p

-- both sides of a par, the left one first. Where that isn't done, the right one isn't tried
pub record TurnsGo (g : Program) (us : List ℕ) (above : Option Handle) (n : Handle) (l k rest : Kept) (p : Views) : Type 0 where
  pub left : Here g (n.slot ∷ us ++ slots k) (Some n) (bare l) l p
  pub out : (u new : Kept) (q : Views) (e : Ended) → is_good e ≡ false → Gone g (n.slot ∷ us ++ slots k) (Some n) l u p q e
      → PartGone g us above rest (P n l k) new p q (untried_ended e)
  pub right : (u : Kept) (q : Views) → Gone g (n.slot ∷ us ++ slots k) (Some n) l u p q (Good (bare u)) → Here g (n.slot ∷ us) (Some n) (bare k) k q
  pub stop : (u w new : Kept) (q x : Views) (e : Ended) → Gone g (n.slot ∷ us ++ slots k) (Some n) l u p q (Good (bare u)) → is_good e ≡ false → Gone g (n.slot ∷ us) (Some n) k w q x e → PartGone g us above rest (P n l k) new p x (then_ended (rec.P (bare u)) e)
  pub owns : (u w : Kept) (q x : Views) → Gone g (n.slot ∷ us ++ slots k) (Some n) l u p q (Good (bare u)) → Gone g (n.slot ∷ us) (Some n) k w q x (Good (bare w)) → Owns x.marks n
  pub bared : (u w : Kept) (q x : Views) → Gone g (n.slot ∷ us ++ slots k) (Some n) l u p q (Good (bare u)) → Gone g (n.slot ∷ us) (Some n) k w q x (Good (bare w)) → Bare x.marks n.slot
  pub done : (u w : Kept) (q x y : Views) → Gone g (n.slot ∷ us ++ slots k) (Some n) l u p q (Good (bare u)) → Gone g (n.slot ∷ us) (Some n) k w q x (Good (bare w)) → Clears n x y → PartGone g us above rest (P n l k) (P n u w) p y (Good (bare (P n u w)))

abbrev pub SidesInTurn : Type 0
SidesInTurn = (g : Program) (us : List ℕ) (above : Option Handle) (n : Handle) (l k rest : Kept) (p : Views) → Here g us above (rec.S (bare (P n l k)) (bare rest)) (P n l k) p → TurnsGo g us above n l k rest p

-- the parts of a pass for both sides of a par
abbrev pub left_side : Kept → Kept → Views → Views
left_side l k p = record { values = left_view l k p.values; readers = left_pass l k p.readers; marks = marks.left_of (outside p.marks l k) (has_node k) p.marks }

abbrev pub right_side : Kept → Kept → Views → Views
right_side l k p = record { values = right_view l k p.values; readers = right_pass l k p.readers; marks = marks.right_of (outside p.marks l k) (has_node k) p.marks }

-- what a join tells of two passes
pub record Joins (a c j : Views) : Type 0 where
  pub values : j.values ≡ values.joined a.values c.values
  pub united : knowing.United a.values c.values j.values
  pub readers : j.readers ≡ readers.joined a.readers c.readers
  pub once : LinksOnce j.readers
  pub marks : j.marks ≡ marks.joined a.marks c.marks
  pub united_marks : passes.United a.marks c.marks j.marks
  pub dropped : (x : ℕ) → IsDropped j.marks x → HasOwn j.marks.own x
  pub kept : (e : SharedView) → Member e j.marks.shared → IsKept j.marks e.node.slot

-- both sides at once
pub record SidesGo (g : Program) (us : List ℕ) (above : Option Handle) (n : Handle) (l k rest : Kept) (p : Views) : Type 0 where
  pub left : p.readers.claims.branch ≡ p.values.claims.branch → Roomy (left_side l k p) → Here g (n.slot ∷ us) (Some n) (bare l) l (left_side l k p)
  pub right : p.readers.claims.branch ≡ p.values.claims.branch → Roomy (right_side l k p) → Here g (n.slot ∷ us) (Some n) (bare k) k (right_side l k p)
  pub both : p.readers.claims.branch ≡ p.values.claims.branch → (u w : Kept) (a c j : Views) (one two : Ended) → Gone g (n.slot ∷ us) (Some n) l u (left_side l k p) a one → Gone g (n.slot ∷ us) (Some n) k w (right_side l k p) c two → Joins a c j → AfterBelow (PartOf g (bare (P n l k)) (bare rest)) us n (P n) l k u w p j (both_ended one two)
  pub owns : (u w : Kept) (q : Views) (z : Rec Handle) → AfterBelow (PartOf g (bare (P n l k)) (bare rest)) us n (P n) l k u w p q (Good z) → Owns q.marks n
  pub bared : (u w : Kept) (q : Views) (z : Rec Handle) → AfterBelow (PartOf g (bare (P n l k)) (bare rest)) us n (P n) l k u w p q (Good z) → Bare q.marks n.slot
  pub done : (u w : Kept) (q x : Views) (z : Rec Handle) → AfterBelow (PartOf g (bare (P n l k)) (bare rest)) us n (P n) l k u w p q (Good z) → Clears n q x → PartGone g us above rest (P n l k) (P n u w) p x (Good z)
  pub undone : (u w new : Kept) (q : Views) (e : Ended) → is_good e ≡ false → AfterBelow (PartOf g (bare (P n l k)) (bare rest)) us n (P n) l k u w p q e → PartGone g us above rest (P n l k) new p q e

abbrev pub SidesAtOnce : Type 0
SidesAtOnce = (g : Program) (us : List ℕ) (above : Option Handle) (n : Handle) (l k rest : Kept) (p : Views) → Here g us above (rec.S (bare (P n l k)) (bare rest)) (P n l k) p → SidesGo g us above n l k rest p

-- a read block that read what is present, round its body
pub record BlockGoes (g : Program) (us : List ℕ) (above : Option Handle) (c : Reading) (t rest : Kept) (p : Views) : Type 0 where
  pub body : Here g (c.node.slot ∷ us) (Some c.node) (bare t) t p
  pub stop : (u new : Kept) (q : Views) (e : Ended) → is_good e ≡ false → Gone g (c.node.slot ∷ us) (Some c.node) t u p q e → PartGone g us above rest (R c t) new p q (then_ended (block_round c) e)
  pub owns : (u : Kept) (q : Views) → Gone g (c.node.slot ∷ us) (Some c.node) t u p q (Good (bare u)) → Owns q.marks c.node
  pub bared : (u : Kept) (q : Views) → Gone g (c.node.slot ∷ us) (Some c.node) t u p q (Good (bare u)) → Bare q.marks c.node.slot
  pub done : (u : Kept) (q x : Views) → Gone g (c.node.slot ∷ us) (Some c.node) t u p q (Good (bare u)) → Clears c.node q x → PartGone g us above rest (R c t) (R c u) p x (Good (bare (R c u)))

abbrev pub BlocksGo : Type 0
BlocksGo =
    (g : Program) (us : List ℕ) (above : Option Handle) (c : Reading) (t rest : Kept) (p : Views) → Here g us above (rec.S (bare (R c t)) (bare rest)) (R c t) p → Known p.values c.reads × (EachOf (Present p.values) (reads_of c.reads) → BlockGoes g us above c t rest p)
