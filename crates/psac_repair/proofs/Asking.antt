-- What the first mark of a record tells of all of them.
use Rattle.std.proofs.Common.{◌≡◌, ◌↔◌, ℕ, ◌<◌, Bool, false, true≢false, IsTrue, Option, refl, sym, subst, inl, inr, arith}
use Rattle.psac_ops.specs.declared.plain.Handle.{Handle}
use Rattle.psac_ops.specs.declared.plain.Plain.{Plain}
use Rattle.psac_slots.specs.Claiming.{times}
use Rattle.psac_laws.proofs.Places.{zero_or}
use Rattle.psac_marks.specs.declared.view.MarksView.{MarksView}
use Rattle.psac_marks.specs.Steps.{IsClosed}
use Rattle.psac_marks.specs.Passes.{Owns, slot_of}
use Rattle.psac_record.specs.declared.parts.Reading.{Reading}
use Rattle.psac_record.specs.Kept.{Kept, A, W, S, P, R}
use Rattle.psac_repair.specs.Marks.{Nodes}
use Rattle.psac_repair.specs.Planted.{slots, NoneMarked}
use Rattle.psac_repair.proofs.Quiet.{below_unmarked}
use Rattle.psac_repair.proofs.Planting.{none_below}

abbrev pub SomeNodes : MarksView → Kept → Type 0
SomeNodes m k = (above : Option Handle) × Nodes m above k

-- a record without its first part
pub rest_made : (m : MarksView) (k r : Kept) (h : Handle) → A h r ≡ k → SomeNodes m k → SomeNodes m r
rest_made m k r h e ns = (ns.0, subst (Nodes m ns.0) (sym e) ns.1)

pub rest_wrote : (m : MarksView) (k r : Kept) (h : Handle) (v : Plain) → W h v r ≡ k → SomeNodes m k → SomeNodes m r
rest_wrote m k r h v e ns = (ns.0, subst (Nodes m ns.0) (sym e) ns.1)

pub owns_step : (m : MarksView) (k t r : Kept) (n : Handle) → S n t r ≡ k → SomeNodes m k → Owns m n
owns_step m k t r n e ns = let q = subst (Nodes m ns.0) (sym e) ns.1 in (record { node = n; parent = slot_of ns.0 }, q.0.0, refl)

pub owns_pair : (m : MarksView) (k t r : Kept) (n : Handle) → P n t r ≡ k → SomeNodes m k → Owns m n
owns_pair m k t r n e ns = let q = subst (Nodes m ns.0) (sym e) ns.1 in (record { node = n; parent = slot_of ns.0 }, q.0.0, refl)

pub owns_block : (m : MarksView) (k t : Kept) (b : Reading) → R b t ≡ k → SomeNodes m k → Owns m b.node
owns_block m k t b e ns = let q = subst (Nodes m ns.0) (sym e) ns.1 in (record { node = b.node; parent = slot_of ns.0 }, q.0.0, refl)

not_marked : (b : Bool) (n : ℕ) → IsTrue b ↔ (0 < n) → b ≡ false → n ≡ 0
not_marked b n w e =
    elim (zero_or n) [
      | inl z ↦ z
      | inr z ↦ (let t : IsTrue b = w.1 (omega (arith, z)) in let q : IsTrue false = subst IsTrue e t in absurd (true≢false (sym q)))
    ]

-- where the first node isn't marked none is
pub quiet_step : (m : MarksView) (k t r : Kept) (n : Handle) (b : Bool) → S n t r ≡ k → IsClosed m → IsTrue b ↔ (0 < times n.slot m.marked) → (above : Option Handle) → Nodes m above k → b ≡ false → NoneMarked m (slots k)
quiet_step m k t r n b e closed w above ns f =
    let q = subst (Nodes m above) (sym e) ns in
    let z = not_marked b (times n.slot m.marked) w f in
    subst (λ y. NoneMarked m (slots y)) e (none_below m above (S n t r) (z, below_unmarked m closed above n q.0 z t q.1, below_unmarked m closed above n q.0 z r q.2))

pub quiet_pair : (m : MarksView) (k t r : Kept) (n : Handle) (b : Bool) → P n t r ≡ k → IsClosed m → IsTrue b ↔ (0 < times n.slot m.marked) → (above : Option Handle) → Nodes m above k → b ≡ false → NoneMarked m (slots k)
quiet_pair m k t r n b e closed w above ns f =
    let q = subst (Nodes m above) (sym e) ns in
    let z = not_marked b (times n.slot m.marked) w f in
    subst (λ y. NoneMarked m (slots y)) e (none_below m above (P n t r) (z, below_unmarked m closed above n q.0 z t q.1, below_unmarked m closed above n q.0 z r q.2))

pub quiet_block : (m : MarksView) (k t : Kept) (r : Reading) (b : Bool) → R r t ≡ k → IsClosed m → IsTrue b ↔ (0 < times r.node.slot m.marked) → (above : Option Handle) → Nodes m above k → b ≡ false → NoneMarked m (slots k)
quiet_block m k t r b e closed w above ns f =
    let q = subst (Nodes m above) (sym e) ns in
    let z = not_marked b (times r.node.slot m.marked) w f in
    subst (λ y. NoneMarked m (slots y)) e (none_below m above (R r t) (z, below_unmarked m closed above r.node q.0 z t q.1))
