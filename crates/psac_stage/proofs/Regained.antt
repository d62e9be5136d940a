-- The nodes of a new record stand where the subtrees that a repair took off were given back.
use Rattle.std.proofs.Common.{◌≡◌, ℕ, ◌<◌, ◌==◌, cond, List, Option, None, sym, ap, ◌∙◌, subst, ⊎_elim, arith}
use Rattle.std.specs.Prelude.{length, sum_by}
use Rattle.psac_ops.specs.declared.plain.Handle.{Handle}
use Rattle.psac_slots.specs.Handles.{Member}
use Rattle.psac_slots.specs.Claiming.{Accounted, times}
use Rattle.psac_slots.specs.declared.view.ClaimView.{ClaimView}
use Rattle.psac_marks.proofs.Counted.{times_member}
use Rattle.psac_marks.specs.declared.view.OwnView.{OwnView}
use Rattle.psac_marks.specs.declared.view.SharedView.{SharedView}
use Rattle.psac_marks.specs.declared.view.MarksView.{MarksView}
use Rattle.psac_marks.specs.Marked.{places, Has, own_place, shared_place}
use Rattle.psac_marks.specs.Passes.{IsKept, IsDropped, slot_of}
use Rattle.psac_marks.proofs.Parts.{place_own, place_shared, place_cases}
use Rattle.psac_trace.specs.Fit.{Rooted}
use Rattle.psac_repair.specs.Marks.{Sits}
use Rattle.psac_record.specs.Kept.{Kept, nodes_in}
use Rattle.psac_repair.specs.Planted.{slots, Children}
use Rattle.psac_repair.specs.Taking.{taken}
use Rattle.psac_repair.proofs.Parting.{nodes_map, families_map}
use Rattle.psac_reclaim.specs.Parts.{nodes_of, in_all, Outside}
use Rattle.psac_reclaim.specs.Owed.{MarksOwed, MarksLeft}
use Rattle.psac_stage.specs.Reclaiming.{NodesStandAgain, PlacesRecorded}
use Rattle.psac_stage.proofs.Counts.{once_low}
use Rattle.psac_stage.proofs.Reclaiming.{slots_times, nodes_same, owed_nodes}

-- from a pass with dropped nodes to one in which they went back
module _ (kept gone : List Handle) (u w : MarksView) (o : MarksOwed kept gone u) (l : MarksLeft kept gone u w) where
  none_dropped : (x : ℕ) → IsKept w x
  none_dropped x = ap (times x) l.none.2

  kept_outside : (x : ℕ) → IsKept u x → Outside gone x
  kept_outside x k h i e = let d = subst (IsDropped u) e (o.dropped h i) in absurd (omega (arith, d, k))

  outside_kept : (x : ℕ) → Outside gone x → IsKept u x
  outside_kept x n = zero_is (λ d. let q = o.alone x d in n q.0 q.1 q.2)
    where
      zero_is : (IsDropped u x → ⊥) → IsKept u x
      zero_is f = let g : 0 < times x u.dropped → ⊥ = f in omega (arith, g)

  sits_still : (above : Option Handle) (h : Handle) → Sits u above h → Sits w above h
  sits_still above h s = (l.own (record { node = h; parent = slot_of above }) s.0 (kept_outside h.slot s.1), none_dropped h.slot)

  children_still : (x : ℕ) (ys : List ℕ) → Children u x ys → Children w x ys
  children_still x ys c y i e k = let q = l.own_only y i in c y q.0 e (outside_kept y.node.slot q.1)

  shared_is : (e : SharedView) → Member e w.shared → Member e u.shared
  shared_is e i = subst (λ (z : List SharedView). Member e z) l.shared i

  place_still : (x : ℕ) → IsKept u x → Has (places u) x → Has (places w) x
  place_still x k q = ⊎_elim
      (λ (c : (y : OwnView) × Member y u.own × (own_place u.claims.branch y ≡ q.0)).
      let e : c.0.node.slot ≡ x = ap (λ p. p.node.slot) c.2 ∙ q.2 in
      (own_place w.claims.branch c.0, place_own w c.0 (l.own c.0 c.1 (subst (Outside gone) (sym e) (kept_outside x k))), e))
      (λ (c : (y : SharedView) × Member y u.shared × (shared_place y ≡ q.0)).
      let e : c.0.node.slot ≡ x = ap (λ p. p.node.slot) c.2 ∙ q.2 in
      (shared_place c.0, place_shared w c.0 (subst (λ (z : List SharedView). Member c.0 z) (sym l.shared) c.1), e))
      (place_cases u q.0 q.1)

  rooted_still : Rooted u → Rooted w
  rooted_still r = record {
    kept = λ c p i d e.
        let q = l.own_only c i in
        let a = r.kept c p q.0 (outside_kept c.node.slot q.1) e in
        (none_dropped p, place_still p a.0 a.1);
    dropped = λ x d. absurd (let z = none_dropped x in omega (arith, z, d));
    shared = λ e i. none_dropped e.node.slot;
    labels = λ e i. let a = r.labels e (shared_is e i) in let b : length w.claims.branch ≡ length u.claims.branch = ap length l.branch in omega (arith, a, b);
  }

-- regaining the tables changes no node
module _ (u z : MarksView) (own : z.own ≡ u.own) (dropped : z.dropped ≡ u.dropped) where
  sits_same : (above : Option Handle) (h : Handle) → Sits u above h → Sits z above h
  sits_same above h s = (subst (λ (xs : List OwnView). Member (record { node = h; parent = slot_of above }) xs) (sym own) s.0, ap (times h.slot) dropped ∙ s.1)

  children_same : (x : ℕ) (ys : List ℕ) → Children u x ys → Children z x ys
  children_same x ys c y i e k = c y (subst (λ (xs : List OwnView). Member y xs) own i) e (sym (ap (times y.node.slot) dropped) ∙ k)

pub nodes_again : NodesStandAgain
nodes_again k new p q z w age h r s fresh l =
    let kept = nodes_of new in
    let gone = in_all nodes_of (taken k new) in
    let v = z.marks.knows in
    let o = owed_nodes k new p q z age h r s fresh in
    let u = q.marks.knows in
    let own : v.own ≡ u.own = ap (λ (x : MarksView). x.own) s.marks in
    let dropped : v.dropped ≡ u.dropped = ap (λ (x : MarksView). x.dropped) s.marks in
    let sat = nodes_map u v None new (λ over x i a. sits_same u v own dropped over x a) r.went.replanted.nodes in
    let families = families_map u v new (λ x ys i c. children_same u v own dropped x ys c) r.went.replanted.families in
    let rooted : Rooted v = subst Rooted (sym s.marks) (record { kept = r.beside.rooted.kept; dropped = r.beside.rooted.dropped; shared = r.beside.rooted.shared; labels = r.beside.rooted.labels }) in
    record {
      out = λ f. l.out f ∙ ap (sum_by f) (sym (nodes_same new));
      nodes = nodes_map v w None new (λ over x i a. sits_still kept gone v w o l over x a) sat;
      families = families_map v w new (λ x ys i c. children_still kept gone v w o l x ys c) families;
      rooted = rooted_still kept gone v w o l rooted;
      unmarked = l.none;
    }

-- a node of the record is out, so its slot is one of the table's
fits_again : (new : Kept) (c : ClaimView) → Accounted c → ((f : Handle → ℕ) → sum_by f c.held ≡ sum_by f (nodes_in new))
    → (x : ℕ) → Member x (slots new) → x < c.count
fits_again new c a out x i =
    let e = out (λ (h : Handle). cond (h.slot == x) 1 0) in
    let t = times_member x (slots new) i in
    let s = slots_times x new in
    let z = a.slots x in
    once_low x c.count (omega (arith, e, t, s, z))

pub places_recorded : PlacesRecorded
places_recorded k new p q z w age h r s fresh small b =
    let n = nodes_again k new p q z w.marks.knows age h r s fresh b.marks in
    let low = fits_again new w.marks.knows.claims b.marks.whole n.out in
    let count = b.marks.count in (
      record {
        out = n.out;
        nodes = n.nodes;
        families = n.families;
        once = r.went.replanted.once;
        rooted = n.rooted;
        fits = λ x i. (let l = low x i in omega (arith, l, count, small));
        unmarked = λ x. ap (times x) n.unmarked.0;
        undropped = λ x. ap (times x) n.unmarked.2;
      },
      record { links = b.readers.links; holds = b.readers.holds },
    )
