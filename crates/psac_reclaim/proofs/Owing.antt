-- What a repair took off may be given back.
use Rattle.std.proofs.Common.{◌≡◌, ◌≢◌, ◌⊎◌, ℕ, zero, suc, ◌+◌, ◌-◌, ◌<◌, ◌≤◌, ◌==◌, List, [], ◌∷◌, ◌++◌, map, drop, cond, Some, refl, sym, ap, ◌∙◌, subst, inl, inr, ⊎_elim, arith}
use Rattle.std.specs.Prelude.{sum_by}
use Rattle.std.proofs.lemmas.Bool.{eq-eqb, ne_eqb, cases_eq, cases_lt}
use Rattle.std.proofs.lemmas.List.Sums.{sum_by-cons, sum_by-append}
use Rattle.psac_ops.specs.declared.plain.Handle.{Handle}
use Rattle.psac_slots.specs.Handles.{Member, slot_times, later, IsDistinct}
use Rattle.psac_slots.specs.declared.view.ClaimView.{ClaimView}
use Rattle.psac_slots.specs.Claiming as claiming
use Rattle.psac_slots.specs.Claiming.{Accounted, times}
use Rattle.psac_slots.proofs.Pairs.{member_cases, member_map, map_member}
use Rattle.psac_slots.proofs.Removed.{at_most_once, member_times, found}
use Rattle.psac_values.specs.Steps.{made_handle}
use Rattle.psac_values.specs.Knowing.{claimed_as}
use Rattle.psac_readers.specs.declared.view.Stage.TheVariants.{In, Dead}
use Rattle.psac_readers.specs.declared.view.LinkView.{LinkView}
use Rattle.psac_readers.proofs.Links.{sum_map}
use Rattle.psac_marks.specs.declared.view.OwnView.{OwnView}
use Rattle.psac_marks.specs.Passes.{IsDropped, IsBusy}
use Rattle.psac_reclaim.specs.Parts.{Outside}
use Rattle.psac_reclaim.specs.Gave.{out_of}
use Rattle.psac_reclaim.specs.Owed.{entered}
use Rattle.psac_reclaim.specs.Repaired.{ValuesAreOwed, LinksAreOwed, NodesAreOwed, ValuesStand, NodesStand, NodesStay, Young, ValuesAge, NodesAge}
use Rattle.psac_reclaim.proofs.Lists.{member_le, sum_like, this, this_one, this_in}

-- what is weighed in a list is in another of the same sums
in_sum : (h : Handle) (xs ys : List Handle) → Member h xs → sum_by (this h) xs ≤ sum_by (this h) ys → Member h ys
in_sum h xs ys i l =
    let a = member_le (this h) h xs i in
    let o = this_one h in
    this_in h ys (omega (arith, a, o, l))

pub values_owed : ValuesAreOwed
values_owed old new gone made v u n t = record { out = out; next = next }
  where
    out : (g : Handle → ℕ) → sum_by g (out_of u) ≡ sum_by g new + sum_by g gone
    out g = let a = t.traded g in let b = t.before g in let c = t.out g in omega (arith, a, b, c)

    next : (m : Handle) → Member m gone → m.generation < 4294967295
    next m i =
        let e = out (this m) in
        let q = member_map (made_handle u.fixed) m u.claims.held (in_sum m gone (out_of u) i (omega (arith, e))) in
        let y = t.young q.0 q.1 in
        let s : q.0.generation ≡ m.generation = ap (λ (h : Handle). h.generation) q.2 in
        omega (arith, y, s)

pub links_owed : LinksAreOwed
links_owed old new gone made v u n t = record { links = links; sets = t.sets }
  where
    links : (g : LinkView → ℕ) → sum_by g u.links ≡ sum_by g (map (entered In) new) + sum_by g (map (entered Dead) gone)
    links g =
        let a = t.traded (λ s. g (entered In s)) in
        let b = t.before g in
        let c = t.links g in
        let d = sum_map (entered In) g new in
        let e = sum_map (entered Dead) g gone in
        let f = sum_map (entered In) g old in
        omega (arith, a, b, c, d, e, f)

pub nodes_owed : NodesAreOwed
nodes_owed old new gone made v u n t h closed = record {
  out = out;
  next = λ x i. t.young x (in_held gone x i (λ g. let e = out g in omega (arith, e)));
  dropped = λ x i. let a = member_times x gone i in let d = t.dropped x.slot in omega (arith, a, d);
  alone = λ x p. found x gone (let d = t.dropped x in let z = t.undropped x in omega (arith, d, z, p));
  families = families;
  marks = only_dropped;
}
  where
    out : (g : Handle → ℕ) → sum_by g u.claims.held ≡ sum_by g new + sum_by g gone
    out g = let a = t.traded g in let b = t.before g in let c = t.held g in omega (arith, a, b, c)

    in_held : (xs : List Handle) (x : Handle) → Member x xs → ((g : Handle → ℕ) → sum_by g xs ≤ sum_by g u.claims.held)
        → Member x u.claims.held
    in_held xs x i l = in_sum x xs u.claims.held i (l (this x))

    -- each own node is of the new record, or dropped
    either : (x : Handle) → Member x u.claims.held → Member x new ⊎ IsDropped u x.slot
    either x i =
        let e = out (this x) in
        let s = sum_by-append (this x) new gone in
        ⊎_elim
        (λ j. inl j)
        (λ j. inr (let a = member_times x gone j in let d = t.dropped x.slot in omega (arith, a, d)))
        (member_cases x new gone (in_sum x u.claims.held (new ++ gone) i (omega (arith, e, s))))

    families : (o : OwnView) (p : ℕ) → Member o u.own → o.parent ≡ Some p → IsDropped u p → IsDropped u o.node.slot
    families o p i e d = some (λ k. let z = t.above o p i k e in omega (arith, z, d))
      where
        some : ((times o.node.slot u.dropped ≡ 0) → ⊥) → 0 < times o.node.slot u.dropped
        some f = omega (arith, f)

    marked_dropped : (o : OwnView) → Member o u.own → 0 < times o.node.slot u.marked → IsDropped u o.node.slot
    marked_dropped o i p = ⊎_elim
        (λ j. absurd (let z = t.unmarked o.node j in omega (arith, z, p)))
        (λ d. d)
        (either o.node (h.out o i))

    only_dropped : (x : ℕ) → IsBusy u x → IsDropped u x
    only_dropped x (inl p) =
        let q = h.marked x p in
        subst (IsDropped u) q.2 (marked_dropped q.0 q.1 (subst (λ y. 0 < times y u.marked) (sym q.2) p))
    only_dropped x (inr p) =
        let q = h.busy x p in
        subst (IsDropped u) q.2 (marked_dropped q.0 q.1 (closed.busy q.0 q.1 (subst (λ y. 0 < times y u.busy) (sym q.2) p)))

-- a handle of each of two lists that a list without doubles has together
parted : (kept gone held : List Handle) → IsDistinct held → ((g : Handle → ℕ) → sum_by g held ≡ sum_by g kept + sum_by g gone)
    → (m : Handle) → Member m kept → Outside gone m.slot
parted kept gone held once e m i h j q =
    let a = member_times m kept i in
    let b : 1 ≤ slot_times m.slot gone = subst (λ s. 1 ≤ slot_times s gone) q (member_times h gone j) in
    let c = e (λ (x : Handle). cond (x.slot == m.slot) 1 0) in
    let d = once m.slot in
    absurd (omega (arith, a, b, c, d))

once_held : (c : ClaimView) → Accounted c → IsDistinct c.held
once_held c a s = let x = a.slots s in let y = at_most_once s c.count in omega (arith, x, y)

module _ (fixed s : ℕ) where
  slot_here : fixed ≤ s → (h : Handle) → ◌≡◌ {A = ℕ} (cond (fixed + h.slot == s) 1 0) (cond (h.slot == s - fixed) 1 0)
  slot_here l h = ap {B = ℕ} (λ b. cond b 1 0) (⊎_elim
      (λ (e : h.slot ≡ s - fixed). eq-eqb (fixed + h.slot) s (omega (arith, l, e)) ∙ sym (eq-eqb h.slot (s - fixed) e))
      (λ (d : h.slot ≢ s - fixed). ne_eqb (fixed + h.slot) s (λ q. d (omega (arith, l, q))) ∙ sym (ne_eqb h.slot (s - fixed) d))
      (cases_eq h.slot (s - fixed)))

  slot_low : s < fixed → (h : Handle) → ◌≡◌ {A = ℕ} (cond (fixed + h.slot == s) 1 0) 0
  slot_low l h = ap {B = ℕ} (λ b. cond b 1 0) (ne_eqb (fixed + h.slot) s (λ q. absurd (omega (arith, l, q))))

  -- no made slot stands twice
  made_once : (hs : List Handle) → IsDistinct hs → slot_times s (map (made_handle fixed) hs) ≤ 1
  made_once hs d =
      let f : Handle → ℕ = λ (x : Handle). cond (x.slot == s) 1 0 in
      let m = sum_map (made_handle fixed) f hs in
      ⊎_elim
      (λ (l : s < fixed). let k = sum_like (λ (h : Handle). f (made_handle fixed h)) (λ (h : Handle). 0) hs (λ h i. slot_low l h) in let z = sum_zeros hs in omega (arith, m, k, z))
      (λ (l : fixed ≤ s). let k = sum_like (λ (h : Handle). f (made_handle fixed h)) (λ (h : Handle). cond (h.slot == s - fixed) 1 0) hs (λ h i. slot_here l h) in let e = d (s - fixed) in omega (arith, m, k, e))
      (cases_lt s fixed)
    where
      sum_zeros : (xs : List Handle) → sum_by (λ (h : Handle). 0) xs ≡ 0
      sum_zeros [] = refl
      sum_zeros (x ∷ xs) = let c = sum_by-cons (λ (h : Handle). 0) x xs in let r = sum_zeros xs in omega (arith, c, r)

pub values_stand : ValuesStand
values_stand kept gone v o a = (away, low)
  where
    away : (m : Handle) → Member m kept → Outside gone m.slot
    away = parted kept gone (out_of v) (λ s. made_once v.fixed s v.claims.held (once_held v.claims a)) o.out

    low : (s : ℕ) → s < v.fixed → Outside gone s
    low s l h i q =
        let e = o.out (this h) in
        let z = member_map (made_handle v.fixed) h v.claims.held (in_sum h gone (out_of v) i (omega (arith, e))) in
        let p : v.fixed + z.0.slot ≡ h.slot = ap (λ (x : Handle). x.slot) z.2 in
        absurd (omega (arith, p, q, l))

pub nodes_stand : NodesStand
nodes_stand kept gone v o a = parted kept gone v.claims.held (once_held v.claims a) o.out

pub nodes_stay : NodesStay
nodes_stay kept gone v w o a l x = (λ i. ((l.own_only x i).0, l.alone x i), λ i k. l.own x i (nodes_stand kept gone v o a x.node k))

drop_in : {A : Type 0} (n : ℕ) (xs : List A) (x : A) → Member x (drop n xs) → Member x xs
drop_in zero xs x h = h
drop_in (suc n) [] x h = h
drop_in (suc n) (y ∷ xs) x h = inr (drop_in n xs x h)

pub values_age : ValuesAge
values_age kept gone v w age o l free held = (listed, out)
  where
    made_young : (m : Handle) → Member m (out_of v) → m.generation ≤ age
    made_young m i =
        let q = member_map (made_handle v.fixed) m v.claims.held i in
        let y = held q.0 q.1 in
        let e : q.0.generation ≡ m.generation = ap (λ (x : Handle). x.generation) q.2 in
        omega (arith, y, e)

    listed : Young (age + 1) w.claims.list
    listed h i = ⊎_elim
        (λ j. let y = free h (drop_in (claiming.counted v.claims.counter) v.claims.list h j) in omega (arith, y))
        (λ j.
        let q = member_map (λ (m : Handle). later (claimed_as m v)) h gone j in
        let s = o.out (this q.0) in
        let y = made_young q.0 (in_sum q.0 gone (out_of v) q.1 (omega (arith, s))) in
        let e : suc q.0.generation ≡ h.generation = ap (λ (x : Handle). x.generation) q.2 in
        omega (arith, y, e))
        (member_cases h (claiming.rewound v.claims).list (map (λ m. later (claimed_as m v)) gone) (subst (Member h) l.list i))

    out : Young age w.claims.held
    out h i =
        let m = made_handle w.fixed h in
        let a = l.out (this m) in
        let b = o.out (this m) in
        made_young m (in_sum m (out_of w) (out_of v) (map_member (made_handle w.fixed) h w.claims.held i) (omega (arith, a, b)))

pub nodes_age : NodesAge
nodes_age kept gone v w age o l free held = (listed, out)
  where
    listed : Young (age + 1) w.claims.list
    listed h i = ⊎_elim
        (λ j. let y = free h (drop_in (claiming.counted v.claims.counter) v.claims.list h j) in omega (arith, y))
        (λ j.
        let q = member_map later h gone j in
        let s = o.out (this q.0) in
        let y = held q.0 (in_sum q.0 gone v.claims.held q.1 (omega (arith, s))) in
        let e : suc q.0.generation ≡ h.generation = ap (λ (x : Handle). x.generation) q.2 in
        omega (arith, y, e))
        (member_cases h (claiming.rewound v.claims).list (map later gone) (subst (Member h) l.list i))

    out : Young age w.claims.held
    out h i = let a = l.out (this h) in let b = o.out (this h) in held h (in_sum h w.claims.held v.claims.held i (omega (arith, a, b)))
