-- One modifiable or one node goes back, and then others.
use Rattle.std.proofs.Common.{◌≡◌, ◌≢◌, ℕ, zero, suc, ◌+◌, ◌-◌, ◌<◌, List, [], ◌∷◌, ◌++◌, map, drop, Some, Bool, true, false, cond, refl, sym, ap, ◌∙◌, inl, inr, ⊎_elim, arith, append_assoc, append-nil}
use Rattle.std.specs.Prelude.{sum_by, filter, not, ◌==◌, ◌&&◌}
use Rattle.std.proofs.lemmas.List.Sums.{sum_by-cons, sum_by-append}
use Rattle.std.proofs.lemmas.Bool.{cases_eq, eq-eqb, ne_eqb}
use Rattle.psac_ops.specs.declared.plain.Handle.{Handle}
use Rattle.psac_slots.specs.Handles.{Member, removed, later, slot_times, IsDistinct}
use Rattle.psac_slots.specs.Claiming as claiming
use Rattle.psac_slots.specs.Claiming.{times}
use Rattle.psac_slots.proofs.Given.{filter_twice, filter_all, filter_same}
use Rattle.psac_slots.proofs.Pairs.{member_filter, filter_member, member_cases, member_left, member_right}
use Rattle.psac_values.specs.declared.view.OwnedView.{OwnedView}
use Rattle.psac_values.specs.declared.view.ValueView.{ValueView}
use Rattle.psac_values.specs.Steps as values
use Rattle.psac_values.specs.Steps.{made_handle, other_owned}
use Rattle.psac_values.specs.Knowing.{claimed_as, IsOut}
use Rattle.psac_marks.specs.declared.view.MarksView.{MarksView}
use Rattle.psac_marks.specs.Steps as marks
use Rattle.psac_marks.specs.Steps.{other_own, other}
use Rattle.psac_marks.proofs.Parts.{times_gone, times_else}
use Rattle.psac_readers.proofs.Links.{sum_map}
use Rattle.psac_reclaim.specs.Parts.{Outside, is_outside}
use Rattle.psac_reclaim.specs.Gave.{ValuesGave, MarksGave, out_of, is_other}
use Rattle.psac_reclaim.proofs.Lists.{sum_removed, removed_less, differs, is_unlike}

one_outside : (m : Handle) (s : ℕ) → s ≢ m.slot → Outside (m ∷ []) s
one_outside m s n h r = ⊎_elim (λ (e : m ≡ h). λ (q : h.slot ≡ s). n (sym q ∙ sym (ap (λ (x : Handle). x.slot) e))) (λ (x : ⊥). absurd x) r

pub outside_both : (a b : List Handle) (s : ℕ) → Outside a s → Outside b s → Outside (a ++ b) s
outside_both a b s na nb h m = ⊎_elim (λ x. na h x) (λ x. nb h x) (member_cases h a b m)

pub outside_left : (a b : List Handle) (s : ℕ) → Outside (a ++ b) s → Outside a s
outside_left a b s n h m = n h (member_left h a b m)

pub outside_right : (a b : List Handle) (s : ℕ) → Outside (a ++ b) s → Outside b s
outside_right a b s n h m = n h (member_right h a b m)

pub none_out : (s : ℕ) → Outside [] s
none_out s h m = absurd m

-- whether a slot is none of one handle's
alone_test : (m : Handle) (s : ℕ) → not (s == m.slot) ≡ is_outside (m ∷ []) s
alone_test m s = ⊎_elim
    (λ (e : s ≡ m.slot). ap not (eq-eqb s m.slot e) ∙ sym (ap (λ n. n == 0) (times_one true (eq-eqb m.slot s (sym e)))))
    (λ (d : s ≢ m.slot). ap not (ne_eqb s m.slot d) ∙ sym (ap (λ n. n == 0) (times_one false (ne_eqb m.slot s (λ q. d (sym q))))))
    (cases_eq s m.slot)
  where
    times_one : (b : Bool) → (m.slot == s) ≡ b → slot_times s (m ∷ []) ≡ cond b 1 0
    times_one b e =
        let c = sum_by-cons (λ (h : Handle). cond (h.slot == s) 1 0) m [] in
        let t : ◌≡◌ {A = ℕ} (cond (m.slot == s) 1 0) (cond b 1 0) = ap {B = ℕ} (λ x. cond x 1 0) e in
        omega (arith, c, t)

-- or of two lists' handles
both_test : (a b : List Handle) (s : ℕ) → (is_outside a s && is_outside b s) ≡ is_outside (a ++ b) s
both_test a b s = by (slot_times s a) (slot_times s b) ∙ ap (λ n. n == 0) (sym (sum_by-append (λ (h : Handle). cond (h.slot == s) 1 0) a b))
  where
    by : (n k : ℕ) → ((n == 0) && (k == 0)) ≡ ((n + k) == 0)
    by zero k = let e : k ≡ 0 + k = omega arith in ap (λ z. z == 0) e
    by (suc n) k = let e : suc n ≡ 0 → ⊥ = λ q. omega (arith, q) in let f : suc n + k ≡ 0 → ⊥ = λ q. omega (arith, q) in rw (ne_eqb (suc n) 0 e) (sym (ne_eqb (suc n + k) 0 f))

pub values_none : (v : ValueView) → v.claims.counter ≡ Some 0 → ValuesGave [] v v
values_none v b = record {
  list = sym (append-nil v.claims.list);
  out = λ g. omega arith;
  once = λ s. omega arith;
  left = sym (filter_all (is_other []) v.mine (λ x i. refl));
  stays = λ x m n. m;
  mine = λ x m. (m, none_out x.of.slot);
  known = refl;
  fixed = refl;
  count = refl;
  branch = refl;
  looks = refl;
  begun = b;
}

module _ (v : ValueView) (m : Handle) (b : v.claims.counter ≡ Some 0) (d : IsDistinct v.claims.held) (o : IsOut m v) where
  slot_is : m.slot ≡ v.fixed + o.0.slot
  slot_is = sym (ap (λ (x : Handle). x.slot) o.2)

  claimed_is : m.slot - v.fixed ≡ o.0.slot
  claimed_is = let e = slot_is in omega (arith, e)

  held_is : removed (m.slot - v.fixed) v.claims.held ≡ removed o.0.slot v.claims.held
  held_is = ap (λ s. removed s v.claims.held) claimed_is

  slot_back : v.fixed + (m.slot - v.fixed) ≡ m.slot
  slot_back = let e = slot_is in omega (arith, e)

  abbrev pub after : ValueView
  after = values.gave (claimed_as m v) (values.rewound v)

  value_gone : (g : Handle → ℕ) → sum_by g (map (made_handle v.fixed) (removed (m.slot - v.fixed) v.claims.held)) + sum_by g (m ∷ []) ≡ sum_by g (out_of v)
  value_gone g =
      let f : Handle → ℕ = λ x. g (made_handle v.fixed x) in
      let a = sum_map (made_handle v.fixed) g (removed (m.slot - v.fixed) v.claims.held) in
      let c = sum_map (made_handle v.fixed) g v.claims.held in
      let e : sum_by f (removed (m.slot - v.fixed) v.claims.held) ≡ sum_by f (removed o.0.slot v.claims.held) = ap (sum_by f) held_is in
      let r = sum_removed f o.0 v.claims.held (d o.0.slot) o.1 in
      let k : g (made_handle v.fixed o.0) ≡ g m = ap g o.2 in
      let s = sum_by-cons g m [] in
      omega (arith, a, c, e, r, k, s)

  pub value_gave : ValuesGave (m ∷ []) v after
  value_gave = record {
    list = ap (λ c. drop (claiming.counted c) v.claims.list ++ later (claimed_as m v) ∷ []) b;
    out = value_gone;
    once = λ s. removed_less s (m.slot - v.fixed) v.claims.held;
    left = filter_same (other_owned (v.fixed + (m.slot - v.fixed))) (is_other (m ∷ [])) v.mine (λ x i. ap (λ k. not (x.of.slot == k)) slot_back ∙ alone_test m x.of.slot);
    stays = λ x i n. filter_member (other_owned (v.fixed + (m.slot - v.fixed))) x v.mine i (is_unlike x.of.slot (v.fixed + (m.slot - v.fixed)) (λ q. n m (inl refl) (let e = slot_is in omega (arith, e, q))));
    mine = λ x i. let q = member_filter (other_owned (v.fixed + (m.slot - v.fixed))) x v.mine i in (q.0, one_outside m x.of.slot (λ e. differs x.of.slot (v.fixed + (m.slot - v.fixed)) q.1 (let k = slot_is in omega (arith, k, e))));
    known = refl;
    fixed = refl;
    count = refl;
    branch = refl;
    looks = refl;
    begun = refl;
  }

-- some modifiables and then others
pub values_then : (a b : List Handle) (v u w : ValueView) → ValuesGave a v u → ValuesGave b u w → ValuesGave (a ++ b) v w
values_then a b v u w p q = record {
  list = q.list ∙ ap (λ l. l ++ map (λ m. later (claimed_as m u)) b) p.list ∙ ap (λ f. (v.claims.list ++ map (λ m. later (claimed_as m v)) a) ++ map (λ (m : Handle). later (record { slot = m.slot - f; generation = m.generation })) b) p.fixed ∙ append_assoc v.claims.list (map (λ m. later (claimed_as m v)) a) (map (λ m. later (claimed_as m v)) b) ∙ ap (λ l. v.claims.list ++ l) (sym (map_both (λ m. later (claimed_as m v)) a b));
  out = λ g. let x = p.out g in let y = q.out g in let s = sum_by-append g a b in omega (arith, x, y, s);
  once = λ s. let x = p.once s in let y = q.once s in omega (arith, x, y);
  left = q.left ∙ ap (filter (is_other b)) p.left ∙ filter_twice (is_other b) (is_other a) (is_other (a ++ b)) v.mine (λ x. both_test a b x.of.slot);
  stays = λ x i n. q.stays x (p.stays x i (outside_left a b x.of.slot n)) (outside_right a b x.of.slot n);
  mine = λ x i. let y = q.mine x i in let z = p.mine x y.0 in (z.0, outside_both a b x.of.slot z.1 y.1);
  known = q.known ∙ p.known;
  fixed = q.fixed ∙ p.fixed;
  count = q.count ∙ p.count;
  branch = q.branch ∙ p.branch;
  looks = q.looks ∙ p.looks;
  begun = q.begun;
}
  where
    map_both : {X Y : Type 0} (f : X → Y) (xs ys : List X) → map f (xs ++ ys) ≡ map f xs ++ map f ys
    map_both f [] ys = refl
    map_both f (x ∷ xs) ys = ap (λ l. f x ∷ l) (map_both f xs ys)

pub marks_none : (v : MarksView) → v.claims.counter ≡ Some 0 → MarksGave [] v v
marks_none v b = record {
  list = sym (append-nil v.claims.list);
  out = λ g. omega arith;
  once = λ s. omega arith;
  stays = λ x m n. m;
  own = λ x m. (m, none_out x.node.slot);
  shared = refl;
  marks = λ x m. (m, none_out x);
  dropped = λ x m. (m, none_out x);
  still = λ x m n. m;
  count = refl;
  branch = refl;
  asks = refl;
  begun = b;
}

-- what is left of a list of nodes is of others
left_over : (x y : ℕ) (ys : List ℕ) → 0 < times x (filter (other y) ys) → (0 < times x ys) × (x ≢ y)
left_over x y ys p = (by (λ e. let z : times x (filter (other y) ys) ≡ 0 = ap (λ k. times x (filter (other k) ys)) (sym e) ∙ times_gone x ys in omega (arith, z, p)))
  where
    by : (x ≢ y) → (0 < times x ys) × (x ≢ y)
    by n = let t = times_else x y ys n in (omega (arith, t, p), n)

module _ (v : MarksView) (n : Handle) (b : v.claims.counter ≡ Some 0) (d : IsDistinct v.claims.held) (i : Member n v.claims.held) where
  node_gone : (g : Handle → ℕ) → sum_by g (removed n.slot v.claims.held) + sum_by g (n ∷ []) ≡ sum_by g v.claims.held
  node_gone g =
      let r = sum_removed g n v.claims.held (d n.slot) i in
      let s = sum_by-cons g n [] in
      omega (arith, r, s)

  pub node_gave : MarksGave (n ∷ []) v (marks.released n (marks.rewound v))
  node_gave = record {
    list = ap (λ c. drop (claiming.counted c) v.claims.list ++ later n ∷ []) b;
    out = node_gone;
    once = λ s. removed_less s n.slot v.claims.held;
    stays = λ o m u. filter_member (other_own n.slot) o v.own m (is_unlike o.node.slot n.slot (λ q. u n (inl refl) (sym q)));
    own = λ o m. let q = member_filter (other_own n.slot) o v.own m in (q.0, one_outside n o.node.slot (differs o.node.slot n.slot q.1));
    shared = refl;
    marks = λ x m. ⊎_elim (λ p. let q = left_over x n.slot v.marked p in (inl q.0, one_outside n x q.1)) (λ p. let q = left_over x n.slot v.busy p in (inr q.0, one_outside n x q.1)) m;
    dropped = λ x m. let q = left_over x n.slot v.dropped m in (q.0, one_outside n x q.1);
    still = λ x m u. let t = times_else x n.slot v.dropped (λ q. u n (inl refl) (sym q)) in omega (arith, t, m);
    count = refl;
    branch = refl;
    asks = refl;
    begun = refl;
  }

pub marks_then : (a b : List Handle) (v u w : MarksView) → MarksGave a v u → MarksGave b u w → MarksGave (a ++ b) v w
marks_then a b v u w p q = record {
  list = q.list ∙ ap (λ l. l ++ map later b) p.list ∙ append_assoc v.claims.list (map later a) (map later b) ∙ ap (λ l. v.claims.list ++ l) (sym (map_both later a b));
  out = λ g. let x = p.out g in let y = q.out g in let s = sum_by-append g a b in omega (arith, x, y, s);
  once = λ s. let x = p.once s in let y = q.once s in omega (arith, x, y);
  stays = λ x i n. q.stays x (p.stays x i (outside_left a b x.node.slot n)) (outside_right a b x.node.slot n);
  own = λ x i. let y = q.own x i in let z = p.own x y.0 in (z.0, outside_both a b x.node.slot z.1 y.1);
  shared = q.shared ∙ p.shared;
  marks = λ x i. let y = q.marks x i in let z = p.marks x y.0 in (z.0, outside_both a b x z.1 y.1);
  dropped = λ x i. let y = q.dropped x i in let z = p.dropped x y.0 in (z.0, outside_both a b x z.1 y.1);
  still = λ x i n. q.still x (p.still x i (outside_left a b x n)) (outside_right a b x n);
  count = q.count ∙ p.count;
  branch = q.branch ∙ p.branch;
  asks = q.asks ∙ p.asks;
  begun = q.begun;
}
  where
    map_both : {X Y : Type 0} (f : X → Y) (xs ys : List X) → map f (xs ++ ys) ≡ map f xs ++ map f ys
    map_both f [] ys = refl
    map_both f (x ∷ xs) ys = ap (λ l. f x ∷ l) (map_both f xs ys)
