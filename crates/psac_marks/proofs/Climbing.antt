-- A climb, node by node.
use Rattle.psac_marks.proofs.Terms.{◌≡◌, ◌≢◌, ◌⊎◌, ℕ, zero, suc, ◌-◌, ◌<◌, ◌≤◌, List, [], ◌∷◌, ◌++◌, length, refl, sym, ap, ◌∙◌, subst, inl, inr, ⊎_elim, arith, Option, Some, None, append_assoc, append-nil, length-append, cond, none_some, same_some as some_same, eq-eqb, ne_eqb, cases_eq, ◌==◌, sum_by, sum_by-append, sum_by-cons, Member, times, MarksView, parent_word, Place, places, raised, climbs_from, IsBusy, IsKept, Leads, Rises, RaisedOne, MayRaise, climbed, one_of, bit}
use Rattle.psac_marks.proofs.Parts.{times_push, bit_same}

-- how many places are of nodes whose mark the pass doesn't have
abbrev pub unmarked : List ℕ → List Place → ℕ
unmarked ms ps = sum_by (λ (e : Place). cond (times e.node.slot ms == 0) 1 0) ps

-- where a climb from x stands that has come to y: these nodes were marked anew, and these are left
pub record Midway (v : MarksView) (x : ℕ) (w : MarksView) (y : ℕ) : Type 0 where
  pub done : List ℕ
  pub rest : List Place
  pub marked : w.marked ≡ v.marked ++ done
  pub view : w ≡ record v { marked = v.marked ++ done; climb = w.climb }
  pub leads : Leads v y rest
  pub may : MayRaise w y
  pub goes_on : (ys : List ℕ) (end : Option ℕ) → Rises v y ys end → Rises v x (done ++ ys) end

pub found_more : (x : ℕ) (par : Option ℕ) (n : ℕ) (v : MarksView) → n ≢ 0 → raised x par n v ≡ raised x par 1 v
found_more x par zero v e = absurd (e refl)
found_more x par (suc n) v e = refl

pub no_parent : (par : Option ℕ) → parent_word par ≡ 0 → None ≡ par
no_parent None e = refl
no_parent (Some p) e = absurd (omega (arith, e))

pub the_parent : (par : Option ℕ) (w : ℕ) → w ≡ parent_word par → w ≢ 0 → Some (w - 1) ≡ par
the_parent None w e n = absurd (n e)
the_parent (Some p) w e n = ap Some (omega (arith, e))

climbs_some : (y z : ℕ) (par : Option ℕ) → Some z ≡ par → climbs_from y par ≡ Some y
climbs_some y z None e = absurd (none_some z (sym e))
climbs_some y z (Some p) e = refl

climbs_none : (y : ℕ) (par : Option ℕ) → None ≡ par → climbs_from y par ≡ None
climbs_none y None e = refl
climbs_none y (Some p) e = absurd (none_some p e)

-- the parent of a place from which a climb goes on, and of one at which it ends with a new mark
goes_on_to : (w w' : MarksView) (z : ℕ) (o : Place) → RaisedOne w o (Some z) w' → o.parent ≡ Some z
goes_on_to w w' z o (inl r) = absurd (none_some z (sym r.0))
goes_on_to w w' z o (inr r) = sym r.0

ends_at : (w w' : MarksView) (x : ℕ) (par : Option ℕ) (o : Place) → w' ≡ raised x par 0 w → RaisedOne w o None w' → o.parent ≡ None
ends_at w w' x par o new (inl r) = let a = ap (λ (u : MarksView). length u.marked) r.1 in let b = ap (λ (u : MarksView). length u.marked) new in let l = length-append w.marked (x ∷ []) in absurd (omega (arith, a, b, l))
ends_at w w' x par o new (inr r) = sym r.0

still_one : (a b : ℕ) → a ≤ b → cond (b == 0) 1 0 ≤ cond (a == 0) 1 0
still_one a b l = ⊎_elim
    (λ (e : b ≡ 0). let p : cond (b == 0) 1 0 ≡ 1 = ap bit (eq-eqb b 0 e) in let q : cond (a == 0) 1 0 ≡ 1 = ap bit (eq-eqb a 0 (omega (arith, l, e))) in omega (arith, p, q))
    (λ (n : b ≢ 0). let p : cond (b == 0) 1 0 ≡ 0 = ap bit (ne_eqb b 0 n) in omega (arith, p))
    (cases_eq b 0)

unmarked_few : (ms : List ℕ) (x : ℕ) (ps : List Place) → unmarked (ms ++ x ∷ []) ps ≤ unmarked ms ps
unmarked_few ms x [] = omega arith
unmarked_few ms x (p ∷ ps) =
    let a = sum_by-cons (λ (e : Place). cond (times e.node.slot (ms ++ x ∷ []) == 0) 1 0) p ps in
    let b = sum_by-cons (λ (e : Place). cond (times e.node.slot ms == 0) 1 0) p ps in
    let t = times_push p.node.slot ms x in
    omega (arith, a, b, still_one (times p.node.slot ms) (times p.node.slot (ms ++ x ∷ [])) (omega (arith, t)), unmarked_few ms x ps)

-- one more mark
unmarked_less : (e : Place) (ms : List ℕ) (ps : List Place) → Member e ps → times e.node.slot ms ≡ 0 → unmarked (ms ++ e.node.slot ∷ []) ps < unmarked ms ps
unmarked_less e ms [] m z = absurd m
unmarked_less e ms (p ∷ ps) m z =
    let x = e.node.slot in
    let a = sum_by-cons (λ (k : Place). cond (times k.node.slot (ms ++ x ∷ []) == 0) 1 0) p ps in
    let b = sum_by-cons (λ (k : Place). cond (times k.node.slot ms == 0) 1 0) p ps in ⊎_elim
    (λ (q : p ≡ e).
    let slot = ap (λ (k : Place). k.node.slot) q in
    let t = times_push p.node.slot ms x in
    let one : bit (x == p.node.slot) ≡ 1 = ap bit (eq-eqb x p.node.slot (sym slot)) in
    let old : cond (times p.node.slot ms == 0) 1 0 ≡ 1 = ap bit (eq-eqb (times p.node.slot ms) 0 (ap (λ k. times k ms) slot ∙ z)) in
    let new : cond (times p.node.slot (ms ++ x ∷ []) == 0) 1 0 ≡ 0 = ap bit (ne_eqb (times p.node.slot (ms ++ x ∷ [])) 0 (λ k. absurd (omega (arith, k, t, one)))) in
    omega (arith, a, b, old, new, unmarked_few ms x ps))
    (λ q.
    let t = times_push p.node.slot ms x in
    omega (arith, a, b, still_one (times p.node.slot ms) (times p.node.slot (ms ++ x ∷ [])) (omega (arith, t)), unmarked_less e ms ps q z))
    m

-- a climb begins
pub begins : (v : MarksView) (x : ℕ) (path : List Place) → v.climb ≡ None → Leads v x path → Midway v x v x
begins v x path idle leads = record {
  done = [];
  rest = path;
  marked = sym (append-nil v.marked);
  view = λ i. record v { marked = sym (append-nil v.marked) i };
  leads = leads;
  may = λ y e. absurd (none_some y (sym idle ∙ e));
  goes_on = λ ys end r. r;
}

module _ (v : MarksView) (x : ℕ) (w : MarksView) (y : ℕ) (m : Midway v x w y) where
  -- the node at which a climb stands
  pub stands : (e : Place) × (es : List Place) × (m.rest ≡ e ∷ es) × (e.node.slot ≡ y) × Member e (places w) × IsKept w y × ((e.parent ≡ None) ⊎ (IsBusy v y ⊎ ((p : ℕ) × (e.parent ≡ Some p) × Leads v p es)))
  stands = by m.rest refl m.leads
    where
      by : (rest : List Place) → m.rest ≡ rest → Leads v y rest → (e : Place) × (es : List Place) × (m.rest ≡ e ∷ es) × (e.node.slot ≡ y) × Member e (places w) × IsKept w y × ((e.parent ≡ None) ⊎ (IsBusy v y ⊎ ((p : ℕ) × (e.parent ≡ Some p) × Leads v p es)))
      by [] is l = absurd l
      by (e ∷ es) is l = (e, es, is, l.0, subst (λ (u : MarksView). Member e (places u)) (sym m.view) l.1, ap (λ (u : MarksView). times y u.dropped) m.view ∙ l.2, l.3)

  still_busy : IsBusy v y → IsBusy w y
  still_busy (inl p) = inl (let a = ap (times y) m.marked in let b = times_more y v.marked m.done in omega (arith, a, b, p))
    where
      times_more : (z : ℕ) (xs ys : List ℕ) → times z xs ≤ times z (xs ++ ys)
      times_more z xs ys = let a = sum_by-append (λ (k : ℕ). cond (k == z) 1 0) xs ys in omega (arith, a)
  still_busy (inr p) = inr (let a = ap (λ (u : MarksView). times y u.busy) m.view in omega (arith, a, p))

  module _ (w' : MarksView) where
    -- one more node was marked
    more : (e : Place) → e.node.slot ≡ y → w' ≡ raised e.node.slot e.parent 0 w
        → (w'.marked ≡ v.marked ++ (m.done ++ y ∷ [])) × (w' ≡ record v { marked = v.marked ++ (m.done ++ y ∷ []); climb = w'.climb })
    more e slot is =
        let long : (v.marked ++ m.done) ++ e.node.slot ∷ [] ≡ v.marked ++ (m.done ++ y ∷ []) = append_assoc v.marked m.done (e.node.slot ∷ []) ∙ (λ i. v.marked ++ (m.done ++ slot i ∷ [])) in (
          ap (λ (u : MarksView). u.marked) is ∙ (ap (λ l. l ++ e.node.slot ∷ []) m.marked ∙ long),
          is ∙ ((λ i. raised e.node.slot e.parent 0 (m.view i)) ∙ (λ i. record v { marked = long i; climb = ap (λ (u : MarksView). u.climb) (sym is) i })),
        )

    -- each place of the node was raised in one way
    abbrev pub each_raised : Option ℕ → Type 0
    each_raised next = (o : Place) → Member o (places w) → o.node.slot ≡ y → RaisedOne w o next w'

    goes_by : (z : ℕ) → each_raised (Some z) → RaisedOne w stands.0 (Some z) w' → Midway v x w' z × (unmarked w'.marked (places w') < unmarked w.marked (places w))
    goes_by z each (inl r) = absurd (none_some z (sym r.0))
    goes_by z each (inr r) =
        let e = stands.0 in
        let es = stands.1 in
        let slot = stands.3 in
        let grown = more e slot r.2 in
        let parent : e.parent ≡ Some z = sym r.0 in
        let parents : (o : Place) → Member o (places v) → o.node.slot ≡ y → o.parent ≡ Some z = λ o has s. goes_on_to w w' z o (each o (subst (λ (u : MarksView). Member o (places u)) (sym m.view) has) s) in
        let calm : IsBusy v y → ⊥ = λ b. r.1 (subst (IsBusy w) (sym slot) (still_busy b)) in
        let has_v : Member e (places v) = subst (λ (u : MarksView). Member e (places u)) m.view stands.4 in
        let leads : Leads v z es = ⊎_elim
        (λ (q : e.parent ≡ None). absurd (none_some z (sym q ∙ parent)))
        (λ q. ⊎_elim (λ (b : IsBusy v y). absurd (calm b)) (λ (k : (p : ℕ) × (e.parent ≡ Some p) × Leads v p es). subst (λ p. Leads v p es) (some_same k.0 z (sym k.1 ∙ parent)) k.2) q)
        stands.6 in
        let none : times e.node.slot w.marked ≡ 0 = ⊎_elim (λ z. z) (λ (q : times e.node.slot w.marked ≢ 0). absurd (r.1 (inl (omega (arith, q))))) (cases_eq (times e.node.slot w.marked) 0) in (
          record {
            done = m.done ++ y ∷ [];
            rest = es;
            marked = grown.0;
            view = grown.1;
            leads = leads;
            may = λ k climb. (e, subst (λ (u : MarksView). Member e (places u)) (sym grown.1) has_v, slot ∙ some_same y k (sym (ap (λ (u : MarksView). u.climb) r.2 ∙ (climbs_some e.node.slot z e.parent r.0 ∙ ap Some slot)) ∙ climb), parent);
            goes_on = λ ys end up. subst (λ l. Rises v x l end) (sym (append_assoc m.done (y ∷ []) ys)) (m.goes_on (y ∷ ys) end (refl, calm, (e, has_v, slot), λ o has s. inr (z, parents o has s, up)));
          },
          subst (λ (u : MarksView). unmarked u.marked (places u) < unmarked w.marked (places w)) (sym r.2) (unmarked_less e w.marked (places w) stands.4 none),
        )

    pub goes_up : (z : ℕ) → each_raised (Some z) → Midway v x w' z × (unmarked w'.marked (places w') < unmarked w.marked (places w))
    goes_up z each = goes_by z each (each stands.0 stands.4 stands.3)

    ends_by : v.climb ≡ None → each_raised None → RaisedOne w stands.0 None w' → (xs : List ℕ) × (end : Option ℕ) × Rises v x xs end × (w' ≡ climbed xs end v)
    ends_by idle each (inl r) =
        let e = stands.0 in
        let slot = stands.3 in (
          m.done ++ [],
          Some y,
          m.goes_on [] (Some y) refl,
          r.1 ∙ ((λ i. raised e.node.slot e.parent 1 (m.view i)) ∙ (λ i. record v { marked = v.marked ++ sym (append-nil m.done) i; busy = v.busy ++ slot i ∷ []; climb = sym idle i })),
        )
    ends_by idle each (inr r) =
        let e = stands.0 in
        let slot = stands.3 in
        let grown = more e slot r.2 in
        let calm : IsBusy v y → ⊥ = λ b. r.1 (subst (IsBusy w) (sym slot) (still_busy b)) in
        let has_v : Member e (places v) = subst (λ (u : MarksView). Member e (places u)) m.view stands.4 in
        let still : w'.climb ≡ v.climb = ap (λ (u : MarksView). u.climb) r.2 ∙ (climbs_none e.node.slot e.parent r.0 ∙ sym idle) in (
          m.done ++ y ∷ [],
          None,
          m.goes_on (y ∷ []) None (refl, calm, (e, has_v, slot), λ o has s. inl (ends_at w w' e.node.slot e.parent o r.2 (each o (subst (λ (u : MarksView). Member o (places u)) (sym m.view) has) s), refl, refl)),
          grown.1 ∙ (λ i. record v { marked = v.marked ++ (m.done ++ y ∷ []); busy = sym (append-nil v.busy) i; climb = still i }),
        )

    pub ends : v.climb ≡ None → each_raised None → (xs : List ℕ) × (end : Option ℕ) × Rises v x xs end × (w' ≡ climbed xs end v)
    ends idle each = ends_by idle each (each stands.0 stands.4 stands.3)

-- a climb marks the node from which it sets out
pub rises_busy : (v : MarksView) (x : ℕ) (xs : List ℕ) (end : Option ℕ) → Rises v x xs end → IsBusy (climbed xs end v) x
rises_busy v x [] end r = inr (subst (λ o. 0 < times x (v.busy ++ one_of o)) (sym r) (let a = times_push x v.busy x in let b = bit_same x in omega (arith, a, b)))
rises_busy v x (y ∷ ys) end r = inl (let a = sum_by-append (λ (k : ℕ). cond (k == x) 1 0) v.marked (y ∷ ys) in let b = sum_by-cons (λ (k : ℕ). cond (k == x) 1 0) y ys in let c = ap (λ k. bit (k == x)) r.0 in let d = bit_same x in omega (arith, a, b, c, d))
