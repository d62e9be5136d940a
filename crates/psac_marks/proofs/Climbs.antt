-- What steps make of the marks.
use Rattle.psac_marks.proofs.Terms.{◌≡◌, ◌≢◌, ℕ, ◌+◌, ◌*◌, ◌<◌, List, [], ◌∷◌, ◌++◌, length, set, refl, sym, ap, ◌∙◌, subst, inl, inr, ⊎_elim, arith, Option, Some, None, none_some, same_some as some_same, ◌==◌, filter, cases_eq, some, some-injective, get_elem?, set_here, set_else, Member, times, bit, sum_set, all_set, mark_at, Place, Raising, Has, marks, Supported, Climbing, climbs_from, other}
use Rattle.psac_marks.proofs.Parts.{here, times_push, times_gone, times_else, bit_same, bit_other}

-- a store beside the marks
pub climbs_else : (nodes : ℕ) (words : List ℕ) (all : List Raising) (i x : ℕ) → ((y : ℕ) → mark_at nodes y ≢ i) → Climbing nodes words all → Climbing nodes (set words i x) all
climbs_else nodes words all i x far h = record {
  stored = λ y lt. set_else words i (mark_at nodes y) x (far y) ∙ h.stored y lt;
  once = h.once;
  marked = h.marked;
  busy = h.busy;
  climb = h.climb;
  supported = h.supported;
}

-- support moves with the marks, and where its climbs do
pub support_moves : (all after : List Raising) (e : Place) → ((z : ℕ) → 0 < marks z all → 0 < marks z after) → ((j : ℕ) (r : Raising) → get_elem? all j ≡ some r → r.climb ≡ Some e.node.slot → Supported after e)
    → Supported all e → Supported after e
support_moves all after e more climbs (inl root) = inl root
support_moves all after e more climbs (inr (inl p)) = inr (inl (p.0, p.1, more p.0 p.2))
support_moves all after e more climbs (inr (inr c)) = climbs c.0 c.1 c.2 c.3

-- support stays where marks only come, and each climb that ends was of a node whose parent is marked
pub support_stays : (all : List Raising) (id : ℕ) (r s : Raising) → get_elem? all id ≡ some r → ((z : ℕ) → 0 < marks z all → 0 < marks z (set all id s))
    → (e : Place) → (r.climb ≡ Some e.node.slot → Supported (set all id s) e) → Supported all e → Supported (set all id s) e
support_stays all id r s at more e mine = support_moves all (set all id s) e more (λ j k d c. ⊎_elim
    (λ (q : j ≡ id). mine (ap (λ (u : Raising). u.climb) (some-injective r k (sym at ∙ (ap (get_elem? all) (sym q) ∙ d))) ∙ c))
    (λ n. inr (inr (j, k, set_else all id j s n ∙ d, c)))
    (cases_eq j id))

module _ (nodes : ℕ) (words : List ℕ) (all : List Raising) (h : Climbing nodes words all) (id : ℕ) (r : Raising) (at : get_elem? all id ≡ some r) where
  -- the places and what is dropped are other ones
  pub climbs_places : (ps : List Place) (ds : List ℕ) → ((x : ℕ) → Has r.places x → Has ps x)
      → ((e : Place) → Member e ps → times e.node.slot ds ≡ 0 → 0 < marks e.node.slot all → Supported all e)
      → Climbing nodes words (set all id (record { places = ps; dropped = ds; marked = r.marked; busy = r.busy; climb = r.climb }))
  climbs_places ps ds more backed =
      let s : Raising = record { places = ps; dropped = ds; marked = r.marked; busy = r.busy; climb = r.climb } in
      let same : (y : ℕ) → marks y (set all id s) ≡ marks y all = λ y. let a = sum_set (λ (u : Raising). times y u.marked) all id r s at in omega (arith, a) in
      let stays : (e : Place) → Supported all e → Supported (set all id s) e = λ e. support_stays all id r s at (λ z p. let a = same z in omega (arith, a, p)) e (λ c. inr (inr (id, s, here all id r s at, c))) in
      record {
        stored = λ y lt. h.stored y lt ∙ ap some (sym (same y));
        once = λ y. let a = same y in let b = h.once y in omega (arith, a, b);
        marked = λ j u x d p. all_set (λ _ (k : Raising). (y : ℕ) → 0 < times y k.marked → Has k.places y) all id s (λ y q. more y (h.marked id r y at q)) (λ i k n e. λ y q. h.marked i k y e q) j u d x p;
        busy = λ j u x d p. all_set (λ _ (k : Raising). (y : ℕ) → 0 < times y k.busy → Has k.places y × (0 < marks y (set all id s))) all id s
            (λ y q. let o = h.busy id r y at q in let a = same y in let b = o.1 in (more y o.0, omega (arith, a, b)))
            (λ i k n e. λ y q. let o = h.busy i k y e q in let a = same y in let b = o.1 in (o.0, omega (arith, a, b))) j u d x p;
        climb = λ j u x d p. all_set (λ _ (k : Raising). (y : ℕ) → k.climb ≡ Some y → Has k.places y) all id s (λ y q. more y (h.climb id r y at q)) (λ i k n e. λ y q. h.climb i k y e q) j u d x p;
        supported = λ j u e d m kept p. all_set (λ _ (k : Raising). (c : Place) → Member c k.places → times c.node.slot k.dropped ≡ 0 → 0 < marks c.node.slot (set all id s) → Supported (set all id s) c) all id s
            (λ c mc kc pc. stays c (backed c mc kc (let a = same c.node.slot in omega (arith, a, pc))))
            (λ i k n f. λ c mc kc pc. stays c (h.supported i k c f mc kc (let a = same c.node.slot in omega (arith, a, pc)))) j u d e m kept p;
      }

  -- a first mark, of the node of this place
  pub first_mark : (e0 : Place) → Member e0 r.places → e0.node.slot < nodes → nodes + 3 * nodes < length words → marks e0.node.slot all ≡ 0
      -- another place of the node has the same parent
      → ((j : ℕ) (u : Raising) (e : Place) → get_elem? all j ≡ some u → Member e u.places → e.node.slot ≡ e0.node.slot → e.parent ≡ e0.parent)
      -- and the node from which the pass climbs is its child
      → ((j : ℕ) (u : Raising) (e : Place) → get_elem? all j ≡ some u → Member e u.places → r.climb ≡ Some e.node.slot → e.parent ≡ Some e0.node.slot)
      → Climbing nodes (set words (mark_at nodes e0.node.slot) 1) (set all id (record { places = r.places; dropped = r.dropped; marked = r.marked ++ e0.node.slot ∷ []; busy = r.busy; climb = climbs_from e0.node.slot e0.parent }))
  first_mark e0 has small long none one below =
      let x = e0.node.slot in
      let s : Raising = record { places = r.places; dropped = r.dropped; marked = r.marked ++ x ∷ []; busy = r.busy; climb = climbs_from x e0.parent } in
      let after : (z : ℕ) → marks z (set all id s) ≡ bit (x == z) + marks z all = λ z. let a = sum_set (λ (u : Raising). times z u.marked) all id r s at in let t = times_push z r.marked x in omega (arith, a, t) in
      let at_x : marks x (set all id s) ≡ 1 = let a = after x in let o = bit_same x in omega (arith, a, o, none) in
      let at_z : (z : ℕ) → z ≢ x → marks z (set all id s) ≡ marks z all = λ z n. let a = after z in let o = bit_other x z (λ e. n (sym e)) in omega (arith, a, o) in
      let more : (z : ℕ) → 0 < marks z all → 0 < marks z (set all id s) = λ z p. let a = after z in omega (arith, a, p) in
      let backed : (j : ℕ) (u : Raising) (e : Place) → get_elem? all j ≡ some u → Member e u.places → times e.node.slot u.dropped ≡ 0 → 0 < marks e.node.slot (set all id s) → Supported (set all id s) e = λ j u e d m kept p. ⊎_elim
      (λ (q : e.node.slot ≡ x). mine e q (one j u e d m q) e0.parent refl)
      (λ (n : e.node.slot ≢ x). support_stays all id r s at more e (λ c. inr (inl (x, below j u e d m c, omega (arith, at_x)))) (h.supported j u e d m kept (let a = at_z e.node.slot n in omega (arith, a, p))))
      (cases_eq e.node.slot x) in
      record {
        stored = λ z lt. ⊎_elim
            (λ (e : z ≡ x). subst (λ y. get_elem? (set words (mark_at nodes x) 1) (mark_at nodes y) ≡ some (marks y (set all id s))) (sym e) (set_here words (mark_at nodes x) 1 (omega (arith, small, long)) ∙ ap some (sym at_x)))
            (λ (n : z ≢ x). set_else words (mark_at nodes x) (mark_at nodes z) 1 (λ q. n (omega (arith, q))) ∙ (h.stored z lt ∙ ap some (sym (at_z z n))))
            (cases_eq z x);
        once = λ z. ⊎_elim
            (λ (e : z ≡ x). let a = ap (λ y. marks y (set all id s)) e in omega (arith, a, at_x))
            (λ (n : z ≢ x). let a = at_z z n in let b = h.once z in omega (arith, a, b))
            (cases_eq z x);
        marked = λ j u y d p. all_set (λ _ (k : Raising). (z : ℕ) → 0 < times z k.marked → Has k.places z) all id s
            (λ z q. ⊎_elim
            (λ (e : x ≡ z). (e0, has, e))
            (λ (n : x ≢ z). h.marked id r z at (let t = times_push z r.marked x in let o = bit_other x z n in omega (arith, t, o, q)))
            (cases_eq x z))
            (λ i k n e. λ z q. h.marked i k z e q) j u d y p;
        busy = λ j u y d p. all_set (λ _ (k : Raising). (z : ℕ) → 0 < times z k.busy → Has k.places z × (0 < marks z (set all id s))) all id s
            (λ z q. let o = h.busy id r z at q in (o.0, more z o.1))
            (λ i k n e. λ z q. let o = h.busy i k z e q in (o.0, more z o.1)) j u d y p;
        climb = λ j u y d p. all_set (λ _ (k : Raising). (z : ℕ) → k.climb ≡ Some z → Has k.places z) all id s
            (λ z q. let c = from_x e0.parent z q in (e0, has, c))
            (λ i k n e. λ z q. h.climb i k z e q) j u d y p;
        supported = λ j u e d m kept p. all_set (λ _ (k : Raising). (c : Place) → Member c k.places → times c.node.slot k.dropped ≡ 0 → 0 < marks c.node.slot (set all id s) → Supported (set all id s) c) all id s
            (λ c mc kc pc. backed id r c at mc kc pc)
            (λ i k n f. λ c mc kc pc. backed i k c f mc kc pc) j u d e m kept p;
      }
    where
      from_x : (par : Option ℕ) (z : ℕ) → climbs_from e0.node.slot par ≡ Some z → e0.node.slot ≡ z
      from_x None z e = absurd (none_some z e)
      from_x (Some p) z e = some_same e0.node.slot z e

      mine : (e : Place) → e.node.slot ≡ e0.node.slot → e.parent ≡ e0.parent → (par : Option ℕ) → e0.parent ≡ par
          → Supported (set all id (record { places = r.places; dropped = r.dropped; marked = r.marked ++ e0.node.slot ∷ []; busy = r.busy; climb = climbs_from e0.node.slot e0.parent })) e
      mine e q same None is = inl (same ∙ is)
      mine e q same (Some p) is =
          let s : Raising = record { places = r.places; dropped = r.dropped; marked = r.marked ++ e0.node.slot ∷ []; busy = r.busy; climb = climbs_from e0.node.slot e0.parent } in
          inr (inr (id, s, here all id r s at, ap (climbs_from e0.node.slot) is ∙ ap Some (sym q)))

  -- a mark that was there
  pub second_mark : (e0 : Place) → Member e0 r.places → e0.node.slot < nodes → nodes + 3 * nodes < length words → marks e0.node.slot all ≡ 1
      → ((j : ℕ) (u : Raising) (e : Place) → get_elem? all j ≡ some u → Member e u.places → r.climb ≡ Some e.node.slot → e.parent ≡ Some e0.node.slot)
      → Climbing nodes (set words (mark_at nodes e0.node.slot) 1) (set all id (record { places = r.places; dropped = r.dropped; marked = r.marked; busy = r.busy ++ e0.node.slot ∷ []; climb = None }))
  second_mark e0 has small long is_one below =
      let x = e0.node.slot in
      let s : Raising = record { places = r.places; dropped = r.dropped; marked = r.marked; busy = r.busy ++ x ∷ []; climb = None } in
      let same : (z : ℕ) → marks z (set all id s) ≡ marks z all = λ z. let a = sum_set (λ (u : Raising). times z u.marked) all id r s at in omega (arith, a) in
      let more : (z : ℕ) → 0 < marks z all → 0 < marks z (set all id s) = λ z p. let a = same z in omega (arith, a, p) in
      let backed : (j : ℕ) (u : Raising) (e : Place) → get_elem? all j ≡ some u → Member e u.places → times e.node.slot u.dropped ≡ 0 → 0 < marks e.node.slot (set all id s) → Supported (set all id s) e = λ j u e d m kept p.
      support_stays all id r s at more e (λ c. inr (inl (x, below j u e d m c, let a = same x in omega (arith, a, is_one)))) (h.supported j u e d m kept (let a = same e.node.slot in omega (arith, a, p))) in
      record {
        stored = λ z lt. ⊎_elim
            (λ (e : z ≡ x). subst (λ y. get_elem? (set words (mark_at nodes x) 1) (mark_at nodes y) ≡ some (marks y (set all id s))) (sym e) (set_here words (mark_at nodes x) 1 (omega (arith, small, long)) ∙ ap some (sym (same x ∙ is_one))))
            (λ (n : z ≢ x). set_else words (mark_at nodes x) (mark_at nodes z) 1 (λ q. n (omega (arith, q))) ∙ (h.stored z lt ∙ ap some (sym (same z))))
            (cases_eq z x);
        once = λ z. let a = same z in let b = h.once z in omega (arith, a, b);
        marked = λ j u y d p. all_set (λ _ (k : Raising). (z : ℕ) → 0 < times z k.marked → Has k.places z) all id s (λ z q. h.marked id r z at q) (λ i k n e. λ z q. h.marked i k z e q) j u d y p;
        busy = λ j u y d p. all_set (λ _ (k : Raising). (z : ℕ) → 0 < times z k.busy → Has k.places z × (0 < marks z (set all id s))) all id s
            (λ z q. ⊎_elim
            (λ (e : x ≡ z). let a = same z in let b = ap (λ y. marks y all) e in ((e0, has, e), omega (arith, a, b, is_one)))
            (λ (n : x ≢ z). let o = h.busy id r z at (let t = times_push z r.busy x in let b = bit_other x z n in omega (arith, t, b, q)) in (o.0, more z o.1))
            (cases_eq x z))
            (λ i k n e. λ z q. let o = h.busy i k z e q in (o.0, more z o.1)) j u d y p;
        climb = λ j u y d p. all_set (λ _ (k : Raising). (z : ℕ) → k.climb ≡ Some z → Has k.places z) all id s (λ z q. absurd (none_some z q)) (λ i k n e. λ z q. h.climb i k z e q) j u d y p;
        supported = λ j u e d m kept p. all_set (λ _ (k : Raising). (c : Place) → Member c k.places → times c.node.slot k.dropped ≡ 0 → 0 < marks c.node.slot (set all id s) → Supported (set all id s) c) all id s
            (λ c mc kc pc. backed id r c at mc kc pc)
            (λ i k n f. λ c mc kc pc. backed i k c f mc kc pc) j u d e m kept p;
      }

  -- a node that no other pass has, and of whose children none is marked but for dropped ones, isn't marked
  pub climbs_clear : (x : ℕ) → x < nodes → nodes + 3 * nodes < length words
      → ((j : ℕ) (u : Raising) (e : Place) → j ≢ id → get_elem? all j ≡ some u → Member e u.places → e.node.slot ≢ x)
      → ((j : ℕ) (u : Raising) (e : Place) → get_elem? all j ≡ some u → Member e u.places → times e.node.slot u.dropped ≡ 0 → e.parent ≡ Some x → marks e.node.slot all ≡ 0)
      → Climbing nodes (set words (mark_at nodes x) 0) (set all id (record { places = r.places; dropped = r.dropped; marked = filter (other x) r.marked; busy = filter (other x) r.busy; climb = r.climb }))
  climbs_clear x small long alone bare =
      let s : Raising = record { places = r.places; dropped = r.dropped; marked = filter (other x) r.marked; busy = filter (other x) r.busy; climb = r.climb } in
      let at_x : marks x (set all id s) ≡ 0 = Rattle.psac_slots.proofs.Sums.sum_none (λ (u : Raising). times x u.marked) (set all id s) (all_set (λ _ (u : Raising). times x u.marked ≡ 0) all id s (times_gone x r.marked)
      (λ j u n e. ⊎_elim (λ (z : times x u.marked ≡ 0). z) (λ (n' : times x u.marked ≢ 0). let b = h.marked j u x e (omega (arith, n')) in absurd (alone j u b.0 n e b.1 b.2)) (cases_eq (times x u.marked) 0))) in
      let at_z : (z : ℕ) → z ≢ x → marks z (set all id s) ≡ marks z all = λ z n. let a = sum_set (λ (u : Raising). times z u.marked) all id r s at in let t = times_else z x r.marked n in omega (arith, a, t) in
      let backed : (j : ℕ) (u : Raising) (e : Place) → get_elem? all j ≡ some u → Member e u.places → times e.node.slot u.dropped ≡ 0 → 0 < marks e.node.slot (set all id s) → Supported (set all id s) e = λ j u e d m kept p. ⊎_elim
      (λ (q : e.node.slot ≡ x). let a = ap (λ y. marks y (set all id s)) q in absurd (omega (arith, a, at_x, p)))
      (λ (n : e.node.slot ≢ x). let old : 0 < marks e.node.slot all = let a = at_z e.node.slot n in omega (arith, a, p) in still e (λ is. let z = bare j u e d m kept is in omega (arith, z, old)) (h.supported j u e d m kept old))
      (cases_eq e.node.slot x) in
      record {
        stored = λ z lt. ⊎_elim
            (λ (e : z ≡ x). subst (λ y. get_elem? (set words (mark_at nodes x) 0) (mark_at nodes y) ≡ some (marks y (set all id s))) (sym e) (set_here words (mark_at nodes x) 0 (omega (arith, small, long)) ∙ ap some (sym at_x)))
            (λ (n : z ≢ x). set_else words (mark_at nodes x) (mark_at nodes z) 0 (λ q. n (omega (arith, q))) ∙ (h.stored z lt ∙ ap some (sym (at_z z n))))
            (cases_eq z x);
        once = λ z. ⊎_elim
            (λ (e : z ≡ x). let a = ap (λ y. marks y (set all id s)) e in omega (arith, a, at_x))
            (λ (n : z ≢ x). let a = at_z z n in let b = h.once z in omega (arith, a, b))
            (cases_eq z x);
        marked = λ j u y d p. all_set (λ _ (k : Raising). (z : ℕ) → 0 < times z k.marked → Has k.places z) all id s
            (λ z q. ⊎_elim
            (λ (e : z ≡ x). let a = ap (λ k. times k (filter (other x) r.marked)) e in let b = times_gone x r.marked in absurd (omega (arith, a, b, q)))
            (λ (n : z ≢ x). h.marked id r z at (let t = times_else z x r.marked n in omega (arith, t, q)))
            (cases_eq z x))
            (λ i k n e. λ z q. h.marked i k z e q) j u d y p;
        busy = λ j u y d p. all_set (λ _ (k : Raising). (z : ℕ) → 0 < times z k.busy → Has k.places z × (0 < marks z (set all id s))) all id s
            (λ z q. ⊎_elim
            (λ (e : z ≡ x). let a = ap (λ k. times k (filter (other x) r.busy)) e in let b = times_gone x r.busy in absurd (omega (arith, a, b, q)))
            (λ (n : z ≢ x). let o = h.busy id r z at (let t = times_else z x r.busy n in omega (arith, t, q)) in let a = at_z z n in let b = o.1 in (o.0, omega (arith, a, b)))
            (cases_eq z x))
            (λ i k n e. λ z q. let o = h.busy i k z e q in let w : z ≢ x = λ same. alone i k o.0.0 n e o.0.1 (o.0.2 ∙ same) in let a = at_z z w in let b = o.1 in (o.0, omega (arith, a, b))) j u d y p;
        climb = λ j u y d p. all_set (λ _ (k : Raising). (z : ℕ) → k.climb ≡ Some z → Has k.places z) all id s (λ z q. h.climb id r z at q) (λ i k n e. λ z q. h.climb i k z e q) j u d y p;
        supported = λ j u e d m kept p. all_set (λ _ (k : Raising). (c : Place) → Member c k.places → times c.node.slot k.dropped ≡ 0 → 0 < marks c.node.slot (set all id s) → Supported (set all id s) c) all id s
            (λ c mc kc pc. backed id r c at mc kc pc)
            (λ i k n f. λ c mc kc pc. backed i k c f mc kc pc) j u d e m kept p;
      }
    where
      still : (e : Place) → (e.parent ≡ Some x → ⊥) → Supported all e → Supported (set all id (record { places = r.places; dropped = r.dropped; marked = filter (other x) r.marked; busy = filter (other x) r.busy; climb = r.climb })) e
      still e never (inl root) = inl root
      still e never (inr (inl p)) =
          let s : Raising = record { places = r.places; dropped = r.dropped; marked = filter (other x) r.marked; busy = filter (other x) r.busy; climb = r.climb } in
          let n : p.0 ≢ x = λ q. never (p.1 ∙ ap Some q) in
          let a = sum_set (λ (u : Raising). times p.0 u.marked) all id r s at in let t = times_else p.0 x r.marked n in let b = p.2 in
          inr (inl (p.0, p.1, omega (arith, a, t, b)))
      still e never (inr (inr c)) =
          let s : Raising = record { places = r.places; dropped = r.dropped; marked = filter (other x) r.marked; busy = filter (other x) r.busy; climb = r.climb } in
          ⊎_elim
          (λ (q : c.0 ≡ id). inr (inr (id, s, here all id r s at, ap (λ (u : Raising). u.climb) (some-injective r c.1 (sym at ∙ (ap (get_elem? all) (sym q) ∙ c.2))) ∙ c.3)))
          (λ n. inr (inr (c.0, c.1, set_else all id c.0 s n ∙ c.2, c.3)))
          (cases_eq c.0 id)
