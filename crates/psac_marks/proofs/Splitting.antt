-- Splits keep the rule.
use Rattle.psac_marks.proofs.Terms.{◌≡◌, ◌≢◌, ◌⊎◌, ℕ, ◌+◌, ◌<◌, ◌≤◌, List, [], ◌∷◌, ◌++◌, map, length, set, Bool, true, false, true≢false, ltb, refl, sym, ap, ◌∙◌, subst, inl, inr, ⊎_elim, arith, Option, Some, None, at_mapped, none_some, filter, not, ◌&&◌, IfSome, sum_by_push, map-append, map-set, cases_eq, cases_Bool, cases_lt, lt-ltb, ltb-true, and_parts, some, some-injective, get_elem?, at_map, at_set, at_snoc, at_longer, at_last, set_else, Handle, is_prefix, Member, slot_times, times, Rights, Divided, stays, goes, lends, sum_set, all_set, all_end, prefix_refl, prefix_long, member_left, member_right, filter_member, map_member, one_after, is_off, divides, told_cases, on_left, on_right, prefix_short_length, OwnView, SharedView, StateView, MarksView, Place, own_place, shared_place, places, claims_of, handle_of, ways, rights_of, Grown, tree_of, Raising, marks_of, Stating, states_of, Has, HasOwn, Out, held_times, Tree, marks, Supported, Climbing, IsStated, AreStated, Meeting, Marked, goes_over, stays_here, now_shared, left_of, right_of, Parted}
use Rattle.psac_slots.specs.Claiming as claiming
use Rattle.psac_slots.proofs.Keeps as laws
use Rattle.psac_marks.proofs.Parts.{each_place, each_has, has_own, has_shared, here, place_own, place_shared}
use Rattle.psac_marks.proofs.Counted.{times_both, times_member, times_found, times_in, times_out}
use Rattle.psac_marks.proofs.Keeps.{drops_own, shared_kept}
use Rattle.psac_marks.proofs.Families.{below_own}
use Rattle.psac_marks.proofs.Climbs.{support_moves}
use Rattle.psac_marks.proofs.Holding.{branches_apart}

-- an index of a list of which an entry changed, and that has one more
split_at : {A : Type 0} (all : List A) (id : ℕ) (l r : A) (j : ℕ) (u : A) → get_elem? (set all id l ++ r ∷ []) j ≡ some u → ((l ≡ u) ⊎ (r ≡ u)) ⊎ ((j ≢ id) × (get_elem? all j ≡ some u))
split_at all id l r j u e = ⊎_elim
    (λ x. ⊎_elim
    (λ (p : (j ≡ id) × (l ≡ u)). inl (inl p.1))
    (λ (p : (j ≢ id) × (get_elem? all j ≡ some u)). inr p)
    (at_set all id j l u x))
    (λ (p : r ≡ u). inl (inr p))
    (at_snoc (set all id l) r u j e)

-- the entry that changed, the one that came, and the others
module _ {A : Type 0} (all : List A) (id : ℕ) (g l r : A) (at : get_elem? all id ≡ some g) where
  split_left : get_elem? (set all id l ++ r ∷ []) id ≡ some l
  split_left = at_longer (set all id l) (r ∷ []) id l (here all id g l at)

  split_right : get_elem? (set all id l ++ r ∷ []) (length (set all id l)) ≡ some r
  split_right = at_last (set all id l) r (length (set all id l)) refl

  split_other : (j : ℕ) (u : A) → j ≢ id → get_elem? all j ≡ some u → get_elem? (set all id l ++ r ∷ []) j ≡ some u
  split_other j u n e = at_longer (set all id l) (r ∷ []) j u (set_else all id j l n ∙ e)

abbrev pub Kept : List ℕ → Place → Type 0
Kept ds e = times e.node.slot ds ≡ 0

module _ (shared to_right : ℕ → Bool) (b : List Bool) (os : List OwnView) (ds : List ℕ) where
  -- a place of a side: one that no place of the pass's own is above, or shared from here on, or on that side
  abbrev pub From : List Place → Bool → Place → Type 0
  From gs t e = (Member e gs × (is_prefix b e.domain ≡ false)) ⊎ (((o : OwnView) × Member o os × (shared o.node.slot ≡ true) × (own_place b o ≡ e)) ⊎ ((o : OwnView) × Member o os × (shared o.node.slot ≡ false) × (to_right o.node.slot ≡ t) × (own_place (b ++ t ∷ []) o ≡ e)))

  -- what became of the branch below which a place is known
  abbrev pub Moved : List ℕ → Place → Place → Type 0
  Moved fs d e = ((e.domain ≡ d.domain) × (is_prefix b d.domain ≡ false)) ⊎ (((o : OwnView) × Member o os × (fs ≡ ds) × (own_place b o ≡ d) × (shared o.node.slot ≡ true) × (e.domain ≡ b))
      ⊎ ((o : OwnView) × (t : Bool) × Member o os × (fs ≡ ds) × (own_place b o ≡ d) × (shared o.node.slot ≡ false) × (to_right o.node.slot ≡ t) × (e.domain ≡ b ++ t ∷ [])))

  module _ (families : (o c : OwnView) → Member o os → Member c os → c.parent ≡ Some o.node.slot → times c.node.slot ds ≡ 0 → shared o.node.slot ≡ false → (shared c.node.slot ≡ false) × (to_right c.node.slot ≡ to_right o.node.slot)) where
    -- a place stays below its parent's
    moved : (fs gs : List ℕ) (d e c o : Place) → is_prefix c.domain d.domain ≡ true → d.parent ≡ Some c.node.slot → Kept fs d → Moved fs d e → Moved gs c o → is_prefix o.domain e.domain ≡ true
    moved fs gs d e c o p is kept (inl x) (inl y) = (λ i. is_prefix (y.0 i) (x.0 i)) ∙ p
    moved fs gs d e c o p is kept (inl x) (inr (inl y)) = (λ i. is_prefix ((y.5 ∙ ap (λ (z : Place). z.domain) y.3) i) (x.0 i)) ∙ p
    moved fs gs d e c o p is kept (inl x) (inr (inr y)) = absurd (true≢false (sym p ∙ (ap (λ (z : Place). is_prefix z.domain d.domain) (sym y.4) ∙ x.1)))
    moved fs gs d e c o p is kept (inr (inl x)) (inl y) = (λ i. is_prefix (y.0 i) ((x.5 ∙ ap (λ (z : Place). z.domain) x.3) i)) ∙ p
    moved fs gs d e c o p is kept (inr (inl x)) (inr (inl y)) = (λ i. is_prefix (y.5 i) (x.5 i)) ∙ prefix_refl b
    moved fs gs d e c o p is kept (inr (inl x)) (inr (inr y)) =
        let f = families y.0 x.0 y.2 x.1 (ap (λ (z : Place). z.parent) x.3 ∙ (is ∙ ap (λ (z : Place). Some z.node.slot) (sym y.4))) ((λ i. times (x.3 i).node.slot (sym x.2 i)) ∙ kept) y.5 in
        absurd (true≢false (sym x.4 ∙ f.0))
    moved fs gs d e c o p is kept (inr (inr x)) (inl y) =
        (λ i. is_prefix (y.0 i) (x.7 i)) ∙ prefix_long c.domain b x.1 (ap (λ (z : Place). is_prefix c.domain z.domain) x.4 ∙ p)
    moved fs gs d e c o p is kept (inr (inr x)) (inr (inl y)) = (λ i. is_prefix (y.5 i) (x.7 i)) ∙ prefix_long b b x.1 (prefix_refl b)
    moved fs gs d e c o p is kept (inr (inr x)) (inr (inr y)) =
        let f = families y.0 x.0 y.2 x.2 (ap (λ (z : Place). z.parent) x.4 ∙ (is ∙ ap (λ (z : Place). Some z.node.slot) (sym y.4))) ((λ i. times (x.4 i).node.slot (sym x.3 i)) ∙ kept) y.5 in
        let same : x.1 ≡ y.1 = sym x.6 ∙ (f.1 ∙ y.6) in
        (λ i. is_prefix (y.7 i) ((x.7 ∙ ap (λ t. b ++ t ∷ []) same) i)) ∙ prefix_refl (b ++ y.1 ∷ [])

    module _ (nodes : ℕ) (parent : ℕ → Option ℕ) (words : List ℕ) (all : List Grown) (h : Tree nodes parent words all) (id : ℕ) (gs lp rp : List Place) (lo ro : List OwnView) (ld rd : List ℕ) (gh : List Handle) where
      abbrev pub whole_tree : Grown
      whole_tree = record { own = os; places = gs; dropped = ds; held = gh }

      abbrev pub left_tree : Grown
      left_tree = record { own = lo; places = lp; dropped = ld; held = gh }

      abbrev pub right_tree : Grown
      right_tree = record { own = ro; places = rp; dropped = rd; held = [] }

      pub tree_splits : get_elem? all id ≡ some whole_tree
          → ((o : OwnView) → Member o os → Member (own_place b o) gs)
          → ((e : Place) → Member e lp → From gs false e × (Kept ld e → Kept ds e))
          → ((e : Place) → Member e rp → From gs true e × (Kept rd e → Kept ds e))
          → ((x : ℕ) → 0 < times x ld → HasOwn lo x) → ((x : ℕ) → 0 < times x rd → HasOwn ro x)
          → ((x : ℕ) → Has gs x → Has lp x ⊎ Has rp x)
          → ((j : ℕ) (u : Grown) (e : Place) → j ≢ id → get_elem? all j ≡ some u → Member e u.places → is_prefix b e.domain ≡ false)
          → Tree nodes parent words (set all id left_tree ++ right_tree ∷ [])
      tree_splits at mine on_left on_right left_own right_own has far =
          let l = left_tree in
          let r = right_tree in
          let mid = set all id l in
          let after = mid ++ r ∷ [] in
          let held : (x : ℕ) → held_times x after ≡ held_times x all = λ x.
          let a = sum_set (λ (k : Grown). slot_times x k.held) all id whole_tree l at in let c = sum_by_push (λ (k : Grown). slot_times x k.held) mid r in omega (arith, a, c) in
          let out : (x : Handle) → Out all x → Out after x = λ x o. ⊎_elim
          (λ (q : o.0 ≡ id). (id, l, split_left all id whole_tree l r at, subst (λ (k : Grown). Member x k.held) (some-injective o.1 whole_tree (sym o.2 ∙ (ap (get_elem? all) q ∙ at))) o.3))
          (λ n. (o.0, o.1, split_other all id whole_tree l r at o.0 o.1 n o.2, o.3))
          (cases_eq o.0 id) in
          let Came : Grown → Place → Type 0 = λ u e. (k : ℕ) × (w : Grown) × (d : Place) × (get_elem? all k ≡ some w) × Member d w.places × (e.node ≡ d.node) × (e.parent ≡ d.parent) × (Kept u.dropped e → Kept w.dropped d) × Moved w.dropped d e in
          let side : (u : Grown) (e : Place) (t : Bool) → From gs t e → (Kept u.dropped e → Kept ds e) → Came u e = λ u e t f kept. ⊎_elim
          (λ (p : Member e gs × (is_prefix b e.domain ≡ false)). (id, whole_tree, e, at, p.0, refl, refl, kept, inl (refl, p.1)))
          (λ y. ⊎_elim
          (λ (p : (o : OwnView) × Member o os × (shared o.node.slot ≡ true) × (own_place b o ≡ e)).
          (id, whole_tree, own_place b p.0, at, mine p.0 p.1, ap (λ (z : Place). z.node) (sym p.3), ap (λ (z : Place). z.parent) (sym p.3), (λ z. ap (λ (q : Place). times q.node.slot ds) p.3 ∙ kept z), inr (inl (p.0, p.1, refl, refl, p.2, ap (λ (z : Place). z.domain) (sym p.3)))))
          (λ (p : (o : OwnView) × Member o os × (shared o.node.slot ≡ false) × (to_right o.node.slot ≡ t) × (own_place (b ++ t ∷ []) o ≡ e)).
          (id, whole_tree, own_place b p.0, at, mine p.0 p.1, ap (λ (z : Place). z.node) (sym p.4), ap (λ (z : Place). z.parent) (sym p.4), (λ z. ap (λ (q : Place). times q.node.slot ds) p.4 ∙ kept z), inr (inr (p.0, t, p.1, refl, refl, p.2, p.3, ap (λ (z : Place). z.domain) (sym p.4)))))
          y)
          f in
          let came : (j : ℕ) (u : Grown) (e : Place) → get_elem? after j ≡ some u → Member e u.places → Came u e = λ j u e d m. ⊎_elim
          (λ y. ⊎_elim
          (λ (q : l ≡ u). let f = on_left e (subst (λ (k : Grown). Member e k.places) (sym q) m) in side u e false f.0 (subst (λ (k : Grown). Kept k.dropped e → Kept ds e) q f.1))
          (λ (q : r ≡ u). let f = on_right e (subst (λ (k : Grown). Member e k.places) (sym q) m) in side u e true f.0 (subst (λ (k : Grown). Kept k.dropped e → Kept ds e) q f.1))
          y)
          (λ (q : (j ≢ id) × (get_elem? all j ≡ some u)). (j, u, e, q.1, m, refl, refl, λ z. z, inl (refl, far j u e q.0 q.1 m)))
          (split_at all id l r j u d) in
          record {
            hung = h.hung;
            free = λ x z. h.free x (sym (held x) ∙ z);
            parents = λ j u e d m. let s = came j u e d m in ap (λ (x : Handle). parent x.slot) s.5 ∙ (h.parents s.0 s.1 s.2 s.3 s.4 ∙ sym s.6);
            out = λ j u e d m. let s = came j u e d m in subst (Out after) (sym s.5) (out s.2.node (h.out s.0 s.1 s.2 s.3 s.4));
            had = λ x p. let o = h.had x (let a = held x in omega (arith, a, p)) in ⊎_elim
                (λ (q : o.0 ≡ id). ⊎_elim
                (λ y. (id, l, split_left all id whole_tree l r at, y))
                (λ y. (length mid, r, split_right all id whole_tree l r at, y))
                (has x (subst (λ (k : Grown). Has k.places x) (some-injective o.1 whole_tree (sym o.2 ∙ (ap (get_elem? all) q ∙ at))) o.3)))
                (λ n. (o.0, o.1, split_other all id whole_tree l r at o.0 o.1 n o.2, o.3))
                (cases_eq o.0 id);
            dropped = λ j u x d p. ⊎_elim
                (λ y. ⊎_elim
                (λ (q : l ≡ u). subst (λ (k : Grown). HasOwn k.own x) q (left_own x (let z = ap (λ (k : Grown). times x k.dropped) q in omega (arith, z, p))))
                (λ (q : r ≡ u). subst (λ (k : Grown). HasOwn k.own x) q (right_own x (let z = ap (λ (k : Grown). times x k.dropped) q in omega (arith, z, p))))
                y)
                (λ (q : (j ≢ id) × (get_elem? all j ≡ some u)). h.dropped j u x q.1 p)
                (split_at all id l r j u d);
            above = λ j u e p d m kept is. let s = came j u e d m in let a = h.above s.0 s.1 s.2 p s.3 s.4 (s.7 kept) (sym s.6 ∙ is) in let c = held p in omega (arith, a, c);
            nested = λ i j u k e o di dj me mo kept is.
                let s = came i u e di me in
                let t = came j k o dj mo in
                let par = sym s.6 ∙ (is ∙ ap (λ (x : Handle). Some x.slot) t.5) in
                moved s.1.dropped t.1.dropped s.2 e t.2 o (h.nested s.0 t.0 s.1 t.1 s.2 t.2 s.3 t.3 s.4 t.4 (s.7 kept) par) par (s.7 kept) s.8 t.8;
          }

module _ (nodes : ℕ) (words : List ℕ) (all : List Raising) (h : Climbing nodes words all) (id : ℕ) (gs lp rp : List Place) (gd ld rd gm lm rm gb lb rb : List ℕ) where
  abbrev pub whole_marks : Raising
  whole_marks = record { places = gs; dropped = gd; marked = gm; busy = gb; climb = None }

  abbrev pub left_marks : Raising
  left_marks = record { places = lp; dropped = ld; marked = lm; busy = lb; climb = None }

  abbrev pub right_marks : Raising
  right_marks = record { places = rp; dropped = rd; marked = rm; busy = rb; climb = None }

  -- a place is one that was, with its node and parent
  abbrev pub Was : List ℕ → Place → Type 0
  Was ds e = (d : Place) × Member d gs × (e.node ≡ d.node) × (e.parent ≡ d.parent) × (Kept ds e → Kept gd d)

  pub climbs_splits : get_elem? all id ≡ some whole_marks
      → ((e : Place) → Member e lp → Was ld e) → ((e : Place) → Member e rp → Was rd e)
      → ((x : ℕ) → times x lm + times x rm ≡ times x gm)
      → ((x : ℕ) → 0 < times x lm → Has lp x) → ((x : ℕ) → 0 < times x rm → Has rp x)
      → ((x : ℕ) → 0 < times x lb → Has lp x × (0 < marks x all)) → ((x : ℕ) → 0 < times x rb → Has rp x × (0 < marks x all))
      → Climbing nodes words (set all id left_marks ++ right_marks ∷ [])
  climbs_splits at on_left on_right total left_has right_has left_busy right_busy =
      let l = left_marks in
      let r = right_marks in
      let mid = set all id l in
      let after = mid ++ r ∷ [] in
      let same : (x : ℕ) → marks x after ≡ marks x all = λ x.
      let a = sum_set (λ (k : Raising). times x k.marked) all id whole_marks l at in let c = sum_by_push (λ (k : Raising). times x k.marked) mid r in let t = total x in omega (arith, a, c, t) in
      let each : (F : Raising → Type 0) → F l → F r → ((j : ℕ) (u : Raising) → get_elem? all j ≡ some u → F u) → (j : ℕ) (u : Raising) → get_elem? after j ≡ some u → F u = λ F fl fr old.
      all_end (λ _ u. F u) mid r (all_set (λ _ u. F u) all id l fl (λ i k n d. old i k d)) (λ _. fr) in
      let support : (e : Place) → Supported all e → Supported after e = λ e. support_moves all after e (λ z p. let a = same z in omega (arith, a, p)) (λ j k d c. ⊎_elim
      (λ (q : j ≡ id). absurd (none_some e.node.slot (ap (λ (k : Raising). k.climb) (some-injective whole_marks k (sym at ∙ (ap (get_elem? all) (sym q) ∙ d))) ∙ c)))
      (λ n. inr (inr (j, k, split_other all id whole_marks l r at j k n d, c)))
      (cases_eq j id)) in
      let side : (ps : List Place) (ds : List ℕ) → ((e : Place) → Member e ps → Was ds e) → (c : Place) → Member c ps → times c.node.slot ds ≡ 0 → 0 < marks c.node.slot after → Supported after c = λ ps ds was c mc kc pc.
      let s = was c mc in
      let slot = ap (λ (x : Handle). x.slot) s.2 in
      let a = same c.node.slot in
      let z = ap (λ x. marks x all) slot in
      support c (subst (λ (x : Option ℕ × ℕ). (x.0 ≡ None) ⊎ (((p : ℕ) × (x.0 ≡ Some p) × (0 < marks p all)) ⊎ ((j : ℕ) × (k : Raising) × (get_elem? all j ≡ some k) × (k.climb ≡ Some x.1)))) (λ i. (sym s.3 i, sym slot i))
      (h.supported id whole_marks s.0 at s.1 (s.4 kc) (omega (arith, a, z, pc)))) in
      record {
        stored = λ x lt. h.stored x lt ∙ ap some (sym (same x));
        once = λ x. let a = same x in let c = h.once x in omega (arith, a, c);
        marked = λ j u x d p. each (λ k. (y : ℕ) → 0 < times y k.marked → Has k.places y) left_has right_has (λ i k e y q. h.marked i k y e q) j u d x p;
        busy = λ j u x d p. each (λ k. (y : ℕ) → 0 < times y k.busy → Has k.places y × (0 < marks y after))
            (λ y q. let o = left_busy y q in let a = same y in let z = o.1 in (o.0, omega (arith, a, z)))
            (λ y q. let o = right_busy y q in let a = same y in let z = o.1 in (o.0, omega (arith, a, z)))
            (λ i k e y q. let o = h.busy i k y e q in let a = same y in let z = o.1 in (o.0, omega (arith, a, z))) j u d x p;
        climb = λ j u x d p. each (λ k. (y : ℕ) → k.climb ≡ Some y → Has k.places y) (λ y q. absurd (none_some y q)) (λ y q. absurd (none_some y q)) (λ i k e y q. h.climb i k y e q) j u d x p;
        supported = λ j u e d m kept p. each (λ k. (c : Place) → Member c k.places → times c.node.slot k.dropped ≡ 0 → 0 < marks c.node.slot after → Supported after c)
            (side lp ld on_left) (side rp rd on_right)
            (λ i k f c mc kc pc. support c (h.supported i k c f mc kc (let a = same c.node.slot in omega (arith, a, pc)))) j u d e m kept p;
      }

states_splits : (nodes counter : ℕ) (list : List Handle) (words : List ℕ) (all : List Stating) (h : AreStated nodes counter list words all) (id : ℕ) (s : Stating) → get_elem? all id ≡ some s
    → AreStated nodes counter list words (set all id s ++ record { states = []; held = [] } ∷ [])
states_splits nodes counter list words all h id s at =
    let r : Stating = record { states = []; held = [] } in
    let each : (F : Stating → Type 0) → F s → F r → ((j : ℕ) (u : Stating) → get_elem? all j ≡ some u → F u) → (j : ℕ) (u : Stating) → get_elem? (set all id s ++ r ∷ []) j ≡ some u → F u = λ F fs fr old.
    all_end (λ _ u. F u) (set all id s) r (all_set (λ _ u. F u) all id s fs (λ i k n d. old i k d)) (λ _. fr) in
    record {
      known = λ j u x e m. each (λ k. (y : StateView) → Member y k.states → IsStated nodes words y) (λ y q. h.known id s y at q) (λ y q. absurd q) (λ i k d y q. h.known i k y d q) j u e x m;
      held_is = each (λ k. map handle_of k.states ≡ k.held) (h.held_is id s at) refl h.held_is;
      free = h.free;
    }

both_on : (a b : Bool) → a ≡ true → b ≡ true → (a && b) ≡ true
both_on true b p q = q
both_on false b p q = p

none_on : (a b : Bool) → (a && b) ≡ true → b ≡ false → ⊥
none_on true b p q = true≢false (sym p ∙ q)
none_on false b p q = true≢false (sym p)

-- an own node's side
module _ (shared to_right : ℕ → Bool) (v : MarksView) where
  -- an own node
  owned : (o : OwnView) → Member o v.own → ltb 0 (times o.node.slot (map ways.slot v.own)) ≡ true
  owned o m = let q = times_member o.node.slot (map ways.slot v.own) (map_member ways.slot o v.own m) in lt-ltb 0 (times o.node.slot (map ways.slot v.own)) (omega (arith, q))

  over : (o : OwnView) → Member o v.own → shared o.node.slot ≡ false → to_right o.node.slot ≡ true → goes_over shared to_right v o.node.slot ≡ true
  over o m s t = both_on _ _ (owned o m) (both_on _ _ (ap not s) t)

  stay : (o : OwnView) → Member o v.own → shared o.node.slot ≡ false → to_right o.node.slot ≡ false → stays_here shared to_right v o.node.slot ≡ true
  stay o m s t = both_on _ _ (owned o m) (both_on _ _ (ap not s) (ap not t))

  -- what goes over is an own node of the right
  over_own : (x : ℕ) → goes_over shared to_right v x ≡ true → HasOwn (right_of shared to_right v).own x
  over_own x e =
      let p = and_parts _ _ e in
      let m = member_slot x v.own (times_found x (map ways.slot v.own) (ltb-true 0 (times x (map ways.slot v.own)) p.0)) in
      (m.0, filter_member (goes ways shared to_right) m.0 v.own m.1 (ap (λ y. not (shared y) && to_right y) m.2 ∙ p.1), m.2)
    where
      member_slot : (x : ℕ) (os : List OwnView) → Member x (map ways.slot os) → HasOwn os x
      member_slot x os m = let q = Rattle.psac_slots.proofs.Pairs.member_map ways.slot x os m in (q.0, q.1, q.2)

  own_left : (o : OwnView) → Member o v.own → shared o.node.slot ≡ false → to_right o.node.slot ≡ false → Member o (left_of shared to_right v).own
  own_left o m s t = filter_member (stays ways shared to_right) o v.own m (both_on _ _ (ap not s) (ap not t))

  own_right : (o : OwnView) → Member o v.own → shared o.node.slot ≡ false → to_right o.node.slot ≡ true → Member o (right_of shared to_right v).own
  own_right o m s t = filter_member (goes ways shared to_right) o v.own m (both_on _ _ (ap not s) t)

  module _ (parted : Parted shared to_right v) (own : (x : ℕ) → 0 < times x v.dropped → HasOwn v.own x) where
    -- what is dropped on a side is that side's own
    pub left_dropped : (x : ℕ) → 0 < times x (left_of shared to_right v).dropped → HasOwn (left_of shared to_right v).own x
    left_dropped x p = ⊎_elim
        (λ (e : goes_over shared to_right v x ≡ true). let z = times_out (λ y. not (goes_over shared to_right v y)) x v.dropped (ap not e) in absurd (omega (arith, p, z)))
        (λ (e : goes_over shared to_right v x ≡ false).
        let some : 0 < times x v.dropped = omega (arith, p, times_in (λ y. not (goes_over shared to_right v y)) x v.dropped (ap not e)) in
        let o = own x some in
        let s : shared o.0.node.slot ≡ false = ap shared o.2 ∙ parted.dropped x some in
        (o.0, own_left o.0 o.1 s (⊎_elim (λ (t : to_right o.0.node.slot ≡ true). absurd (true≢false (sym (over o.0 o.1 s t) ∙ (ap (goes_over shared to_right v) o.2 ∙ e)))) (λ t. t) (cases_Bool (to_right o.0.node.slot))), o.2))
        (cases_Bool (goes_over shared to_right v x))

    pub right_dropped : (x : ℕ) → 0 < times x (right_of shared to_right v).dropped → HasOwn (right_of shared to_right v).own x
    right_dropped x p = ⊎_elim
        (λ (e : goes_over shared to_right v x ≡ true). over_own x e)
        (λ (e : goes_over shared to_right v x ≡ false). let z = times_out (goes_over shared to_right v) x v.dropped e in absurd (omega (arith, p, z)))
        (cases_Bool (goes_over shared to_right v x))

  module _ (parted : Parted shared to_right v) (kept : (s : SharedView) → Member s v.shared → times s.node.slot v.dropped ≡ 0) where
    -- a node that is shared from here on, or was, isn't dropped
    told_kept : (s : SharedView) → Member s (now_shared shared to_right v) → times s.node.slot v.dropped ≡ 0
    told_kept s m = ⊎_elim
        (λ q. kept s q)
        (λ (q : (w : OwnView) × Member w v.own × (shared w.node.slot ≡ true) × (ways.lend v.claims.branch w ≡ s)). ⊎_elim
        (λ (p : 0 < times s.node.slot v.dropped). absurd (true≢false (sym q.2 ∙ (ap (λ (z : SharedView). shared z.node.slot) q.3 ∙ parted.dropped s.node.slot p))))
        (λ z. omega (arith, z))
        (cases_lt 0 (times s.node.slot v.dropped)))
        (told_cases ways shared to_right (rights_of v) s m)

    -- so it isn't on a side
    pub side_kept : (p : ℕ → Bool) (s : SharedView) → Member s (now_shared shared to_right v) → times s.node.slot (filter p v.dropped) ≡ 0
    side_kept p s m = ⊎_elim
        (λ (e : p s.node.slot ≡ true). times_in p s.node.slot v.dropped e ∙ told_kept s m)
        (λ (e : p s.node.slot ≡ false). times_out p s.node.slot v.dropped e)
        (cases_Bool (p s.node.slot))

module _ (shared to_right : ℕ → Bool) (nodes : ℕ) (words : List ℕ) (views : List MarksView) (h : Marked nodes words views) (id : ℕ) (v : MarksView) (at : get_elem? views id ≡ some v) (parted : Parted shared to_right v) where
  abbrev pub l : MarksView
  l = left_of shared to_right v

  abbrev pub r : MarksView
  r = right_of shared to_right v

  abbrev pub b : List Bool
  b = v.claims.branch

  ar : get_elem? (map rights_of views) id ≡ some (rights_of v)
  ar = at_map rights_of views id v at

  told_old : (s : SharedView) → Member s v.shared → Member s (now_shared shared to_right v)
  told_old s m = member_left s v.shared (map (ways.lend b) (filter (lends ways shared to_right) v.own)) m

  told_lent : (o : OwnView) → Member o v.own → shared o.node.slot ≡ true → Member (ways.lend b o) (now_shared shared to_right v)
  told_lent o m s = member_right (ways.lend b o) v.shared (map (ways.lend b) (filter (lends ways shared to_right) v.own)) (map_member (ways.lend b) o (filter (lends ways shared to_right) v.own) (filter_member (lends ways shared to_right) o v.own m s))

  -- what becomes of a place: both sides have it, or one
  both_have : (x : ℕ) → Has (places v) x → ((Has (places l) x × Has (places r) x) ⊎ ((Has (places l) x × (stays_here shared to_right v x ≡ true)) ⊎ (Has (places r) x × (goes_over shared to_right v x ≡ true))))
  both_have = each_has v (λ x. (Has (places l) x × Has (places r) x) ⊎ ((Has (places l) x × (stays_here shared to_right v x ≡ true)) ⊎ (Has (places r) x × (goes_over shared to_right v x ≡ true))))
      (λ o m. ⊎_elim
      (λ (s : shared o.node.slot ≡ true). let t = told_lent o m s in inl (has_shared l (ways.lend b o) t, has_shared r (ways.lend b o) t))
      (λ (s : shared o.node.slot ≡ false). inr (⊎_elim
      (λ (t : to_right o.node.slot ≡ true). inr (has_own r o (own_right shared to_right v o m s t), over shared to_right v o m s t))
      (λ (t : to_right o.node.slot ≡ false). inl (has_own l o (own_left shared to_right v o m s t), stay shared to_right v o m s t))
      (cases_Bool (to_right o.node.slot))))
      (cases_Bool (shared o.node.slot)))
      (λ s m. inl (has_shared l s (told_old s m), has_shared r s (told_old s m)))

  has_sides : (x : ℕ) → Has (places v) x → Has (places l) x ⊎ Has (places r) x
  has_sides x has = ⊎_elim (λ p. inl p.0) (λ y. ⊎_elim (λ p. inl p.0) (λ p. inr p.0) y) (both_have x has)

  -- what doesn't go over the left has
  left_has : (x : ℕ) → Has (places v) x → goes_over shared to_right v x ≡ false → Has (places l) x
  left_has x has e = ⊎_elim (λ p. p.0) (λ y. ⊎_elim (λ p. p.0) (λ p. absurd (true≢false (sym p.1 ∙ e))) y) (both_have x has)

  right_has : (x : ℕ) → Has (places v) x → stays_here shared to_right v x ≡ false → Has (places r) x
  right_has x has e = ⊎_elim (λ p. p.1) (λ y. ⊎_elim (λ p. absurd (true≢false (sym p.1 ∙ e))) (λ p. p.0) y) (both_have x has)

  over_has : (x : ℕ) → goes_over shared to_right v x ≡ true → Has (places r) x
  over_has x e = let o = over_own shared to_right v x e in (own_place r.claims.branch o.0, place_own r o.0 o.1, o.2)

  told_from : (t : Bool) (s : SharedView) → Member s (now_shared shared to_right v) → From shared to_right b v.own v.dropped (places v) t (shared_place s)
  told_from t s m = ⊎_elim
      (λ p. inl (place_shared v s p, ⊎_elim (λ (q : is_prefix b s.label ≡ true). let a = prefix_short_length b s.label q in let k = ((h.rights.own id (rights_of v) ar).labels s p).1 in absurd (omega (arith, a, k))) (λ q. q) (cases_Bool (is_prefix b s.label))))
      (λ (p : (w : OwnView) × Member w v.own × (shared w.node.slot ≡ true) × (ways.lend b w ≡ s)). inr (inl (p.0, p.1, p.2, ap shared_place p.3)))
      (told_cases ways shared to_right (rights_of v) s m)

  on_the_left : (e : Place) → Member e (places l) → From shared to_right b v.own v.dropped (places v) false e × (Kept l.dropped e → Kept v.dropped e)
  on_the_left = each_place l (λ e. From shared to_right b v.own v.dropped (places v) false e × (Kept l.dropped e → Kept v.dropped e))
      (λ o m. let q = on_left ways shared to_right (rights_of v) o m in (
        inr (inr (o, q.0, q.1, q.2, refl)),
        λ z. let off_here : goes_over shared to_right v o.node.slot ≡ false = ⊎_elim (λ (t : goes_over shared to_right v o.node.slot ≡ true). absurd (none_on _ _ (and_parts _ _ t).1 q.2)) (λ t. t) (cases_Bool (goes_over shared to_right v o.node.slot)) in
            sym (times_in (λ y. not (goes_over shared to_right v y)) o.node.slot v.dropped (ap not off_here)) ∙ z,
      ))
      (λ s m. (told_from false s m, λ _. told_kept shared to_right v parted (shared_kept nodes words views h id v at) s m))

  on_the_right : (e : Place) → Member e (places r) → From shared to_right b v.own v.dropped (places v) true e × (Kept r.dropped e → Kept v.dropped e)
  on_the_right = each_place r (λ e. From shared to_right b v.own v.dropped (places v) true e × (Kept r.dropped e → Kept v.dropped e))
      (λ o m. let q = on_right ways shared to_right (rights_of v) o m in
      (inr (inr (o, q.0, q.1, q.2, refl)), λ z. sym (times_in (goes_over shared to_right v) o.node.slot v.dropped (over shared to_right v o q.0 q.1 q.2)) ∙ z))
      (λ s m. (told_from true s m, λ _. told_kept shared to_right v parted (shared_kept nodes words views h id v at) s m))

  -- and so each place is one that was
  was : (ds : List ℕ) (t : Bool) (e : Place) → From shared to_right b v.own v.dropped (places v) t e → (Kept ds e → Kept v.dropped e) → (d : Place) × Member d (places v) × (e.node ≡ d.node) × (e.parent ≡ d.parent) × (Kept ds e → Kept v.dropped d)
  was ds t e f kept = ⊎_elim
      (λ (p : Member e (places v) × (is_prefix b e.domain ≡ false)). (e, p.0, refl, refl, kept))
      (λ y. ⊎_elim
      (λ (p : (o : OwnView) × Member o v.own × (shared o.node.slot ≡ true) × (own_place b o ≡ e)).
      (own_place b p.0, place_own v p.0 p.1, ap (λ (z : Place). z.node) (sym p.3), ap (λ (z : Place). z.parent) (sym p.3), (λ z. ap (λ (q : Place). times q.node.slot v.dropped) p.3 ∙ kept z)))
      (λ (p : (o : OwnView) × Member o v.own × (shared o.node.slot ≡ false) × (to_right o.node.slot ≡ t) × (own_place (b ++ t ∷ []) o ≡ e)).
      (own_place b p.0, place_own v p.0 p.1, ap (λ (z : Place). z.node) (sym p.4), ap (λ (z : Place). z.parent) (sym p.4), (λ z. ap (λ (q : Place). times q.node.slot v.dropped) p.4 ∙ kept z)))
      y)
      f

  -- what is known to be marked after the split was marked, or known to be
  busy_was : (p : ℕ → Bool) (x : ℕ) → 0 < times x (filter p (v.busy ++ v.marked)) → (p x ≡ true) × Has (places v) x × (0 < marks x (map marks_of views))
  busy_was p x q = ⊎_elim
      (λ (e : p x ≡ true).
      let z = times_in p x (v.busy ++ v.marked) e in
      let a = times_both x v.busy v.marked in
      ⊎_elim
      (λ (k : 0 < times x v.marked). (e, h.climbs.marked id (marks_of v) x (at_map marks_of views id v at) k, (let s = Rattle.psac_slots.proofs.Sums.sum_at (λ (u : Raising). times x u.marked) (map marks_of views) id (marks_of v) (at_map marks_of views id v at) in omega (arith, s, k))))
      (λ (k : times x v.marked ≤ 0). let o = h.climbs.busy id (marks_of v) x (at_map marks_of views id v at) (omega (arith, z, a, q, k)) in (e, o.0, o.1))
      (cases_lt 0 (times x v.marked)))
      (λ (e : p x ≡ false). let z = times_out p x (v.busy ++ v.marked) e in absurd (omega (arith, z, q)))
      (cases_Bool (p x))

  marked_was : (p : ℕ → Bool) (x : ℕ) → 0 < times x (filter p v.marked) → (p x ≡ true) × Has (places v) x
  marked_was p x q = ⊎_elim
      (λ (e : p x ≡ true). let z = times_in p x v.marked e in (e, h.climbs.marked id (marks_of v) x (at_map marks_of views id v at) (omega (arith, z, q))))
      (λ (e : p x ≡ false). let z = times_out p x v.marked e in absurd (omega (arith, z, q)))
      (cases_Bool (p x))

  total : (x : ℕ) → times x l.marked + times x r.marked ≡ times x v.marked
  total x = ⊎_elim
      (λ (e : goes_over shared to_right v x ≡ true). let a = times_in (goes_over shared to_right v) x v.marked e in let c = times_out (λ y. not (goes_over shared to_right v y)) x v.marked (ap not e) in omega (arith, a, c))
      (λ (e : goes_over shared to_right v x ≡ false). let a = times_out (goes_over shared to_right v) x v.marked e in let c = times_in (λ y. not (goes_over shared to_right v y)) x v.marked (ap not e) in omega (arith, a, c))
      (cases_Bool (goes_over shared to_right v x))

  module _ (live : v.claims.live ≡ true) where
    -- no other pass's node lies below the branch
    far : (j : ℕ) (u : MarksView) (e : Place) → j ≢ id → get_elem? views j ≡ some u → Member e (places u) → is_prefix b e.domain ≡ false
    far j u e n d m = ⊎_elim (λ (p : is_prefix b e.domain ≡ true). absurd (n (below_own nodes words views h id v at live j u e d m p).0)) (λ p. p) (cases_Bool (is_prefix b e.domain))

    split_mapped : {P : Type 0} (f : MarksView → P) (F : List P → Type 0) → F (set (map f views) id (f l) ++ f r ∷ []) → F (map f (set views id l ++ r ∷ []))
    split_mapped f F = subst F (sym (map-append f (set views id l) (r ∷ []) ∙ ap (λ z. z ++ f r ∷ []) (map-set f views id l)))

    pub splits_at : v.claims.over ≡ 0 → length v.claims.branch < 62 → v.climb ≡ None → Marked nodes words (set views id (left_of shared to_right v) ++ right_of shared to_right v ∷ [])
    splits_at none short idle = record {
      counter = h.counter;
      head = h.head;
      list = h.list;
      parent = h.parent;
      long = h.long;
      claims = split_mapped claims_of (claiming.Claimed nodes h.counter h.head h.list words)
          (laws.splits_at nodes h.counter h.head h.list words (map claims_of views) h.claims id v.claims (at_map claims_of views id v at) live none short);
      rights = split_mapped rights_of (Divided ways)
          (subst (λ t. Divided ways (set (map rights_of views) id (rights_of l) ++ record { live = t; branch = v.claims.branch ++ true ∷ []; alone = r.own; shared = r.shared } ∷ [])) live
          (divides ways shared to_right (map rights_of views) id (rights_of v) h.rights ar live
          (λ j s n e ls. let q = at_mapped rights_of views j s e in subst (λ (z : Rights OwnView SharedView). (is_prefix v.claims.branch z.branch ≡ false) × (is_prefix z.branch v.claims.branch ≡ false)) q.2
          (let lu = ap (λ (z : Rights OwnView SharedView). z.live) q.2 ∙ ls in (branches_apart nodes words views h id j v q.0 at q.1 (λ p. n (sym p)) live lu, branches_apart nodes words views h j id q.0 v q.1 at n lu live)))));
      tree = split_mapped tree_of (Tree nodes h.parent words)
          (tree_splits shared to_right b v.own v.dropped parted.families nodes h.parent words (map tree_of views) h.tree id (places v) (places l) (places r) l.own r.own l.dropped r.dropped v.claims.held
          (at_map tree_of views id v at) (λ o m. place_own v o m) on_the_left on_the_right (left_dropped shared to_right v parted (drops_own nodes words views h id v at)) (right_dropped shared to_right v parted (drops_own nodes words views h id v at)) has_sides
          (λ j g e n d m. let q = at_mapped tree_of views j g d in far j q.0 e n q.1 (subst (λ (k : Grown). Member e k.places) (sym q.2) m)));
      climbs = split_mapped marks_of (Climbing nodes words)
          (subst (λ c. Climbing nodes words (set (map marks_of views) id (record { places = places l; dropped = l.dropped; marked = l.marked; busy = l.busy; climb = c }) ++ marks_of r ∷ [])) (sym idle)
          (climbs_splits nodes words (map marks_of views) h.climbs id (places v) (places l) (places r) v.dropped l.dropped r.dropped v.marked l.marked r.marked v.busy l.busy r.busy
          (at_map marks_of views id v at ∙ ap (λ c. some (record { places = places v; dropped = v.dropped; marked = v.marked; busy = v.busy; climb = c })) idle)
          (λ e m. let f = on_the_left e m in was l.dropped false e f.0 f.1)
          (λ e m. let f = on_the_right e m in was r.dropped true e f.0 f.1)
          total
          (λ x p. let q = marked_was (λ y. not (goes_over shared to_right v y)) x p in left_has x q.1 (is_off (goes_over shared to_right v x) q.0))
          (λ x p. over_has x (marked_was (goes_over shared to_right v) x p).0)
          (λ x p. let q = busy_was (λ y. not (goes_over shared to_right v y)) x p in (left_has x q.1 (is_off (goes_over shared to_right v x) q.0), q.2))
          (λ x p. let q = busy_was (λ y. not (stays_here shared to_right v y)) x p in (right_has x q.1 (is_off (stays_here shared to_right v x) q.0), q.2))));
      states = split_mapped states_of (AreStated nodes h.counter h.list words) (states_splits nodes h.counter h.list words (map states_of views) h.states id (states_of v) (at_map states_of views id v at));
      met = one_after (λ (u : MarksView). IfSome u.met Meeting) views id l r h.met tt tt;
    }
