-- Joins keep the rule.
use Rattle.psac_marks.proofs.Terms.{◌≡◌, ◌≢◌, ◌⊎◌, ℕ, ◌<◌, ◌≤◌, List, [], ◌∷◌, ◌++◌, map, length, set, Bool, true, false, true≢false, refl, sym, ap, ◌∙◌, subst, inl, inr, ⊎_elim, arith, Option, Some, None, length-append, cond, at_mapped, none_some, filter, not, ◌==◌, IfSome, sum_by-append, map-append, map-set, cases_eq, cases_Bool, cases_lt, some, some-injective, get_elem?, at_map, at_set, set_else, Handle, is_prefix, stem, Member, slot_times, times, Rights, Divided, above, comes_back, sum_set, all_set, prefix_refl, stem_push, member_left, member_right, member_cases, filter_member, map_member, Strangers, unites, alone_cases, is_above, shared_same, meets, prefix_cut, prefix_whole, prefix_short_length, prefix_through, OwnView, SharedView, StateView, MarksView, Place, own_place, shared_place, places, claims_of, handle_of, ways, rights_of, Grown, tree_of, Raising, marks_of, Stating, states_of, Has, HasOwn, Out, held_times, Tree, marks, Supported, Climbing, IsStated, AreStated, Meeting, Marked, Lacks, joined, met, spent, United}
use Rattle.psac_slots.specs.Claiming as claiming
use Rattle.psac_slots.proofs.Keeps as laws
use Rattle.psac_marks.proofs.Parts.{each_place, each_has, has_own, has_shared, here, place_own, place_shared}
use Rattle.psac_marks.proofs.Counted.{times_both}
use Rattle.psac_marks.proofs.Climbs.{support_moves}
use Rattle.psac_marks.proofs.Holding.{has_live, branches_apart}

-- a branch below which a node is known stays where it isn't on either side, and else becomes the branch that a join gives
abbrev pub Change : List Bool → List Bool → List Bool → Type 0
Change b x y = ((y ≡ x) × ((t : Bool) → is_prefix (b ++ t ∷ []) x ≡ false)) ⊎ ((t : Bool) × (x ≡ b ++ t ∷ []) × (y ≡ b))

-- and prefixes stay prefixes
changed : (b x y x' y' : List Bool) → is_prefix x y ≡ true → Change b x x' → Change b y y' → is_prefix x' y' ≡ true
changed b x y x' y' p (inl c) (inl d) = (λ i. is_prefix (c.0 i) (d.0 i)) ∙ p
changed b x y x' y' p (inr c) (inl d) = absurd (true≢false (sym p ∙ (ap (λ z. is_prefix z y) c.1 ∙ d.1 c.0)))
changed b x y x' y' p (inr c) (inr d) = (λ i. is_prefix (c.2 i) (d.2 i)) ∙ prefix_refl b
changed b x y x' y' p (inl c) (inr d) =
    let q : is_prefix x (b ++ d.0 ∷ []) ≡ true = ap (is_prefix x) (sym d.1) ∙ p in
    (λ i. is_prefix (c.0 i) (d.2 i)) ∙ ⊎_elim
    (λ (s : length b < length x). let e = prefix_whole x (b ++ d.0 ∷ []) q (omega (arith, length-append b (d.0 ∷ []), s)) in absurd (true≢false (sym (prefix_refl x) ∙ (ap (λ z. is_prefix z x) e ∙ c.1 d.0))))
    (λ (s : length x ≤ length b). prefix_cut x b d.0 q s)
    (cases_lt (length b) (length x))

-- a place of a join is one of a side, with its node and parent
abbrev pub Source : List Bool → List Place → List Place → Place → Type 0
Source b gs fs e = (d : Place) × (Member d gs ⊎ Member d fs) × (e.node ≡ d.node) × (e.parent ≡ d.parent) × Change b d.domain e.domain

-- an index of a list of which two entries changed
two_set : {A : Type 0} (all : List A) (id other : ℕ) (m n : A) (j : ℕ) (u : A) → get_elem? (set (set all id m) other n) j ≡ some u
    → ((j ≡ other) × (n ≡ u)) ⊎ (((j ≡ id) × (m ≡ u)) ⊎ ((j ≢ other) × (j ≢ id) × (get_elem? all j ≡ some u)))
two_set all id other m n j u e = ⊎_elim
    (λ (p : (j ≡ other) × (n ≡ u)). inl p)
    (λ (p : (j ≢ other) × (get_elem? (set all id m) j ≡ some u)). inr (⊎_elim
    (λ (q : (j ≡ id) × (m ≡ u)). inl q)
    (λ (q : (j ≢ id) × (get_elem? all j ≡ some u)). inr (p.0, q.0, q.1))
    (at_set all id j m u p.1)))
    (at_set (set all id m) other j n u e)

abbrev pub no_tree : Grown
no_tree = record { own = []; places = []; dropped = []; held = [] }

abbrev pub no_marks : Raising
no_marks = record { places = []; dropped = []; marked = []; busy = []; climb = None }

abbrev pub no_states : Stating
no_states = record { states = []; held = [] }

module _ (b : List Bool) (ps gs fs : List Place) (id other : ℕ) (two : other ≢ id) (cases : (e : Place) → Member e ps → Source b gs fs e) (from_left : (x : ℕ) → Has gs x → Has ps x) (from_right : (x : ℕ) → Has fs x → Has ps x) where
  module _ (nodes : ℕ) (parent : ℕ → Option ℕ) (words : List ℕ) (all : List Grown) (h : Tree nodes parent words all) (go fo os : List OwnView) (gd fd : List ℕ) (gh fh : List Handle) where
    abbrev pub left_tree : Grown
    left_tree = record { own = go; places = gs; dropped = gd; held = gh }

    abbrev pub right_tree : Grown
    right_tree = record { own = fo; places = fs; dropped = fd; held = fh }

    abbrev pub both_tree : Grown
    both_tree = record { own = os; places = ps; dropped = gd ++ fd; held = gh ++ fh }

    pub tree_joins : get_elem? all id ≡ some left_tree → get_elem? all other ≡ some right_tree
        → ((o : OwnView) → Member o go → Member o os) → ((o : OwnView) → Member o fo → Member o os)
        → ((j : ℕ) (u : Grown) (e : Place) → j ≢ id → j ≢ other → get_elem? all j ≡ some u → Member e u.places → (t : Bool) → is_prefix (b ++ t ∷ []) e.domain ≡ false)
        → Tree nodes parent words (set (set all id both_tree) other no_tree)
    tree_joins at was own_left own_right far =
        let m = both_tree in
        let mid = set all id m in
        let after = set mid other no_tree in
        let there : get_elem? mid other ≡ some right_tree = set_else all id other m two ∙ was in
        let mine : get_elem? after id ≡ some m = set_else mid other id no_tree (λ p. two (sym p)) ∙ here all id left_tree m at in
        let held : (x : ℕ) → held_times x after ≡ held_times x all = λ x.
        let a = sum_set (λ (k : Grown). slot_times x k.held) all id left_tree m at in let c = sum_set (λ (k : Grown). slot_times x k.held) mid other right_tree no_tree there in
        let d = sum_by-append (λ (y : Handle). cond (y.slot == x) 1 0) gh fh in omega (arith, a, c, d) in
        let out : (x : Handle) → Out all x → Out after x = λ x o. ⊎_elim
        (λ (q : o.0 ≡ id). (id, m, mine, member_left x gh fh (subst (λ (k : Grown). Member x k.held) (some-injective o.1 left_tree (sym o.2 ∙ (ap (get_elem? all) q ∙ at))) o.3)))
        (λ n. ⊎_elim
        (λ (q : o.0 ≡ other). (id, m, mine, member_right x gh fh (subst (λ (k : Grown). Member x k.held) (some-injective o.1 right_tree (sym o.2 ∙ (ap (get_elem? all) q ∙ was))) o.3)))
        (λ k. (o.0, o.1, set_else mid other o.0 no_tree k ∙ (set_else all id o.0 m n ∙ o.2), o.3))
        (cases_eq o.0 other))
        (cases_eq o.0 id) in
        let From : Grown → Place → Type 0 = λ u e. (k : ℕ) × (w : Grown) × (d : Place) × (get_elem? all k ≡ some w) × Member d w.places × (e.node ≡ d.node) × (e.parent ≡ d.parent) × (times e.node.slot u.dropped ≡ 0 → times d.node.slot w.dropped ≡ 0) × Change b d.domain e.domain in
        let from : (j : ℕ) (u : Grown) (e : Place) → get_elem? after j ≡ some u → Member e u.places → From u e = λ j u e d mem. ⊎_elim
        (λ (q : (j ≡ other) × (no_tree ≡ u)). absurd (subst (λ (k : Grown). Member e k.places) (sym q.1) mem))
        (λ y. ⊎_elim
        (λ (q : (j ≡ id) × (m ≡ u)).
        let s = cases e (subst (λ (k : Grown). Member e k.places) (sym q.1) mem) in
        let drop : times e.node.slot u.dropped ≡ 0 → (times s.0.node.slot gd ≡ 0) × (times s.0.node.slot fd ≡ 0) = λ z.
        let a = times_both s.0.node.slot gd fd in let c : times s.0.node.slot (gd ++ fd) ≡ 0 = (λ i. times (sym s.2 i).slot (q.1 i).dropped) ∙ z in (omega (arith, a, c), omega (arith, a, c)) in
        ⊎_elim
        (λ p. (id, left_tree, s.0, at, p, s.2, s.3, λ z. (drop z).0, s.4))
        (λ p. (other, right_tree, s.0, was, p, s.2, s.3, λ z. (drop z).1, s.4))
        s.1)
        (λ (q : (j ≢ other) × (j ≢ id) × (get_elem? all j ≡ some u)). (j, u, e, q.2, mem, refl, refl, λ z. z, inl (refl, far j u e q.1 q.0 q.2 mem)))
        y)
        (two_set all id other m no_tree j u d) in
        record {
          hung = h.hung;
          free = λ x z. h.free x (sym (held x) ∙ z);
          parents = λ j u e d mem. let s = from j u e d mem in ap (λ (x : Handle). parent x.slot) s.5 ∙ (h.parents s.0 s.1 s.2 s.3 s.4 ∙ sym s.6);
          out = λ j u e d mem. let s = from j u e d mem in subst (Out after) (sym s.5) (out s.2.node (h.out s.0 s.1 s.2 s.3 s.4));
          had = λ x p. let o = h.had x (let a = held x in omega (arith, a, p)) in ⊎_elim
              (λ (q : o.0 ≡ id). (id, m, mine, from_left x (subst (λ (k : Grown). Has k.places x) (some-injective o.1 left_tree (sym o.2 ∙ (ap (get_elem? all) q ∙ at))) o.3)))
              (λ n. ⊎_elim
              (λ (q : o.0 ≡ other). (id, m, mine, from_right x (subst (λ (k : Grown). Has k.places x) (some-injective o.1 right_tree (sym o.2 ∙ (ap (get_elem? all) q ∙ was))) o.3)))
              (λ k. (o.0, o.1, set_else mid other o.0 no_tree k ∙ (set_else all id o.0 m n ∙ o.2), o.3))
              (cases_eq o.0 other))
              (cases_eq o.0 id);
          dropped = λ j u x d p. ⊎_elim
              (λ (q : (j ≡ other) × (no_tree ≡ u)). let z = ap (λ (k : Grown). times x k.dropped) q.1 in absurd (omega (arith, p, z)))
              (λ y. ⊎_elim
              (λ (q : (j ≡ id) × (m ≡ u)). subst (λ (k : Grown). HasOwn k.own x) q.1 (⊎_elim
              (λ (c : 0 < times x gd). let o = h.dropped id left_tree x at c in (o.0, own_left o.0 o.1, o.2))
              (λ (c : times x gd ≤ 0). let z = ap (λ (k : Grown). times x k.dropped) q.1 in let a = times_both x gd fd in let o = h.dropped other right_tree x was (omega (arith, c, z, a, p)) in (o.0, own_right o.0 o.1, o.2))
              (cases_lt 0 (times x gd))))
              (λ (q : (j ≢ other) × (j ≢ id) × (get_elem? all j ≡ some u)). h.dropped j u x q.2 p)
              y)
              (two_set all id other m no_tree j u d);
          above = λ j u e p d mem kept is. let s = from j u e d mem in let a = h.above s.0 s.1 s.2 p s.3 s.4 (s.7 kept) (sym s.6 ∙ is) in let c = held p in omega (arith, a, c);
          nested = λ i j u k e o di dj me mo kept is.
              let s = from i u e di me in
              let r = from j k o dj mo in
              changed b r.2.domain s.2.domain o.domain e.domain (h.nested s.0 r.0 s.1 r.1 s.2 r.2 s.3 r.3 s.4 r.4 (s.7 kept) (sym s.6 ∙ (is ∙ ap (λ (x : Handle). Some x.slot) r.5))) r.8 s.8;
        }

  module _ (nodes : ℕ) (words : List ℕ) (all : List Raising) (h : Climbing nodes words all) (gd fd gm fm gb fb : List ℕ) where
    abbrev pub left_marks : Raising
    left_marks = record { places = gs; dropped = gd; marked = gm; busy = gb; climb = None }

    abbrev pub right_marks : Raising
    right_marks = record { places = fs; dropped = fd; marked = fm; busy = fb; climb = None }

    abbrev pub both_marks : Raising
    both_marks = record { places = ps; dropped = gd ++ fd; marked = gm ++ fm; busy = gb ++ fb; climb = None }

    pub climbs_joins : get_elem? all id ≡ some left_marks → get_elem? all other ≡ some right_marks → Climbing nodes words (set (set all id both_marks) other no_marks)
    climbs_joins at was =
        let m = both_marks in
        let mid = set all id m in
        let after = set mid other no_marks in
        let there : get_elem? mid other ≡ some right_marks = set_else all id other m two ∙ was in
        let same : (x : ℕ) → marks x after ≡ marks x all = λ x.
        let a = sum_set (λ (k : Raising). times x k.marked) all id left_marks m at in let c = sum_set (λ (k : Raising). times x k.marked) mid other right_marks no_marks there in let d = times_both x gm fm in omega (arith, a, c, d) in
        let each : (F : Raising → Type 0) → F m → F no_marks → ((j : ℕ) (u : Raising) → get_elem? all j ≡ some u → F u) → (j : ℕ) (u : Raising) → get_elem? after j ≡ some u → F u = λ F fm' fn old.
        all_set (λ _ u. F u) mid other no_marks fn (λ j u n e. all_set (λ _ u. F u) all id m fm' (λ i k o d. old i k d) j u e) in
        let support : (e : Place) → Supported all e → Supported after e = λ e. support_moves all after e (λ z p. let a = same z in omega (arith, a, p)) (λ j r d c. ⊎_elim
        (λ (q : j ≡ id). absurd (none_some e.node.slot (ap (λ (k : Raising). k.climb) (some-injective left_marks r (sym at ∙ (ap (get_elem? all) (sym q) ∙ d))) ∙ c)))
        (λ n. ⊎_elim
        (λ (q : j ≡ other). absurd (none_some e.node.slot (ap (λ (k : Raising). k.climb) (some-injective right_marks r (sym was ∙ (ap (get_elem? all) (sym q) ∙ d))) ∙ c)))
        (λ k. inr (inr (j, r, set_else mid other j no_marks k ∙ (set_else all id j m n ∙ d), c)))
        (cases_eq j other))
        (cases_eq j id)) in
        record {
          stored = λ x lt. h.stored x lt ∙ ap some (sym (same x));
          once = λ x. let a = same x in let c = h.once x in omega (arith, a, c);
          marked = λ j u x d p. each (λ k. (y : ℕ) → 0 < times y k.marked → Has k.places y)
              (λ y q. ⊎_elim
              (λ (c : 0 < times y gm). from_left y (h.marked id left_marks y at c))
              (λ (c : times y gm ≤ 0). let a = times_both y gm fm in from_right y (h.marked other right_marks y was (omega (arith, a, c, q))))
              (cases_lt 0 (times y gm)))
              (λ y q. absurd (omega (arith, q)))
              (λ i k e y q. h.marked i k y e q) j u d x p;
          busy = λ j u x d p. each (λ k. (y : ℕ) → 0 < times y k.busy → Has k.places y × (0 < marks y after))
              (λ y q. ⊎_elim
              (λ (c : 0 < times y gb). let o = h.busy id left_marks y at c in let a = same y in let z = o.1 in (from_left y o.0, omega (arith, a, z)))
              (λ (c : times y gb ≤ 0). let t = times_both y gb fb in let o = h.busy other right_marks y was (omega (arith, t, c, q)) in let a = same y in let z = o.1 in (from_right y o.0, omega (arith, a, z)))
              (cases_lt 0 (times y gb)))
              (λ y q. absurd (omega (arith, q)))
              (λ i k e y q. let o = h.busy i k y e q in let a = same y in let z = o.1 in (o.0, omega (arith, a, z))) j u d x p;
          climb = λ j u x d p. each (λ k. (y : ℕ) → k.climb ≡ Some y → Has k.places y) (λ y q. absurd (none_some y q)) (λ y q. absurd (none_some y q)) (λ i k e y q. h.climb i k y e q) j u d x p;
          supported = λ j u e d mem kept p. each (λ k. (c : Place) → Member c k.places → times c.node.slot k.dropped ≡ 0 → 0 < marks c.node.slot after → Supported after c)
              (λ c mc kc pc.
              let s = cases c mc in
              let slot = ap (λ (x : Handle). x.slot) s.2 in
              let a = same c.node.slot in
              let z = ap (λ x. marks x all) slot in
              let t = times_both c.node.slot gd fd in
              let tg = ap (λ x. times x gd) slot in
              let tf = ap (λ x. times x fd) slot in
              -- the support of the side's place is that of this one
              let back : Supported all s.0 → Supported after c = λ y. support c (subst (λ (x : Option ℕ × ℕ). (x.0 ≡ None) ⊎ (((p : ℕ) × (x.0 ≡ Some p) × (0 < marks p all)) ⊎ ((j : ℕ) × (r : Raising) × (get_elem? all j ≡ some r) × (r.climb ≡ Some x.1)))) (λ i. (sym s.3 i, sym slot i)) y) in
              ⊎_elim
              (λ q. back (h.supported id left_marks s.0 at q (omega (arith, t, tg, kc)) (omega (arith, a, z, pc))))
              (λ q. back (h.supported other right_marks s.0 was q (omega (arith, t, tf, kc)) (omega (arith, a, z, pc))))
              s.1)
              (λ c mc kc pc. absurd mc)
              (λ i k f c mc kc pc. support c (h.supported i k c f mc kc (let a = same c.node.slot in omega (arith, a, pc)))) j u d e mem kept p;
        }

states_joins : (nodes counter : ℕ) (list : List Handle) (words : List ℕ) (all : List Stating) (h : AreStated nodes counter list words all) (id other : ℕ) (s t : Stating) → get_elem? all id ≡ some s → get_elem? all other ≡ some t
    → AreStated nodes counter list words (set (set all id (record { states = s.states ++ t.states; held = s.held ++ t.held })) other no_states)
states_joins nodes counter list words all h id other s t at was =
    let m : Stating = record { states = s.states ++ t.states; held = s.held ++ t.held } in
    let each : (F : Stating → Type 0) → F m → F no_states → ((j : ℕ) (u : Stating) → get_elem? all j ≡ some u → F u) → (j : ℕ) (u : Stating) → get_elem? (set (set all id m) other no_states) j ≡ some u → F u = λ F fm' fn old.
    all_set (λ _ u. F u) (set all id m) other no_states fn (λ j u n e. all_set (λ _ u. F u) all id m fm' (λ i k o d. old i k d) j u e) in
    record {
      known = λ j u x e mem. each (λ k. (y : StateView) → Member y k.states → IsStated nodes words y)
          (λ y q. ⊎_elim (λ c. h.known id s y at c) (λ c. h.known other t y was c) (member_cases y s.states t.states q))
          (λ y q. absurd q) (λ i k d y q. h.known i k y d q) j u e x mem;
      held_is = each (λ k. map handle_of k.states ≡ k.held) (map-append handle_of s.states t.states ∙ (λ i. h.held_is id s at i ++ h.held_is other t was i)) refl h.held_is;
      free = h.free;
    }

-- what both sides have together
module _ (v w : MarksView) where
  pub own_left : (o : OwnView) → Member o v.own → Member o (joined v w).own
  own_left o m = member_left o (v.own ++ w.own) (map ways.back (filter (comes_back ways (stem v.claims.branch)) v.shared)) (member_left o v.own w.own m)

  pub own_right : (o : OwnView) → Member o w.own → Member o (joined v w).own
  own_right o m = member_left o (v.own ++ w.own) (map ways.back (filter (comes_back ways (stem v.claims.branch)) v.shared)) (member_right o v.own w.own m)

  shared_has : (s : SharedView) → Member s v.shared → Has (places (joined v w)) s.node.slot
  shared_has s m = ⊎_elim
      (λ (p : above ways (stem v.claims.branch) s ≡ true). has_shared (joined v w) s (filter_member (above ways (stem v.claims.branch)) s v.shared m p))
      (λ (p : above ways (stem v.claims.branch) s ≡ false). has_own (joined v w) (ways.back s) (member_right (ways.back s) (v.own ++ w.own) (map ways.back (filter (comes_back ways (stem v.claims.branch)) v.shared))
      (map_member ways.back s (filter (comes_back ways (stem v.claims.branch)) v.shared) (filter_member (comes_back ways (stem v.claims.branch)) s v.shared m (ap not p)))))
      (cases_Bool (above ways (stem v.claims.branch) s))

  pub from_left : (x : ℕ) → Has (places v) x → Has (places (joined v w)) x
  from_left = each_has v (Has (places (joined v w))) (λ o m. has_own (joined v w) o (own_left o m)) shared_has

  pub from_right : ((e : SharedView) → Member e w.shared → Member e v.shared) → (x : ℕ) → Has (places w) x → Has (places (joined v w)) x
  from_right same = each_has w (Has (places (joined v w))) (λ o m. has_own (joined v w) o (own_right o m)) (λ s m. shared_has s (same s m))

  -- what two sides are together
  pub unites_views : Meeting (record { left = v.own; right = w.own; shared_left = v.shared; shared_right = w.shared }) → United v w (joined v w)
  unites_views m =
      let lacks : (u : MarksView) (o : OwnView) → ((c : OwnView) → Member c u.own → c.node.slot ≢ o.node.slot) → ((e : SharedView) → Member e u.shared → e.node.slot ≢ o.node.slot) → Lacks u o.node.slot = λ u o f g e has. each_place u (λ e. e.node.slot ≡ o.node.slot → ⊥) f g e has in
      record {
        left_alone = λ o q. lacks w o (λ c r is. m.alone o c q r (sym is)) (λ e r is. m.left o e q r is);
        right_alone = λ o q. lacks v o (λ c r is. m.alone c o r q is) (λ e r is. m.right o e q r is);
        owns = λ h o. ⊎_elim (λ q. (q.0, own_left q.0 q.1, q.2)) (λ q. (q.0, own_right q.0 q.1, q.2)) o;
        has = λ x o. ⊎_elim (λ p. from_left x p) (λ q. from_right m.same x q) o;
      }

module _ (nodes : ℕ) (words : List ℕ) (views : List MarksView) (h : Marked nodes words views) (id other : ℕ) (v w : MarksView) (b : List Bool) (at : get_elem? views id ≡ some v) (was : get_elem? views other ≡ some w) (two : other ≢ id) (live : v.claims.live ≡ true) (alive : w.claims.live ≡ true) (lb : v.claims.branch ≡ b ++ false ∷ []) (rb : w.claims.branch ≡ b ++ true ∷ []) where
  base : stem v.claims.branch ≡ b
  base = ap stem lb ∙ stem_push b false

  av : get_elem? (map rights_of views) id ≡ some (rights_of v)
  av = at_map rights_of views id v at

  aw : get_elem? (map rights_of views) other ≡ some (rights_of w)
  aw = at_map rights_of views other w was

  same : (e : SharedView) → Member e w.shared → Member e v.shared
  same = shared_same ways (map rights_of views) id other (rights_of v) (rights_of w) b h.rights av aw two live alive lb rb

  strange : (j : ℕ) (u : Rights OwnView SharedView) → j ≢ id → j ≢ other → get_elem? (map rights_of views) j ≡ some u → u.live ≡ true → Strangers v.claims.branch u.branch × Strangers w.claims.branch u.branch
  strange j u n o e lu =
      let q = at_mapped rights_of views j u e in
      let l = ap (λ (z : Rights OwnView SharedView). z.live) q.2 ∙ lu in
      subst (λ (z : Rights OwnView SharedView). Strangers v.claims.branch z.branch × Strangers w.claims.branch z.branch) q.2 (
        (branches_apart nodes words views h id j v q.0 at q.1 (λ p. n (sym p)) live l, branches_apart nodes words views h j id q.0 v q.1 at n l live),
        (branches_apart nodes words views h other j w q.0 was q.1 (λ p. o (sym p)) alive l, branches_apart nodes words views h j other q.0 w q.1 was o l alive),
      )

  short : (x : List Bool) → length x ≤ length b → (t : Bool) → is_prefix (b ++ t ∷ []) x ≡ false
  short x l t = ⊎_elim (λ (p : is_prefix (b ++ t ∷ []) x ≡ true). let a = prefix_short_length (b ++ t ∷ []) x p in let k = length-append b (t ∷ []) in absurd (omega (arith, a, k, l))) (λ q. q) (cases_Bool (is_prefix (b ++ t ∷ []) x))

  -- neither side begins the branch of a third pass
  aside : (j : ℕ) (u : MarksView) → j ≢ id → j ≢ other → get_elem? views j ≡ some u → u.claims.live ≡ true → (t : Bool) → is_prefix (b ++ t ∷ []) u.claims.branch ≡ false
  aside j u n o e lu true = ap (λ z. is_prefix z u.claims.branch) (sym rb) ∙ branches_apart nodes words views h other j w u was e (λ p. o (sym p)) alive lu
  aside j u n o e lu false = ap (λ z. is_prefix z u.claims.branch) (sym lb) ∙ branches_apart nodes words views h id j v u at e (λ p. n (sym p)) live lu

  far : (j : ℕ) (u : MarksView) (e : Place) → j ≢ id → j ≢ other → get_elem? views j ≡ some u → Member e (places u) → (t : Bool) → is_prefix (b ++ t ∷ []) e.domain ≡ false
  far j u e n o d m t =
      let lu = has_live nodes words views h j u e d m in
      each_place u (λ z. is_prefix (b ++ t ∷ []) z.domain ≡ false) (λ _ _. aside j u n o d lu t)
      (λ s ms. ⊎_elim
      (λ (q : is_prefix (b ++ t ∷ []) s.label ≡ true). absurd (true≢false (sym (prefix_through (b ++ t ∷ []) s.label u.claims.branch q ((h.rights.own j (rights_of u) (at_map rights_of views j u d)).labels s ms).0) ∙ aside j u n o d lu t)))
      (λ q. q)
      (cases_Bool (is_prefix (b ++ t ∷ []) s.label)))
      e m

  sources : (e : Place) → Member e (places (joined v w)) → Source b (places v) (places w) e
  sources = each_place (joined v w) (Source b (places v) (places w))
      (λ o m. ⊎_elim
      (λ q. (own_place v.claims.branch o, inl (place_own v o q), refl, refl, inr (false, lb, base)))
      (λ y. ⊎_elim
      (λ q. (own_place w.claims.branch o, inr (place_own w o q), refl, refl, inr (true, rb, base)))
      (λ (q : (s : SharedView) × Member s v.shared × (ways.back s ≡ o) × (s.label ≡ b)).
      (shared_place q.0, inl (place_shared v q.0 q.1), ap (λ (z : OwnView). z.node) (sym q.2), ap (λ (z : OwnView). z.parent) (sym q.2), inl (base ∙ sym q.3, short q.0.label (let l = ap length q.3 in omega (arith, l)))))
      y)
      (alone_cases ways (map rights_of views) id other (rights_of v) (rights_of w) b h.rights av aw two live alive lb rb o m))
      (λ s m. let q = is_above ways (map rights_of views) id other (rights_of v) (rights_of w) b h.rights av aw two live alive lb rb s m in
      (shared_place s, inl (place_shared v s q.0), refl, refl, inl (refl, short s.label (let l = q.1 in omega (arith, l)))))

  two_mapped : {P : Type 0} (f : MarksView → P) (F : List P → Type 0) → F (set (set (map f views) id (f (met v w))) other (f spent)) → F (map f (set (set views id (met v w)) other spent))
  two_mapped f F = subst F (sym (map-set f (set views id (met v w)) other spent ∙ ap (λ z. set z other (f spent)) (map-set f views id (met v w))))

  pub joins_at : v.climb ≡ None → w.climb ≡ None → Marked nodes words (set (set views id (met v w)) other spent)
  joins_at idle_v idle_w = record {
    counter = h.counter;
    head = h.head;
    list = h.list;
    parent = h.parent;
    long = h.long;
    claims = two_mapped claims_of (claiming.Claimed nodes h.counter h.head h.list words)
        (laws.joins_at nodes h.counter h.head h.list words (map claims_of views) h.claims id other v.claims w.claims b (at_map claims_of views id v at) (at_map claims_of views other w was) two live alive lb rb);
    rights = two_mapped rights_of (Divided ways) (unites ways (map rights_of views) id other (rights_of v) (rights_of w) b h.rights av aw two live alive lb rb strange);
    tree = two_mapped tree_of (Tree nodes h.parent words)
        (tree_joins b (places (joined v w)) (places v) (places w) id other two sources (from_left v w) (from_right v w same) nodes h.parent words (map tree_of views) h.tree v.own w.own (joined v w).own v.dropped w.dropped v.claims.held w.claims.held
        (at_map tree_of views id v at) (at_map tree_of views other w was) (own_left v w) (own_right v w)
        (λ j g e n o d m t. let q = at_mapped tree_of views j g d in far j q.0 e n o q.1 (subst (λ (k : Grown). Member e k.places) (sym q.2) m) t));
    climbs = two_mapped marks_of (Climbing nodes words)
        (subst (λ c. Climbing nodes words (set (set (map marks_of views) id (record { places = places (joined v w); dropped = v.dropped ++ w.dropped; marked = v.marked ++ w.marked; busy = v.busy ++ w.busy; climb = c })) other no_marks)) (sym idle_v)
        (climbs_joins b (places (joined v w)) (places v) (places w) id other two sources (from_left v w) (from_right v w same) nodes words (map marks_of views) h.climbs v.dropped w.dropped v.marked w.marked v.busy w.busy
        (at_map marks_of views id v at ∙ ap (λ c. some (record { places = places v; dropped = v.dropped; marked = v.marked; busy = v.busy; climb = c })) idle_v)
        (at_map marks_of views other w was ∙ ap (λ c. some (record { places = places w; dropped = w.dropped; marked = w.marked; busy = w.busy; climb = c })) idle_w)));
    states = two_mapped states_of (AreStated nodes h.counter h.list words)
        (states_joins nodes h.counter h.list words (map states_of views) h.states id other (states_of v) (states_of w) (at_map states_of views id v at) (at_map states_of views other w was));
    met = all_set (λ _ (u : MarksView). IfSome u.met Meeting) (set views id (met v w)) other spent tt
        (λ j u n e. all_set (λ _ (u : MarksView). IfSome u.met Meeting) views id (met v w) (meets ways (map rights_of views) id other (rights_of v) (rights_of w) b h.rights av aw two live alive lb rb) (λ i y o d. h.met i y d) j u e);
  }
