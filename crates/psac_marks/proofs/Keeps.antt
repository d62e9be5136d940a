-- Each step of one pass keeps the rule of marks.
use Rattle.psac_marks.proofs.Terms.{◌≡◌, ◌≢◌, ◌⊎◌, ℕ, suc, ◌+◌, ◌*◌, ◌%◌, ◌^◌, ◌<◌, ◌≤◌, List, [], ◌∷◌, ◌++◌, map, length, set, drop, true, refl, sym, ap, ◌∙◌, subst, inl, inr, ⊎_elim, arith, Option, Some, None, length-set, cond, at_mapped, sum_map, undrawn_slot, slot_below, first_same, ◌==◌, sum_by, IfSome, eq-eqb, ne_eqb, cases_eq, some, some-injective, get_elem?, at_map, Handle, is_prefix, Member, slot_times, Rights, Divided, ClaimView, times, sum_set, sum_at, sum_two, sum_none, all_set, member_left, member_cases, member_map, map_member, entry_at, later_member, member_times, at_most_once, prefix_refl, changes, OwnView, SharedView, StateView, MarksView, mark_at, parent_at, state_at, parent_word, Place, own_place, shared_place, places, claims_of, handle_of, ways, rights_of, Grown, tree_of, Raising, marks_of, Stating, states_of, Has, HasOwn, held_times, Tree, marks, Supported, Climbing, AreStated, Meeting, Marked, new_own, drew, Lacks, hang, hung, stated, raised, cleared, detached, MayRaise}
use Rattle.psac_slots.specs.Claiming as claiming
use Rattle.psac_slots.proofs.Keeps as laws
use Rattle.psac_marks.proofs.Parts.{each_place, each_has, has_own, has_shared, drew_has, same_part, new_part, place_own, place_shared}
use Rattle.psac_marks.proofs.Trees.{out_held, tree_else, tree_draws, tree_hangs, tree_detaches}
use Rattle.psac_marks.proofs.Climbs.{climbs_else, climbs_places, first_mark, second_mark, climbs_clear}
use Rattle.psac_marks.proofs.Stays.{states_else, states_draw, states_put}

module _ (nodes : ℕ) (words : List ℕ) (views : List MarksView) (h : Marked nodes words views) where
  pub held_is : (x : ℕ) → held_times x (map tree_of views) ≡ sum_by (λ (c : ClaimView). slot_times x c.held) (map claims_of views)
  held_is x = sum_map tree_of (λ (g : Grown). slot_times x g.held) views ∙ sym (sum_map claims_of (λ (c : ClaimView). slot_times x c.held) views)

  -- an undrawn slot is a slot of the table, and nobody holds it
  pub undrawn : (x : Handle) → Member x (drop h.counter h.list) → (held_times x.slot (map tree_of views) ≡ 0) × (x.slot < nodes)
  undrawn x m = let u = undrawn_slot nodes h.counter h.head h.list words (map claims_of views) h.claims x m in let e = held_is x.slot in (e ∙ u.0, u.1)

  -- what is held is a slot of the table
  pub held_low : (x : ℕ) → 0 < held_times x (map tree_of views) → x < nodes
  held_low x p = let s = h.claims.slots x in let e = held_is x in slot_below x nodes (omega (arith, p, s, e))

  pub place_held : (j : ℕ) (u : MarksView) (e : Place) → get_elem? views j ≡ some u → Member e (places u) → 0 < held_times e.node.slot (map tree_of views)
  place_held j u e d m = out_held (map tree_of views) e.node (h.tree.out j (tree_of u) e (at_map tree_of views j u d) m)

  pub place_low : (j : ℕ) (u : MarksView) (e : Place) → get_elem? views j ≡ some u → Member e (places u) → e.node.slot < nodes
  place_low j u e d m = held_low e.node.slot (place_held j u e d m)

  -- what nobody holds, nobody has
  pub lacks : (x : ℕ) → held_times x (map tree_of views) ≡ 0 → (j : ℕ) (u : MarksView) → get_elem? views j ≡ some u → Lacks u x
  lacks x none j u d e m is = let p = place_held j u e d m in let z = ap (λ k. held_times k (map tree_of views)) is in omega (arith, p, z, none)

  -- what nobody has isn't marked
  pub unmarked : (x : ℕ) → held_times x (map tree_of views) ≡ 0 → (j : ℕ) (u : MarksView) → get_elem? views j ≡ some u → times x u.marked ≡ 0
  unmarked x none j u d = ⊎_elim (λ z. z) (λ (n : times x u.marked ≢ 0). let o = h.climbs.marked j (marks_of u) x (at_map marks_of views j u d) (omega (arith, n)) in absurd (lacks x none j u d o.0 o.1 o.2)) (cases_eq (times x u.marked) 0)

  -- nor dropped
  pub undropped : (x : ℕ) → held_times x (map tree_of views) ≡ 0 → (j : ℕ) (u : MarksView) → get_elem? views j ≡ some u → times x u.dropped ≡ 0
  undropped x none j u d = ⊎_elim (λ z. z) (λ (n : times x u.dropped ≢ 0). let o = h.tree.dropped j (tree_of u) x (at_map tree_of views j u d) (omega (arith, n)) in absurd (lacks x none j u d (own_place u.claims.branch o.0) (place_own u o.0 o.1) o.2)) (cases_eq (times x u.dropped) 0)

  -- two places of a node have one parent
  pub one_parent : (i j : ℕ) (v u : MarksView) (e o : Place) → get_elem? views i ≡ some v → get_elem? views j ≡ some u → Member e (places v) → Member o (places u) → e.node.slot ≡ o.node.slot → e.parent ≡ o.parent
  one_parent i j v u e o di dj me mo is = sym (h.tree.parents i (tree_of v) e (at_map tree_of views i v di) me) ∙ (ap h.parent is ∙ h.tree.parents j (tree_of u) o (at_map tree_of views j u dj) mo)

  module _ (id : ℕ) (v : MarksView) (at : get_elem? views id ≡ some v) where
    at_part : {P : Type 0} (f : MarksView → P) → get_elem? (map f views) id ≡ some (f v)
    at_part f = at_map f views id v at

    -- what is dropped is own, and nothing shared is dropped
    pub drops_own : (x : ℕ) → 0 < times x v.dropped → HasOwn v.own x
    drops_own x p = h.tree.dropped id (tree_of v) x (at_part tree_of) p

    pub shared_kept : (s : SharedView) → Member s v.shared → times s.node.slot v.dropped ≡ 0
    shared_kept s m = ⊎_elim
        (λ z. z)
        (λ (n : times s.node.slot v.dropped ≢ 0). let o = drops_own s.node.slot (omega (arith, n)) in absurd ((h.rights.own id (rights_of v) (at_part rights_of)).apart o.0 o.1 s m (sym o.2)))
        (cases_eq (times s.node.slot v.dropped) 0)

    -- what the sides of a join had
    pub met_after : (w : MarksView) → IfSome w.met Meeting → (j : ℕ) (u : MarksView) → get_elem? (set views id w) j ≡ some u → IfSome u.met Meeting
    met_after w mine = all_set (λ _ (u : MarksView). IfSome u.met Meeting) views id w mine (λ j u n e. h.met j u e)

    pub count_is : v.claims.live ≡ true → v.claims.count ≡ nodes
    count_is live = (h.claims.each id v.claims (at_part claims_of)).count_is live

    -- an own node is in no other view, and stands once in its own
    pub own_alone : (x : ℕ) → HasOwn v.own x → (j : ℕ) (u : MarksView) (e : Place) → j ≢ id → get_elem? views j ≡ some u → Member e (places u) → e.node.slot ≢ x
    own_alone x own j u e n d m is =
        let b = h.rights.beside id j (rights_of v) (rights_of u) (at_part rights_of) (at_map rights_of views j u d) (λ q. n (sym q)) in
        each_place u (λ e. e.node.slot ≡ x → ⊥) (λ o mo q. b.alone own.0 o own.1 mo (own.2 ∙ sym q)) (λ s ms q. b.apart own.0 own.1 s ms (q ∙ sym own.2)) e m is

    pub own_unshared : (x : ℕ) → HasOwn v.own x → (s : SharedView) → Member s v.shared → s.node.slot ≢ x
    own_unshared x own s m is = (h.rights.own id (rights_of v) (at_part rights_of)).apart own.0 own.1 s m (is ∙ sym own.2)

    -- of a node that no other pass has it is this one that has the mark, if there is one
    pub own_mark : (x : ℕ) → ((j : ℕ) (u : MarksView) (e : Place) → j ≢ id → get_elem? views j ≡ some u → Member e (places u) → e.node.slot ≢ x) → marks x (map marks_of views) ≡ times x v.marked
    own_mark x alone =
        let none : Raising = record { places = []; dropped = []; marked = []; busy = []; climb = None } in
        let s = sum_set (λ (u : Raising). times x u.marked) (map marks_of views) id (marks_of v) none (at_part marks_of) in
        let z = sum_none (λ (u : Raising). times x u.marked) (set (map marks_of views) id none) (all_set (λ _ (u : Raising). times x u.marked ≡ 0) (map marks_of views) id none refl
        (λ j r n d. let u = at_mapped marks_of views j r d in
        ⊎_elim (λ z. z)
        (λ (w : times x r.marked ≢ 0). let o = h.climbs.marked j r x d (omega (arith, w)) in absurd (alone j u.0 o.0 n u.1 (subst (λ (k : Raising). Member o.0 k.places) (sym u.2) o.1) o.2))
        (cases_eq (times x r.marked) 0))) in
        omega (arith, s, z)

    same_claims : (w : MarksView) → claims_of w ≡ claims_of v → (i x : ℕ) → nodes < i → claiming.Claimed nodes h.counter h.head h.list (set words i x) (map claims_of (set views id w))
    same_claims w e i x far = same_part claims_of (claiming.Claimed nodes h.counter h.head h.list (set words i x)) views id v w at e (laws.else_at nodes h.counter h.head h.list words (map claims_of views) i x far h.claims)

    longer : (i x : ℕ) → nodes + 3 * nodes < length (set words i x)
    longer i x = let a = h.long in let b = length-set words i x in omega (arith, a, b)

    -- the rule of the new views, from its parts
    pub step_to : (w : MarksView) (ws : List ℕ) (c front : ℕ) (l : List Handle) (parent : ℕ → Option ℕ) → nodes + 3 * nodes < length ws
        → claiming.Claimed nodes c front l ws (map claims_of (set views id w)) → Divided ways (map rights_of (set views id w)) → Tree nodes parent ws (map tree_of (set views id w))
        → Climbing nodes ws (map marks_of (set views id w)) → AreStated nodes c l ws (map states_of (set views id w)) → IfSome w.met Meeting → Marked nodes ws (set views id w)
    step_to w ws c front l parent long claims rights tree climbs states meets = record {
      counter = c;
      head = front;
      list = l;
      parent = parent;
      long = long;
      claims = claims;
      rights = rights;
      tree = tree;
      climbs = climbs;
      states = states;
      met = met_after w meets;
    }

    -- a claim
    pub draws_at : v.claims.live ≡ true → v.claims.over ≡ 0 → Marked nodes (set words 0 ((h.counter + 1) % 2 ^ 64)) (set views id (drew v h.counter))
    draws_at live none =
        let c = h.counter in
        let x = (c + 1) % 2 ^ 64 in
        let w = drew v c in
        let es = claiming.entry v.claims.list c in
        let list_is = (h.claims.each id v.claims (at_part claims_of)).list_is live in
        let drawn : (y : Handle) → Member y es → (get_elem? h.list c ≡ some y) × (held_times y.slot (map tree_of views) ≡ 0) × (y.slot < nodes) = λ y m.
        let e = entry_at h.list c y (subst (λ (l : List Handle). Member y (claiming.entry l c)) list_is m) in let u = undrawn y (later_member h.list c c y (omega arith) e) in (e, u.0, u.1) in
        let cases : (e : Place) → Member e (places w) → ((y : Handle) × Member y es × (e.node ≡ y) × (e.parent ≡ None)) ⊎ Member e (places v) = each_place w (λ e. ((y : Handle) × Member y es × (e.node ≡ y) × (e.parent ≡ None)) ⊎ Member e (places v))
        (λ o m. ⊎_elim
        (λ q. let y = member_map new_own o es q in inl (y.0, y.1, ap (λ (z : OwnView). z.node) (sym y.2), ap (λ (z : OwnView). z.parent) (sym y.2)))
        (λ q. inr (place_own v o q))
        (member_cases o (map new_own es) v.own m))
        (λ s m. inr (place_shared v s m)) in
        let keeps = drew_has v c in
        let adds : (y : Handle) → Member y es → Has (places w) y.slot = λ y m. (own_place v.claims.branch (new_own y), place_own w (new_own y) (member_left (new_own y) (map new_own es) v.own (map_member new_own y es m)), refl) in
        step_to w (set words 0 x) (suc c) h.head h.list h.parent (longer 0 x)
        (new_part claims_of (claiming.Claimed nodes (suc c) h.head h.list (set words 0 x)) views id w (laws.draws_at nodes c h.head h.list words (map claims_of views) h.claims id v.claims (at_part claims_of) live none))
        (new_part rights_of (Divided ways) views id w (changes ways (map rights_of views) id (rights_of v) h.rights (at_part rights_of) live (map new_own es ++ v.own)
        (λ o m. ⊎_elim
        (λ p. let y = member_map new_own o es p in inr (λ j s d. let u = at_mapped rights_of views j s d in let l = lacks y.0.slot (drawn y.0 y.1).1 j u.0 u.1 in let is : o.node.slot ≡ y.0.slot = ap (λ (z : OwnView). z.node.slot) (sym y.2) in (
          (λ k mk q. l (own_place u.0.claims.branch k) (place_own u.0 k (subst (λ (z : Rights OwnView SharedView). Member k z.alone) (sym u.2) mk)) (q ∙ is)),
          (λ k mk q. l (shared_place k) (place_shared u.0 k (subst (λ (z : Rights OwnView SharedView). Member k z.shared) (sym u.2) mk)) (q ∙ is)),
        )))
        (λ p. inl (o, p, refl))
        (member_cases o (map new_own es) v.own m))
        (λ o k mo mk is. ⊎_elim
        (λ p. let y = member_map new_own o es p in ⊎_elim
        (λ q. let z = member_map new_own k es q in sym y.2 ∙ (ap new_own (first_same y.0 z.0 (drop c v.claims.list) y.1 z.1) ∙ z.2))
        (λ q. absurd (lacks y.0.slot (drawn y.0 y.1).1 id v at (own_place v.claims.branch k) (place_own v k q) (sym is ∙ ap (λ (z : OwnView). z.node.slot) (sym y.2))))
        (member_cases k (map new_own es) v.own mk))
        (λ p. ⊎_elim
        (λ q. let z = member_map new_own k es q in absurd (lacks z.0.slot (drawn z.0 z.1).1 id v at (own_place v.claims.branch o) (place_own v o p) (is ∙ ap (λ (y : OwnView). y.node.slot) (sym z.2))))
        (λ q. (h.rights.own id (rights_of v) (at_part rights_of)).single o k p q is)
        (member_cases k (map new_own es) v.own mk))
        (member_cases o (map new_own es) v.own mo))))
        (new_part tree_of (Tree nodes h.parent (set words 0 x)) views id w (tree_else nodes h.parent words (set (map tree_of views) id (tree_of w)) 0 x (λ y q. omega (arith, q))
        (tree_draws nodes h.parent words (map tree_of views) h.tree id (tree_of v) (at_part tree_of) es (places w) cases (λ y m. (drawn y m).1) keeps adds)))
        (new_part marks_of (Climbing nodes (set words 0 x)) views id w (climbs_else nodes words (set (map marks_of views) id (marks_of w)) 0 x (λ y q. omega (arith, q))
        (climbs_places nodes words (map marks_of views) h.climbs id (marks_of v) (at_part marks_of) (places w) v.dropped
        keeps
        (λ e m kept p. ⊎_elim (λ n. inl n.3) (λ o. h.climbs.supported id (marks_of v) e (at_part marks_of) o kept p) (cases e m)))))
        (new_part states_of (AreStated nodes (suc c) h.list (set words 0 x)) views id w (states_else nodes (suc c) h.list words (set (map states_of views) id (states_of w)) 0 x (λ y q. omega (arith, q))
        (states_draw nodes c h.list words (map states_of views) h.states id (states_of v) (at_part states_of) es (λ y m. let d = drawn y m in (d.0, d.2)))))
        (h.met id v at)

    -- what is changed in a view but for its nodes, claims and states, with one word beside the ring
    quiet : (w : MarksView) → claims_of w ≡ claims_of v → rights_of w ≡ rights_of v → tree_of w ≡ tree_of v → states_of w ≡ states_of v → IfSome w.met Meeting → (i x : ℕ) → nodes < i
        → ((y : ℕ) → parent_at nodes y ≢ i) → ((y : ℕ) → state_at nodes y ≢ i) → Climbing nodes (set words i x) (set (map marks_of views) id (marks_of w)) → Marked nodes (set words i x) (set views id w)
    quiet w ec er et es meets i x far np ns climbs = step_to w (set words i x) h.counter h.head h.list h.parent (longer i x)
        (same_claims w ec i x far)
        (same_part rights_of (Divided ways) views id v w at er h.rights)
        (same_part tree_of (Tree nodes h.parent (set words i x)) views id v w at et (tree_else nodes h.parent words (map tree_of views) i x np h.tree))
        (new_part marks_of (Climbing nodes (set words i x)) views id w climbs)
        (same_part states_of (AreStated nodes h.counter h.list (set words i x)) views id v w at es (states_else nodes h.counter h.list words (map states_of views) i x ns h.states))
        meets

    climb_below : (x : ℕ) → MayRaise v x → (j : ℕ) (r : Raising) (e : Place) → get_elem? (map marks_of views) j ≡ some r → Member e r.places → v.climb ≡ Some e.node.slot → e.parent ≡ Some x
    climb_below x may j r e d m c = let o = may e.node.slot c in let u = at_mapped marks_of views j r d in
        one_parent j id u.0 v e o.0 u.1 at (subst (λ (k : Raising). Member e k.places) (sym u.2) m) o.1 (sym o.2) ∙ o.3

    -- a swap that finds 0, and one that finds 1
    pub raises_first : (e0 : Place) → Member e0 (places v) → MayRaise v e0.node.slot → marks e0.node.slot (map marks_of views) ≡ 0 → Marked nodes (set words (mark_at nodes e0.node.slot) 1) (set views id (raised e0.node.slot e0.parent 0 v))
    raises_first e0 has may none = quiet (raised e0.node.slot e0.parent 0 v) refl refl refl refl (h.met id v at) (mark_at nodes e0.node.slot) 1 (omega arith) (λ y q. omega (arith, q)) (λ y q. omega (arith, q))
        (first_mark nodes words (map marks_of views) h.climbs id (marks_of v) (at_part marks_of) e0 has (place_low id v e0 at has) h.long none
        (λ j r e d m is. let u = at_mapped marks_of views j r d in one_parent j id u.0 v e e0 u.1 at (subst (λ (k : Raising). Member e k.places) (sym u.2) m) has is)
        (climb_below e0.node.slot may))

    pub raises_second : (e0 : Place) → Member e0 (places v) → MayRaise v e0.node.slot → marks e0.node.slot (map marks_of views) ≡ 1 → Marked nodes (set words (mark_at nodes e0.node.slot) 1) (set views id (raised e0.node.slot e0.parent 1 v))
    raises_second e0 has may one = quiet (raised e0.node.slot e0.parent 1 v) refl refl refl refl (h.met id v at) (mark_at nodes e0.node.slot) 1 (omega arith) (λ y q. omega (arith, q)) (λ y q. omega (arith, q))
        (second_mark nodes words (map marks_of views) h.climbs id (marks_of v) (at_part marks_of) e0 has (place_low id v e0 at has) h.long one (climb_below e0.node.slot may))

    -- a store of 0 to the mark of a node that no other pass has, and of whose children none is marked but for dropped ones
    pub clears_at : (x : ℕ) → x < nodes
        → ((j : ℕ) (u : MarksView) (e : Place) → j ≢ id → get_elem? views j ≡ some u → Member e (places u) → e.node.slot ≢ x)
        → ((j : ℕ) (u : MarksView) (e : Place) → get_elem? views j ≡ some u → Member e (places u) → times e.node.slot u.dropped ≡ 0 → e.parent ≡ Some x → marks e.node.slot (map marks_of views) ≡ 0)
        → Marked nodes (set words (mark_at nodes x) 0) (set views id (cleared x v))
    clears_at x small alone bare = quiet (cleared x v) refl refl refl refl (h.met id v at) (mark_at nodes x) 0 (omega arith) (λ y q. omega (arith, q)) (λ y q. omega (arith, q))
        (climbs_clear nodes words (map marks_of views) h.climbs id (marks_of v) (at_part marks_of) x small h.long
        (λ j r e n d m. let u = at_mapped marks_of views j r d in alone j u.0 e n u.1 (subst (λ (k : Raising). Member e k.places) (sym u.2) m))
        (λ j r e d m kept is. let u = at_mapped marks_of views j r d in bare j u.0 e u.1 (subst (λ (k : Raising). Member e k.places) (sym u.2) m) (ap (λ (k : Raising). times e.node.slot k.dropped) u.2 ∙ kept) is))

    -- a step that only counts
    pub counts_at : (w : MarksView) → claims_of w ≡ claims_of v → rights_of w ≡ rights_of v → tree_of w ≡ tree_of v → marks_of w ≡ marks_of v → states_of w ≡ states_of v → IfSome w.met Meeting → Marked nodes words (set views id w)
    counts_at w ec er et em es meets = step_to w words h.counter h.head h.list h.parent h.long
        (same_part claims_of (claiming.Claimed nodes h.counter h.head h.list words) views id v w at ec h.claims)
        (same_part rights_of (Divided ways) views id v w at er h.rights)
        (same_part tree_of (Tree nodes h.parent words) views id v w at et h.tree)
        (same_part marks_of (Climbing nodes words) views id v w at em h.climbs)
        (same_part states_of (AreStated nodes h.counter h.list words) views id v w at es h.states)
        meets

    -- a node is dropped
    pub detaches_at : (x : ℕ) → HasOwn v.own x → Marked nodes words (set views id (detached x v))
    detaches_at x own =
        let w = detached x v in step_to w words h.counter h.head h.list h.parent h.long
        (same_part claims_of (claiming.Claimed nodes h.counter h.head h.list words) views id v w at refl h.claims)
        (same_part rights_of (Divided ways) views id v w at refl h.rights)
        (new_part tree_of (Tree nodes h.parent words) views id w (tree_detaches nodes h.parent words (map tree_of views) h.tree id (tree_of v) (at_part tree_of) x own))
        (new_part marks_of (Climbing nodes words) views id w (climbs_places nodes words (map marks_of views) h.climbs id (marks_of v) (at_part marks_of) (places v) (v.dropped ++ x ∷ []) (λ y p. p)
        (λ e m kept p. h.climbs.supported id (marks_of v) e (at_part marks_of) m (let t = Rattle.psac_marks.proofs.Parts.times_push e.node.slot v.dropped x in omega (arith, t, kept)) p)))
        (same_part states_of (AreStated nodes h.counter h.list words) views id v w at refl h.states)
        (h.met id v at)

    -- who has the state of a slot holds it
    pub state_held : (j : ℕ) (u : MarksView) (t : StateView) → get_elem? views j ≡ some u → Member t u.states → 1 ≤ slot_times t.of.slot u.claims.held
    state_held j u t d m = member_times t.of u.claims.held (subst (Member t.of) (h.states.held_is j (states_of u) (at_map states_of views j u d)) (map_member handle_of t u.states m))

    -- a store to the state of a claimed slot
    pub states_at : (t : StateView) (n : ℕ) → Member t v.states → Marked nodes (set words (state_at nodes t.of.slot) n) (set views id (stated t.of.slot n v))
    states_at t n has =
        let x = t.of.slot in
        let i = state_at nodes x in
        let w = stated x n v in
        let small = (h.states.known id (states_of v) t (at_part states_of) has).low in
        let mine = state_held id v t at has in
        let whole = h.claims.slots x in
        let once = at_most_once x nodes in step_to w (set words i n) h.counter h.head h.list h.parent (longer i n)
        (same_claims w refl i n (omega arith))
        (same_part rights_of (Divided ways) views id v w at refl h.rights)
        (same_part tree_of (Tree nodes h.parent (set words i n)) views id v w at refl (tree_else nodes h.parent words (map tree_of views) i n (λ y q. omega (arith, q)) h.tree))
        (same_part marks_of (Climbing nodes (set words i n)) views id v w at refl (climbs_else nodes words (map marks_of views) i n (λ y q. omega (arith, q)) h.climbs))
        (new_part states_of (AreStated nodes h.counter h.list (set words i n)) views id w (states_put nodes h.counter h.list words (map states_of views) h.states id (states_of v) (at_part states_of) x n small h.long
        (λ j s k ne d m is.
        let u = at_mapped states_of views j s d in
        let there = ap (λ y. slot_times y u.0.claims.held) is in
        let two = sum_two (λ (y : ClaimView). slot_times x y.held) (map claims_of views) j id u.0.claims v.claims ne (at_map claims_of views j u.0 u.1) (at_part claims_of) in
        omega (arith, state_held j u.0 k u.1 (subst (λ (z : Stating). Member k z.states) (sym u.2) m), there, two, mine, whole, once))
        (λ k y le e is.
        let there = ap (λ z. held_times z (map tree_of views)) is in
        let one = sum_at (λ (z : ClaimView). slot_times x z.held) (map claims_of views) id v.claims (at_part claims_of) in
        omega (arith, (undrawn y (later_member h.list h.counter k y le e)).0, there, one, mine, held_is x))))
        (h.met id v at)

    -- a place of the node is that of the new view
    hung_cases : (x : ℕ) (par : Option ℕ) → HasOwn v.own x → (e : Place) → Member e (places (hung x par v))
        → (d : Place) × Member d (places v) × (e.node ≡ d.node) × (e.domain ≡ d.domain) × (((d.node.slot ≡ x) × (e.parent ≡ par) × (d.domain ≡ v.claims.branch)) ⊎ ((d.node.slot ≢ x) × (e.parent ≡ d.parent)))
    hung_cases x par own = each_place (hung x par v)
        (λ e. (d : Place) × Member d (places v) × (e.node ≡ d.node) × (e.domain ≡ d.domain) × (((d.node.slot ≡ x) × (e.parent ≡ par) × (d.domain ≡ v.claims.branch)) ⊎ ((d.node.slot ≢ x) × (e.parent ≡ d.parent))))
        (λ o m.
        let k = member_map (hang x par) o v.own m in
        let parent = ap (λ (z : OwnView). z.parent) (sym k.2) in (
          own_place v.claims.branch k.0,
          place_own v k.0 k.1,
          ap (λ (z : OwnView). z.node) (sym k.2),
          refl,
          ⊎_elim
              (λ (q : k.0.node.slot ≡ x). inl (q, parent ∙ ap (λ b. cond b par k.0.parent) (eq-eqb k.0.node.slot x q), refl))
              (λ (q : k.0.node.slot ≢ x). inr (q, parent ∙ ap (λ b. cond b par k.0.parent) (ne_eqb k.0.node.slot x q)))
              (cases_eq k.0.node.slot x),
        ))
        (λ s m. (shared_place s, place_shared v s m, refl, refl, inr (own_unshared x own s m, refl)))

    -- what has a node lies above the branch of a pass that has it too
    above_branch : (p : ℕ) → Has (places v) p → (j : ℕ) (u : MarksView) (o : Place) → get_elem? views j ≡ some u → Member o (places u) → o.node.slot ≡ p → is_prefix o.domain v.claims.branch ≡ true
    above_branch p has j u o d m is = ⊎_elim
        (λ (same : j ≡ id). each_place v (λ z. is_prefix z.domain v.claims.branch ≡ true) (λ _ _. prefix_refl v.claims.branch) (λ s ms. ((h.rights.own id (rights_of v) (at_part rights_of)).labels s ms).0) o
        (subst (λ (k : MarksView). Member o (places k)) (some-injective u v (sym d ∙ (ap (get_elem? views) same ∙ at))) m))
        (λ (n : j ≢ id). each_has v (λ x. o.node.slot ≡ x → is_prefix o.domain v.claims.branch ≡ true)
        (λ k mk q. absurd (own_alone k.node.slot (k, mk, refl) j u o n d m q))
        (λ s ms. each_place u (λ z. z.node.slot ≡ s.node.slot → is_prefix z.domain v.claims.branch ≡ true)
        (λ k mk q. absurd ((h.rights.beside j id (rights_of u) (rights_of v) (at_map rights_of views j u d) (at_part rights_of) n).apart k mk s ms (sym q)))
        (λ k mk q.
        let same = (h.rights.beside id j (rights_of v) (rights_of u) (at_part rights_of) (at_map rights_of views j u d) (λ z. n (sym z))).one s k ms mk (sym q) in
        subst (λ (z : SharedView). is_prefix z.label v.claims.branch ≡ true) same ((h.rights.own id (rights_of v) (at_part rights_of)).labels s ms).0)
        o m)
        p has is)
        (cases_eq j id)

    -- a store of an own node's parent: none, or, where the node isn't marked, one that the pass has
    pub hangs_at : v.claims.live ≡ true → (x : ℕ) (par : Option ℕ) → HasOwn v.own x → ((p : ℕ) → par ≡ Some p → Has (places v) p × (times x v.marked ≡ 0))
        → Marked nodes (set words (parent_at nodes x) (parent_word par)) (set views id (hung x par v))
    hangs_at live x par own may =
        let i = parent_at nodes x in
        let n = parent_word par in
        let w = hung x par v in
        let has : Has (places v) x = (own_place v.claims.branch own.0, place_own v own.0 own.1, own.2) in
        let small : x < nodes = subst (λ y. y < nodes) has.2 (place_low id v has.0 at has.1) in
        let cases = hung_cases x par own in
        let keeps = each_has v (Has (places w)) (λ o m. has_own w (hang x par o) (map_member (hang x par) o v.own m)) (has_shared w) in
        step_to w (set words i n) h.counter h.head h.list (λ y. cond (y == x) par (h.parent y)) (longer i n)
        (same_claims w refl i n (omega arith))
        (new_part rights_of (Divided ways) views id w (changes ways (map rights_of views) id (rights_of v) h.rights (at_part rights_of) live (map (hang x par) v.own)
        (λ o m. let k = member_map (hang x par) o v.own m in inl (k.0, k.1, ap (λ (z : OwnView). z.node.slot) k.2))
        (λ o k mo mk is. let a = member_map (hang x par) o v.own mo in let b = member_map (hang x par) k v.own mk in
        sym a.2 ∙ (ap (hang x par) ((h.rights.own id (rights_of v) (at_part rights_of)).single a.0 b.0 a.1 b.1 (ap (λ (z : OwnView). z.node.slot) a.2 ∙ (is ∙ sym (ap (λ (z : OwnView). z.node.slot) b.2)))) ∙ b.2))))
        (new_part tree_of (Tree nodes (λ y. cond (y == x) par (h.parent y)) (set words i n)) views id w (tree_hangs nodes h.parent words (map tree_of views) h.tree id (tree_of v) (at_part tree_of) x par v.claims.branch (places w) small h.long own cases
        (λ e m is. h.tree.out id (tree_of v) e (at_part tree_of) m) has keeps
        (λ j g e ne d m. let u = at_mapped tree_of views j g d in own_alone x own j u.0 e ne u.1 (subst (λ (k : Grown). Member e k.places) (sym u.2) m))
        (λ p is. let k = (may p is).0 in (
          subst (λ y. 0 < held_times y (map tree_of views)) k.2 (place_held id v k.0 at k.1),
          λ j g o d m slot. let u = at_mapped tree_of views j g d in above_branch p k j u.0 o u.1 (subst (λ (z : Grown). Member o z.places) (sym u.2) m) slot,
        ))))
        (new_part marks_of (Climbing nodes (set words i n)) views id w (climbs_else nodes words (set (map marks_of views) id (marks_of w)) i n (λ y q. omega (arith, q))
        (climbs_places nodes words (map marks_of views) h.climbs id (marks_of v) (at_part marks_of) (places w) v.dropped
        keeps
        (λ e m kept p. let d = cases e m in ⊎_elim
        (λ (q : (d.0.node.slot ≡ x) × (e.parent ≡ par) × (d.0.domain ≡ v.claims.branch)). root e (ap (λ (z : Handle). z.slot) d.2 ∙ q.0) par q.1 (λ z is. (may z is).1) p)
        (λ (q : (d.0.node.slot ≢ x) × (e.parent ≡ d.0.parent)).
        let same : d.0 ≡ e = λ t. record { node = sym d.2 t; parent = sym q.1 t; domain = sym d.3 t } in
        h.climbs.supported id (marks_of v) e (at_part marks_of) (subst (λ z. Member z (places v)) same d.1) kept p)
        d.4))))
        (same_part states_of (AreStated nodes h.counter h.list (set words i n)) views id v w at refl (states_else nodes h.counter h.list words (map states_of views) i n (λ y q. omega (arith, q)) h.states))
        (h.met id v at)
      where
        root : (e : Place) → e.node.slot ≡ x → (par : Option ℕ) → e.parent ≡ par → ((p : ℕ) → par ≡ Some p → times x v.marked ≡ 0) → 0 < marks e.node.slot (map marks_of views) → Supported (map marks_of views) e
        root e slot None is f p = inl is
        root e slot (Some q) is f p = let a = own_mark x (own_alone x own) in let b = f q refl in let c = ap (λ y. marks y (map marks_of views)) slot in absurd (omega (arith, a, b, c, p))
