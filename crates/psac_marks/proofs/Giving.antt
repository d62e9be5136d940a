-- A sole pass gives a node back.
use Rattle.psac_marks.proofs.Terms.{◌≡◌, ◌≢◌, ℕ, ◌+◌, ◌<◌, ◌≤◌, List, [], ◌∷◌, ◌++◌, map, length, set, true, refl, sym, ap, ◌∙◌, subst, inl, ⊎_elim, arith, Option, Some, None, length-set, mod-lt, at_mapped, none_some, filter, not, ◌==◌, eq-eqb, ne_eqb, cases_eq, some, none as vacant, get_elem?, State, Allows, keeps, step, at_map, at_set, Handle, Member, word_of, later, slot_times, removed, times, Divided, sole_parts, one_given, filtered, sum_set, all_set, at_new, member_filter, filter_member, member_times, removed_gone, removed_else, off, changes, OwnView, SharedView, StateView, MarksView, state_at, free_word, Place, own_place, places, claims_of, handle_of, ways, rights_of, Grown, tree_of, Raising, marks_of, Stating, states_of, Has, HasOwn, held_times, Tree, marks, Supported, Climbing, IsStated, AreStated, Marked, other, other_own, other_state, gave, Gave, Childless}
use Rattle.psac_slots.specs.Claiming as claiming
use Rattle.psac_slots.proofs.Rewinds as turns
use Rattle.psac_marks.proofs.Parts.{each_place, each_has, has_own, new_part, times_gone, times_else, place_own}
use Rattle.psac_marks.proofs.Trees.{some_stays, tree_else}
use Rattle.psac_marks.proofs.Climbs.{climbs_else, support_stays}
use Rattle.psac_marks.proofs.Stays.{states_else}
use Rattle.psac_marks.proofs.Keeps.{step_to, held_low}
use Rattle.psac_marks.proofs.Alone.{nobody_else, nothing_shared, all_held}
use Rattle.psac_marks.proofs.Holding.{held_once}

-- what the filter keeps has another slot, and what has another slot it keeps
pub other_slot : (x y : ℕ) → not (y == x) ≡ true → y ≢ x
other_slot x y e is = off (y == x) e (eq-eqb y x is)

pub not_slot : (x y : ℕ) → y ≢ x → not (y == x) ≡ true
not_slot x y n = ap not (ne_eqb y x n)

-- the node x goes, with the pass's place of it
module _ (x : ℕ) (gs ps : List Place) (id : ℕ) (cases : (e : Place) → Member e ps → Member e gs × (e.node.slot ≢ x)) (stays : (y : ℕ) → y ≢ x → Has gs y → Has ps y) where
  module _ (nodes : ℕ) (parent : ℕ → Option ℕ) (words : List ℕ) (all : List Grown) (h : Tree nodes parent words all) (os : List OwnView) (ds : List ℕ) (hs : List Handle) where
    abbrev pub tree_before : Grown
    tree_before = record { own = os; places = gs; dropped = ds; held = hs }

    abbrev pub tree_after : Grown
    tree_after = record { own = filter (other_own x) os; places = ps; dropped = filter (other x) ds; held = removed x hs }

    pub tree_gives : get_elem? all id ≡ some tree_before → parent x ≡ None → held_times x all ≤ 1 → 1 ≤ slot_times x hs
        → ((e : Place) → Member e gs → e.parent ≡ Some x → 0 < times e.node.slot ds)
        → ((j : ℕ) (u : Grown) (e : Place) → j ≢ id → get_elem? all j ≡ some u → Member e u.places → ⊥)
        → Tree nodes parent words (set all id tree_after)
    tree_gives at root once held children nobody =
        let g = tree_before in
        let f = tree_after in
        let after = set all id f in
        let total : (y : ℕ) → held_times y after + slot_times y hs ≡ held_times y all + slot_times y (removed x hs) = λ y. sum_set (λ (k : Grown). slot_times y k.held) all id g f at in
        let gone : held_times x after ≡ 0 = let a = total x in let b = removed_gone x hs in omega (arith, a, b, once, held) in
        let same : (y : ℕ) → y ≢ x → held_times y after ≡ held_times y all = λ y n. let a = total y in let b = removed_else y x hs n in omega (arith, a, b) in
        -- a place is one that the pass had, of another node
        let was : (j : ℕ) (u : Grown) (e : Place) → get_elem? after j ≡ some u → Member e u.places → (j ≡ id) × (f ≡ u) × Member e gs × (e.node.slot ≢ x) = λ j u e d m. ⊎_elim
        (λ (q : (j ≡ id) × (f ≡ u)). let c = cases e (subst (λ (k : Grown). Member e k.places) (sym q.1) m) in (q.0, q.1, c.0, c.1))
        (λ (q : (j ≢ id) × (get_elem? all j ≡ some u)). absurd (nobody j u e q.0 q.1 m))
        (at_set all id j f u d) in
        let kept : (u : Grown) (e : Place) → f ≡ u → e.node.slot ≢ x → times e.node.slot u.dropped ≡ 0 → times e.node.slot ds ≡ 0 = λ u e is n z.
        sym (times_else e.node.slot x ds n) ∙ (ap (λ (k : Grown). times e.node.slot k.dropped) is ∙ z) in
        record {
          hung = h.hung;
          free = λ y z. ⊎_elim (λ (e : y ≡ x). ap parent e ∙ root) (λ (n : y ≢ x). h.free y (sym (same y n) ∙ z)) (cases_eq y x);
          parents = λ j u e d m. let q = was j u e d m in h.parents id g e at q.2;
          out = λ j u e d m.
              let q = was j u e d m in
              some_stays (λ (k : Grown). Member e.node k.held) all id g f at (λ has. filter_member (λ (k : Handle). not (k.slot == x)) e.node hs has (not_slot x e.node.slot q.3)) (h.out id g e at q.2);
          had = λ y p. ⊎_elim
              (λ (e : y ≡ x). let z = ap (λ k. held_times k after) e in absurd (omega (arith, p, z, gone)))
              (λ (n : y ≢ x). some_stays (λ (k : Grown). Has k.places y) all id g f at (stays y n) (h.had y (let a = same y n in omega (arith, a, p))))
              (cases_eq y x);
          dropped = λ j u y d p. all_set (λ _ (k : Grown). (z : ℕ) → 0 < times z k.dropped → HasOwn k.own z) all id f
              (λ z q. ⊎_elim
              (λ (e : z ≡ x). let a = ap (λ k. times k (filter (other x) ds)) e in let b = times_gone x ds in absurd (omega (arith, a, b, q)))
              (λ (n : z ≢ x).
              let o = h.dropped id g z at (omega (arith, times_else z x ds n, q)) in
              (o.0, filter_member (other_own x) o.0 os o.1 (not_slot x o.0.node.slot (λ s. n (sym o.2 ∙ s))), o.2))
              (cases_eq z x))
              (λ i k n e z q. h.dropped i k z e q) j u d y p;
          above = λ j u e p d m keep is.
              let q = was j u e d m in
              let k = kept u e q.1 q.3 keep in
              let n : p ≢ x = λ s. let c = children e q.2 (is ∙ ap Some s) in absurd (omega (arith, c, k)) in
              let b = same p n in omega (arith, h.above id g e p at q.2 k is, b);
          nested = λ i j u k e o di dj me mo keep is.
              let q = was i u e di me in
              h.nested id id g g e o at at q.2 (was j k o dj mo).2 (kept u e q.1 q.3 keep) is;
        }

  module _ (nodes : ℕ) (words : List ℕ) (all : List Raising) (h : Climbing nodes words all) (ds ms bs : List ℕ) where
    abbrev pub marks_before : Raising
    marks_before = record { places = gs; dropped = ds; marked = ms; busy = bs; climb = None }

    abbrev pub marks_after : Raising
    marks_after = record { places = ps; dropped = filter (other x) ds; marked = ms; busy = bs; climb = None }

    pub climbs_gives : get_elem? all id ≡ some marks_before → times x ms ≡ 0 → times x bs ≡ 0 → Climbing nodes words (set all id marks_after)
    climbs_gives at unmarked idle =
        let r = marks_before in
        let s = marks_after in
        let after = set all id s in
        let same : (y : ℕ) → marks y after ≡ marks y all = λ y. let a = sum_set (λ (u : Raising). times y u.marked) all id r s at in omega (arith, a) in
        let elsewhere : (y : ℕ) (l : List ℕ) → times x l ≡ 0 → 0 < times y l → y ≢ x = λ y l z p e. let a = ap (λ k. times k l) e in absurd (omega (arith, a, z, p)) in
        let support : (e : Place) → Supported all e → Supported after e = λ e. support_stays all id r s at (λ z p. let a = same z in omega (arith, a, p)) e (λ c. absurd (none_some e.node.slot c)) in
        record {
          stored = λ y lt. h.stored y lt ∙ ap some (sym (same y));
          once = λ y. let a = same y in let b = h.once y in omega (arith, a, b);
          marked = λ j u y d p. all_set (λ _ (k : Raising). (z : ℕ) → 0 < times z k.marked → Has k.places z) all id s
              (λ z q. stays z (elsewhere z ms unmarked q) (h.marked id r z at q)) (λ i k n e z q. h.marked i k z e q) j u d y p;
          busy = λ j u y d p. all_set (λ _ (k : Raising). (z : ℕ) → 0 < times z k.busy → Has k.places z × (0 < marks z after)) all id s
              (λ z q. let o = h.busy id r z at q in let a = same z in let b = o.1 in (stays z (elsewhere z bs idle q) o.0, omega (arith, a, b)))
              (λ i k n e z q. let o = h.busy i k z e q in let a = same z in let b = o.1 in (o.0, omega (arith, a, b))) j u d y p;
          climb = λ j u y d p. all_set (λ _ (k : Raising). (z : ℕ) → k.climb ≡ Some z → Has k.places z) all id s (λ z q. absurd (none_some z q)) (λ i k n e z q. h.climb i k z e q) j u d y p;
          supported = λ j u e d m kept p. all_set (λ _ (k : Raising). (c : Place) → Member c k.places → times c.node.slot k.dropped ≡ 0 → 0 < marks c.node.slot after → Supported after c) all id s
              (λ c mc kc pc. let q = cases c mc in support c (h.supported id r c at q.0 (sym (times_else c.node.slot x ds q.1) ∙ kc) (let a = same c.node.slot in omega (arith, a, pc))))
              (λ i k n f c mc kc pc. support c (h.supported i k c f mc kc (let a = same c.node.slot in omega (arith, a, pc)))) j u d e m kept p;
        }

-- the freed slot's state says so
states_gives : (nodes counter : ℕ) (list : List Handle) (words : List ℕ) (all : List Stating) (h : AreStated nodes counter list words all) (id : ℕ) (s : Stating) → get_elem? all id ≡ some s
    → (g : Handle) (t : StateView) → Member t s.states → t.of.slot ≡ g.slot → t.word ≡ free_word g
    → AreStated nodes counter (list ++ g ∷ []) words (set all id (record { states = filter (other_state g.slot) s.states; held = removed g.slot s.held }))
states_gives nodes counter list words all h id s at g t mt of word =
    let u : Stating = record { states = filter (other_state g.slot) s.states; held = removed g.slot s.held } in
    record {
      known = λ j k y d m. all_set (λ _ (z : Stating). (w : StateView) → Member w z.states → IsStated nodes words w) all id u
          (λ w q. h.known id s w at (member_filter (other_state g.slot) w s.states q).0) (λ i z n e w q. h.known i z w e q) j k d y m;
      held_is = all_set (λ _ (z : Stating). map handle_of z.states ≡ z.held) all id u (filtered handle_of g.slot s.states ∙ ap (removed g.slot) (h.held_is id s at)) (λ i z n e. h.held_is i z e);
      free = λ k y le e. ⊎_elim
          (λ (p : (k < length list) × (get_elem? list k ≡ some y)). h.free k y le p.1)
          (λ (p : (k ≡ length list) × (g ≡ y)). subst (λ (z : Handle). get_elem? words (state_at nodes z.slot) ≡ some (free_word z)) p.1
          (ap (λ i. get_elem? words (state_at nodes i)) (sym of) ∙ ((h.known id s t at mt).stands ∙ ap some word)))
          (at_new list g y k e);
    }

-- what a node's going needs of the view: it is an unmarked root, what was below it is dropped, and its state says that it is free
pub record MayGo (v : MarksView) (g : Handle) : Type 0 where
  pub climb : v.climb ≡ None
  pub own : OwnView
  pub has : Member own v.own
  pub slot : own.node.slot ≡ g.slot
  pub root : own.parent ≡ None
  pub unmarked : times g.slot v.marked ≡ 0
  pub idle : times g.slot v.busy ≡ 0
  pub childless : Childless v g.slot
  pub state : StateView
  pub known : Member state v.states
  pub of : state.of ≡ g
  pub word : state.word ≡ free_word (later g)

module _ (nodes : ℕ) (words : List ℕ) (views : List MarksView) (h : Marked nodes words views) (id : ℕ) (v : MarksView) (at : get_elem? views id ≡ some v) (live : v.claims.live ≡ true) (empty : v.claims.branch ≡ []) where
  pub gives_at : h.counter ≡ 0 → (g : Handle) → Member g v.claims.held → g.generation < 4294967295 → MayGo v g
      → Marked nodes (set words (claiming.place nodes (h.head + length h.list)) (word_of (later g))) (set views id (gave g v))
  gives_at none g has next go =
      let x = g.slot in
      let w = gave g v in
      let i = claiming.place nodes (h.head + length h.list) in
      let n = word_of (later g) in
      let ws = set words i n in
      let held = member_times g v.claims.held has in
      let mine = all_held nodes words views h id v at live empty x in
      let low = held_low nodes words views h x (omega (arith, held, mine)) in
      let short : i ≤ nodes = omega (arith, mod-lt (h.head + length h.list) {m = nodes} (omega (arith, low))) in
      let at_tree = at_map tree_of views id v at in
      let at_marks = at_map marks_of views id v at in
      let alone_in = nobody_else nodes words views h id v at live empty in
      let unshared : (s : SharedView) → Member s v.shared → ⊥ = λ s q. absurd (subst (Member s) (nothing_shared nodes words views h id v at live empty) q) in
      let cases : (e : Place) → Member e (places w) → Member e (places v) × (e.node.slot ≢ x) = each_place w (λ e. Member e (places v) × (e.node.slot ≢ x))
      (λ o mo. let q = member_filter (other_own x) o v.own mo in (place_own v o q.0, other_slot x o.node.slot q.1))
      (λ s ms. absurd (unshared s ms)) in
      let stays : (y : ℕ) → y ≢ x → Has (places v) y → Has (places w) y = λ y ne p. each_has v (λ z. z ≢ x → Has (places w) z)
      (λ o mo n. has_own w o (filter_member (other_own x) o v.own mo (not_slot x o.node.slot n)))
      (λ s ms _. absurd (unshared s ms)) y p ne in
      step_to nodes words views h id v at w ws h.counter h.head (h.list ++ later g ∷ []) h.parent (let a = h.long in let b = length-set words i n in omega (arith, a, b))
      (new_part claims_of (claiming.Claimed nodes h.counter h.head (h.list ++ later g ∷ []) ws) views id w
      (turns.gives_at nodes h.counter h.head h.list words (map claims_of views) h.claims id v.claims (at_map claims_of views id v at) live empty none g has next))
      (new_part rights_of (Divided ways) views id w (changes ways (map rights_of views) id (rights_of v) h.rights (at_map rights_of views id v at) live w.own
      (λ o mo. inl (o, (member_filter (other_own x) o v.own mo).0, refl))
      (λ o k mo mk is. (h.rights.own id (rights_of v) (at_map rights_of views id v at)).single o k (member_filter (other_own x) o v.own mo).0 (member_filter (other_own x) k v.own mk).0 is)))
      (new_part tree_of (Tree nodes h.parent ws) views id w
      (tree_gives x (places v) (places w) id cases stays nodes h.parent ws (map tree_of views) (tree_else nodes h.parent words (map tree_of views) i n (λ y q. omega (arith, q, short)) h.tree) v.own v.dropped v.claims.held at_tree
      (ap h.parent (sym go.slot) ∙ (h.tree.parents id (tree_of v) (own_place v.claims.branch go.own) at_tree (place_own v go.own go.has) ∙ go.root))
      (omega (arith, mine, held_once nodes words views h id v at x)) held
      (each_place v (λ e. e.parent ≡ Some x → 0 < times e.node.slot v.dropped) go.childless (λ s ms. absurd (unshared s ms)))
      (λ j k e ne d me. let u = at_mapped tree_of views j k d in alone_in j u.0 e ne u.1 (subst (λ (z : Grown). Member e z.places) (sym u.2) me))))
      (new_part marks_of (Climbing nodes ws) views id w
      (subst (λ c. Climbing nodes ws (set (map marks_of views) id (record { places = places w; dropped = w.dropped; marked = v.marked; busy = v.busy; climb = c }))) (sym go.climb)
      (climbs_gives x (places v) (places w) id cases stays nodes ws (map marks_of views) (climbs_else nodes words (map marks_of views) i n (λ y q. omega (arith, q, short)) h.climbs) v.dropped v.marked v.busy
      (at_marks ∙ ap (λ c. some (record { places = places v; dropped = v.dropped; marked = v.marked; busy = v.busy; climb = c })) go.climb) go.unmarked go.idle)))
      (new_part states_of (AreStated nodes h.counter (h.list ++ later g ∷ []) ws) views id w
      (states_gives nodes h.counter h.list ws (map states_of views) (states_else nodes h.counter h.list words (map states_of views) i n (λ y q. omega (arith, q, short)) h.states) id (states_of v) (at_map states_of views id v at)
      (later g) go.state go.known (ap (λ (z : Handle). z.slot) go.of) go.word))
      (h.met id v at)

pub gives : (nodes slots id i n : ℕ) (v : MarksView) (hs : List (ℕ × Unit {0})) (g : Handle) → v.claims.counter ≡ Some 0 → Member g v.claims.held → g.generation < 4294967295 → MayGo v g
    → i ≡ claiming.place v.claims.count (v.claims.head + length v.claims.list) → n ≡ word_of (later g)
    → Allows (λ (s : State (Unit {0}) MarksView). Marked nodes s.words s.views) slots id (v, hs) i (λ _. n) (λ _. Gave (step slots i n 0 vacant) (v, hs) n)
gives nodes slots id i n v hs g knows has next go spot is s h sized at fits =
    let mine = at_map claims_of s.views id v at in
    let f = h.claims.each id v.claims mine in
    let p = sole_parts v.claims.counter h.counter 0 v.claims knows f.sole in
    let there : claiming.place nodes (h.head + length h.list) ≡ i = sym (spot ∙ (λ j. claiming.place (f.count_is p.1 j) (f.head_is p.1 j + length (f.list_is p.1 j)))) in
    let done = gives_at nodes s.words s.views h id v at p.1 p.2 (sym p.0) g has next go in (
      gave g v,
      keeps,
      tt,
      subst (λ (z : ℕ × ℕ). Marked nodes (set s.words z.0 z.1) (set s.views id (gave g v))) (λ j. (there j, sym is j)) done,
      λ k had below e.
          let same = one_given nodes h.counter h.head h.list s.words (map claims_of s.views) h.claims id v.claims mine p.1 p.2 (sym p.0) g k has had next below (sym is ∙ e) in
          λ j. (
            record v {
              claims = record v.claims { list = v.claims.list ++ same j ∷ []; held = removed (same j).slot v.claims.held };
              own = filter (other_own (same j).slot) v.own;
              dropped = filter (other (same j).slot) v.dropped;
              states = filter (other_state (same j).slot) v.states;
            },
            hs,
          ),
    )
