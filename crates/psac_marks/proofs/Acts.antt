-- What each step of one pass allows.
use Rattle.psac_marks.proofs.Terms.{◌≡◌, ◌≢◌, ℕ, ◌+◌, ◌*◌, ◌%◌, ◌^◌, ◌<◌, List, map, set, true, refl, sym, ap, ◌∙◌, subst, ⊎_elim, arith, Option, Some, None, slice_index, set-get_or, cases_eq, some, none as vacant, get_elem?, State, Allows, keeps, step, at_map, set_again, Handle, Member, times, sum_at, StateView, MarksView, mark_at, parent_at, state_at, parent_word, Place, places, claims_of, tree_of, Raising, marks_of, states_of, Has, HasOwn, marks, Marked, drew, Drew, Lacks, Tells, Loaded, Settled, hung, Hung, stated, Stated, raised, Raised, cleared, Cleared, asked, Asked, detached, Detached, MayRaise, entry_at, later_member}
use Rattle.psac_slots.specs.Claiming as claiming
use Rattle.psac_slots.proofs.Acts as slots
use Rattle.psac_marks.proofs.Keeps.{undrawn, held_low, place_low, lacks, unmarked, undropped, drops_own, shared_kept, one_parent, count_is, own_alone, own_mark, draws_at, raises_first, raises_second, clears_at, counts_at, detaches_at, states_at, hangs_at}
use Rattle.psac_marks.proofs.Holding.{holds_at}
use Rattle.psac_marks.proofs.Families.{closed_at}
use Rattle.psac_marks.proofs.Alone.{all_held, free_state}

same_words : (nodes : ℕ) (words : List ℕ) (views : List MarksView) (i : ℕ) → Marked nodes words views → Marked nodes (set words i (slice_index words i)) views
same_words nodes words views i h = subst (λ (ws : List ℕ). Marked nodes ws views) (sym (set-get_or words i 0)) h

word_parent : (a b : Option ℕ) → parent_word a ≡ parent_word b → a ≡ b
word_parent None None e = refl
word_parent None (Some b) e = absurd (omega (arith, e))
word_parent (Some a) None e = absurd (omega (arith, e))
word_parent (Some a) (Some b) e = ap Some (omega (arith, e))

module _ (nodes slots_ id : ℕ) (v : MarksView) (hs : List (ℕ × Unit {0})) (live : v.claims.live ≡ true) where
  pub draws : v.claims.over ≡ 0 → Allows (λ (s : State (Unit {0}) MarksView). Marked nodes s.words s.views) slots_ id (v, hs) 0 (λ n. (n + 1) % 2 ^ 64) (Drew (step slots_ 0 1 0 vacant) (v, hs))
  draws none s h sized at fits =
      let c = h.counter in
      let e : slice_index s.words 0 ≡ c = slots.slice_at s.words 0 c h.claims.counter_is in
      let list_is = (h.claims.each id v.claims (at_map claims_of s.views id v at)).list_is live in
      let free : (y : Handle) → Member y (claiming.entry v.claims.list c) → Lacks v y.slot × (times y.slot v.marked ≡ 0) × (y.slot < v.claims.count) × (times y.slot v.dropped ≡ 0) = λ y m.
      let d = entry_at h.list c y (subst (λ (l : List Handle). Member y (claiming.entry l c)) list_is m) in
      let u = undrawn nodes s.words s.views h y (later_member h.list c c y (omega arith) d) in
      let k = count_is nodes s.words s.views h id v at live in
      let low = u.1 in
      (lacks nodes s.words s.views h y.slot u.0 id v at, unmarked nodes s.words s.views h y.slot u.0 id v at, omega (arith, low, k), undropped nodes s.words s.views h y.slot u.0 id v at) in (
        drew v (slice_index s.words 0),
        keeps,
        tt,
        subst (λ (k : ℕ). Marked nodes (set s.words 0 ((k + 1) % 2 ^ 64)) (set s.views id (drew v k))) (sym e) (draws_at nodes s.words s.views h id v at live none),
        record {
          drawn = refl;
          new = subst (λ (k : ℕ). (y : Handle) → Member y (claiming.entry v.claims.list k) → Lacks v y.slot) (sym e) (λ y m. (free y m).0);
          unmarked = subst (λ (k : ℕ). (y : Handle) → Member y (claiming.entry v.claims.list k) → times y.slot v.marked ≡ 0) (sym e) (λ y m. (free y m).1);
          kept = subst (λ (k : ℕ). (y : Handle) → Member y (claiming.entry v.claims.list k) → times y.slot v.dropped ≡ 0) (sym e) (λ y m. (free y m).3);
          low = subst (λ (k : ℕ). (y : Handle) → Member y (claiming.entry v.claims.list k) → y.slot < v.claims.count) (sym e) (λ y m. (free y m).2);
        },
      )

  -- what a load tells
  tells : (i : ℕ) (s : State (Unit {0}) MarksView) → Marked nodes s.words s.views → get_elem? s.views id ≡ some v → slice_index s.words i < 18446744073709551616 → Tells v i (slice_index s.words i)
  tells i s h at fits =
      let mine = at_map claims_of s.views id v at in
      let old = slots.tells nodes h.counter h.head h.list s.words (map claims_of s.views) h.claims id v.claims mine live i in
      let g = h.claims.each id v.claims mine in
      let c = g.count_is live in
      let word : (k x : ℕ) → i ≡ k → get_elem? s.words k ≡ some x → slice_index s.words i ≡ x = λ k x is e. slots.slice_at s.words i x (ap (get_elem? s.words) is ∙ e) in
      let low : (e : Place) → Member e (places v) → e.node.slot < nodes = λ e m. place_low nodes s.words s.views h id v e at m in
      record {
        entry = old.entry;
        counter = old.counter;
        once = old.once;
        whole = old.whole;
        held_is = h.states.held_is id (states_of v) (at_map states_of s.views id v at);
        low = λ e m. let a = low e m in omega (arith, a, c);
        parent = λ e m is. word (parent_at nodes e.node.slot) (parent_word e.parent) (is ∙ ap (λ k. parent_at k e.node.slot) c)
            (h.tree.hung e.node.slot (low e m) ∙ ap (λ o. some (parent_word o)) (h.tree.parents id (tree_of v) e (at_map tree_of s.views id v at) m));
        above = λ e p m kept is. let a = held_low nodes s.words s.views h p (h.tree.above id (tree_of v) e p (at_map tree_of s.views id v at) m kept is) in omega (arith, a, c);
        state = λ t m is. word (state_at nodes t.of.slot) t.word (is ∙ ap (λ k. state_at k t.of.slot) c) (h.states.known id (states_of v) t (at_map states_of s.views id v at) m).stands;
        state_low = λ t m. let a = (h.states.known id (states_of v) t (at_map states_of s.views id v at) m).low in omega (arith, a, c);
        free = λ k x knows below none is.
            let p = slots.sole_parts v.claims.counter h.counter k v.claims knows g.sole in
            let q = free_state nodes s.words s.views h id v at live p.2 x (omega (arith, below, c)) none in
            (q.0, word (state_at nodes x) (2 * q.0) (is ∙ ap (λ m. state_at m x) c) q.1, lacks nodes s.words s.views h x (all_held nodes s.words s.views h id v at live p.2 x ∙ none) id v at);
        holds = λ k knows. holds_at nodes s.words s.views h id v at k knows;
        closed = closed_at nodes s.words s.views h id v at live;
        dropped = drops_own nodes s.words s.views h id v at;
        kept = shared_kept nodes s.words s.views h id v at;
      }

  pub loads : (i : ℕ) → Allows (λ (s : State (Unit {0}) MarksView). Marked nodes s.words s.views) slots_ id (v, hs) i (λ n. n) (Loaded (step slots_ i 0 0 vacant) (v, hs))
  loads i s h sized at fits = (
    v,
    keeps,
    tt,
    same_words nodes s.words (set s.views id v) i (subst (λ (us : List MarksView). Marked nodes s.words us) (sym (set_again s.views id v at)) h),
    record { same = refl; tells = tells i s h at fits },
  )

  pub settles : (i : ℕ) → Allows (λ (s : State (Unit {0}) MarksView). Marked nodes s.words s.views) slots_ id (v, hs) i (λ n. n) (Settled (step slots_ i 0 0 vacant) (v, hs))
  settles i s h sized at fits =
      let w : MarksView = record v { met = None } in (
        w,
        keeps,
        tt,
        same_words nodes s.words (set s.views id w) i (counts_at nodes s.words s.views h id v at w refl refl refl refl refl tt),
        record { settled = refl; meeting = h.met id v at; tells = tells i s h at fits },
      )

  pub hangs : (x : ℕ) (par : Option ℕ) (i n : ℕ) → HasOwn v.own x → ((p : ℕ) → par ≡ Some p → Has (places v) p × (times x v.marked ≡ 0)) → i ≡ parent_at v.claims.count x → n ≡ parent_word par
      → Allows (λ (s : State (Unit {0}) MarksView). Marked nodes s.words s.views) slots_ id (v, hs) i (λ _. n) (λ _. Hung (step slots_ i n 0 vacant) (v, hs) n)
  hangs x par i n own may is new s h sized at fits =
      let z : i ≡ parent_at nodes x = is ∙ ap (λ k. parent_at k x) (count_is nodes s.words s.views h id v at live) in (
        hung x par v,
        keeps,
        tt,
        subst (λ (p : ℕ × ℕ). Marked nodes (set s.words p.0 p.1) (set s.views id (hung x par v))) (λ j. (sym z j, sym new j)) (hangs_at nodes s.words s.views h id v at live x par own may),
        λ y q at_y word. let e : x ≡ y = omega (arith, at_y, is) in let d = word_parent par q (sym new ∙ word) in λ j. (hung (e j) (d j) v, hs),
      )

  pub states : (t : StateView) (i n : ℕ) → Member t v.states → i ≡ state_at v.claims.count t.of.slot
      → Allows (λ (s : State (Unit {0}) MarksView). Marked nodes s.words s.views) slots_ id (v, hs) i (λ _. n) (λ _. Stated (step slots_ i n 0 vacant) (v, hs) n)
  states t i n has is s h sized at fits =
      let z : i ≡ state_at nodes t.of.slot = is ∙ ap (λ k. state_at k t.of.slot) (count_is nodes s.words s.views h id v at live) in (
        stated t.of.slot n v,
        keeps,
        tt,
        subst (λ k. Marked nodes (set s.words k n) (set s.views id (stated t.of.slot n v))) (sym z) (states_at nodes s.words s.views h id v at t n has),
        λ y at_y. let e : t.of.slot ≡ y = omega (arith, at_y, is) in λ j. (stated (e j) n v, hs),
      )

  pub raises : (e0 : Place) (i : ℕ) → Member e0 (places v) → MayRaise v e0.node.slot → i ≡ mark_at v.claims.count e0.node.slot
      → Allows (λ (s : State (Unit {0}) MarksView). Marked nodes s.words s.views) slots_ id (v, hs) i (λ _. 1) (Raised (step slots_ i 1 0 vacant) (v, hs))
  raises e0 i has may is s h sized at fits =
      let x = e0.node.slot in
      let z : i ≡ mark_at nodes x = is ∙ ap (λ k. mark_at k x) (count_is nodes s.words s.views h id v at live) in
      let n = slice_index s.words i in
      let all = map marks_of s.views in
      let e : n ≡ marks x all = slots.slice_at s.words i (marks x all) (ap (get_elem? s.words) z ∙ h.climbs.stored x (place_low nodes s.words s.views h id v e0 at has)) in
      let rule : (k : ℕ) → n ≡ k → Marked nodes (set s.words (mark_at nodes x) 1) (set s.views id (raised x e0.parent k v)) → Marked nodes (set s.words i 1) (set s.views id (raised x e0.parent n v)) = λ k q r.
      subst (λ (p : ℕ × ℕ). Marked nodes (set s.words p.0 1) (set s.views id (raised x e0.parent p.1 v))) (λ j. (sym z j, sym q j)) r in (
        raised x e0.parent n v,
        keeps,
        tt,
        ⊎_elim
            (λ (q : n ≡ 0). rule 0 q (raises_first nodes s.words s.views h id v at e0 has may (sym e ∙ q)))
            (λ (q : n ≢ 0). let o : n ≡ 1 = omega (arith, e, h.climbs.once x, q) in rule 1 o (raises_second nodes s.words s.views h id v at e0 has may (sym e ∙ o)))
            (cases_eq n 0),
        record {
          becomes = λ d m at_d. let same : x ≡ d.node.slot = omega (arith, at_d, is) in let par = one_parent nodes s.words s.views h id id v v e0 d at at has m same in λ j. (raised (same j) (par j) n v, hs);
          found = λ y at_y p.
              let same : x ≡ y = omega (arith, at_y, is) in
              let mine = at_map marks_of s.views id v at in
              let there : 0 < marks y all = ⊎_elim
              (λ (q : 0 < times y v.marked). let a = sum_at (λ (r : Raising). times y r.marked) all id (marks_of v) mine in omega (arith, a, q))
              (λ (q : 0 < times y v.busy). (h.climbs.busy id (marks_of v) y mine q).1)
              p in
              let f = ap (λ k. marks k all) same in omega (arith, there, f, e);
        },
      )

  pub clears : (x i : ℕ) → x < v.claims.count
      → ((s : State (Unit {0}) MarksView) → (h : Marked nodes s.words s.views) → get_elem? s.views id ≡ some v
      → ((j : ℕ) (u : MarksView) (e : Place) → j ≢ id → get_elem? s.views j ≡ some u → Member e (places u) → e.node.slot ≢ x)
      × ((j : ℕ) (u : MarksView) (e : Place) → get_elem? s.views j ≡ some u → Member e (places u) → times e.node.slot u.dropped ≡ 0 → e.parent ≡ Some x → marks e.node.slot (map marks_of s.views) ≡ 0))
      → i ≡ mark_at v.claims.count x
      → Allows (λ (s : State (Unit {0}) MarksView). Marked nodes s.words s.views) slots_ id (v, hs) i (λ _. 0) (λ _. Cleared (step slots_ i 0 0 vacant) (v, hs) 0)
  clears x i small may is s h sized at fits =
      let c = count_is nodes s.words s.views h id v at live in
      let z : i ≡ mark_at nodes x = is ∙ ap (λ k. mark_at k x) c in
      let m = may s h at in (
        cleared x v,
        keeps,
        tt,
        subst (λ k. Marked nodes (set s.words k 0) (set s.views id (cleared x v))) (sym z) (clears_at nodes s.words s.views h id v at x (omega (arith, small, c)) m.0 m.1),
        λ y at_y. let e : x ≡ y = omega (arith, at_y, is) in λ j. (cleared (e j) v, hs),
      )

  pub asks : (i : ℕ) → Allows (λ (s : State (Unit {0}) MarksView). Marked nodes s.words s.views) slots_ id (v, hs) i (λ n. n) (Asked (step slots_ i 0 0 vacant) (v, hs))
  asks i s h sized at fits =
      let c = count_is nodes s.words s.views h id v at live in (
        asked v,
        keeps,
        tt,
        same_words nodes s.words (set s.views id (asked v)) i (counts_at nodes s.words s.views h id v at (asked v) refl refl refl refl refl (h.met id v at)),
        record {
          counted = refl;
          closed = closed_at nodes s.words s.views h id v at live;
          tells = λ x own is.
              let z : i ≡ mark_at nodes x = is ∙ ap (λ k. mark_at k x) c in
              let low : x < nodes = subst (λ y. y < nodes) own.2 (place_low nodes s.words s.views h id v (Rattle.psac_marks.specs.Marked.own_place v.claims.branch own.0) at (Rattle.psac_marks.proofs.Parts.place_own v own.0 own.1)) in
              slots.slice_at s.words i (times x v.marked) (ap (get_elem? s.words) z ∙ (h.climbs.stored x low ∙ ap some (own_mark nodes s.words s.views h id v at x (own_alone nodes s.words s.views h id v at x own))));
        },
      )

  pub detaches : (x i : ℕ) → HasOwn v.own x → i ≡ mark_at v.claims.count x
      → Allows (λ (s : State (Unit {0}) MarksView). Marked nodes s.words s.views) slots_ id (v, hs) i (λ n. n) (Detached (step slots_ i 0 0 vacant) (v, hs))
  detaches x i own is s h sized at fits = (
    detached x v,
    keeps,
    tt,
    same_words nodes s.words (set s.views id (detached x v)) i (detaches_at nodes s.words s.views h id v at x own),
    λ y at_y. let e : x ≡ y = omega (arith, at_y, is) in λ j. (detached (e j) v, hs),
  )
