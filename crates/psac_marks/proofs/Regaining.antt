-- A sole pass learns the counter, and sets it back.
use Rattle.psac_marks.proofs.Terms.{◌≡◌, ℕ, ◌+◌, List, [], map, set, take, drop, length, true, refl, sym, ap, ◌∙◌, subst, arith, Some, length-set, slice_index, set-get_or, some, none as vacant, get_elem?, State, Allows, keeps, step, at_map, Handle, Divided, sole_parts, slice_at, at_drop, MarksView, claims_of, ways, rights_of, tree_of, marks_of, Stating, states_of, Tree, Climbing, AreStated, Marked, regained, Regained, rewound, Rewound}
use Rattle.psac_slots.specs.Claiming as claiming
use Rattle.psac_slots.proofs.Rewinds as turns
use Rattle.psac_marks.proofs.Parts.{same_part, new_part}
use Rattle.psac_marks.proofs.Keeps.{step_to}
use Rattle.psac_marks.proofs.Trees.{tree_else}
use Rattle.psac_marks.proofs.Climbs.{climbs_else}
use Rattle.psac_marks.proofs.Stays.{states_else}
use Rattle.psac_marks.proofs.Alone.{nothing_shared}

-- the list is its undrawn part
states_rewound : (nodes counter : ℕ) (list : List Handle) (words : List ℕ) (all : List Stating) → AreStated nodes counter list words all → AreStated nodes 0 (drop counter list) words all
states_rewound nodes counter list words all h = record {
  known = h.known;
  held_is = h.held_is;
  free = λ k x le e. h.free (counter + k) x (omega arith) (sym (at_drop list counter k) ∙ e);
}

module _ (nodes : ℕ) (words : List ℕ) (views : List MarksView) (h : Marked nodes words views) (id : ℕ) (v : MarksView) (at : get_elem? views id ≡ some v) (live : v.claims.live ≡ true) (empty : v.claims.branch ≡ []) where
  pub regains_at : Marked nodes words (set views id (regained h.counter v))
  regains_at =
      let w = regained h.counter v in
      step_to nodes words views h id v at w words h.counter h.head h.list h.parent h.long
      (new_part claims_of (claiming.Claimed nodes h.counter h.head h.list words) views id w (turns.learns_at nodes h.counter h.head h.list words (map claims_of views) h.claims id v.claims (at_map claims_of views id v at) live empty))
      (same_part rights_of (Divided ways) views id v w at refl h.rights)
      (same_part tree_of (Tree nodes h.parent words) views id v w at refl h.tree)
      (same_part marks_of (Climbing nodes words) views id v w at refl h.climbs)
      (same_part states_of (AreStated nodes h.counter h.list words) views id v w at refl h.states)
      (h.met id v at)

  pub rewinds_at : v.claims.counter ≡ Some h.counter → Marked nodes (set words 0 0) (set views id (rewound v))
  rewinds_at knows =
      let w = rewound v in
      let front = claiming.turned nodes (h.head + length (take h.counter h.list)) in
      let list = drop h.counter h.list in
      let ws = set words 0 0 in
      step_to nodes words views h id v at w ws 0 front list h.parent (let a = h.long in let b = length-set words 0 0 in omega (arith, a, b))
      (new_part claims_of (claiming.Claimed nodes 0 front list ws) views id w (turns.rewinds_at nodes h.counter h.head h.list words (map claims_of views) h.claims id v.claims (at_map claims_of views id v at) live empty knows))
      (same_part rights_of (Divided ways) views id v w at refl h.rights)
      (same_part tree_of (Tree nodes h.parent ws) views id v w at refl (tree_else nodes h.parent words (map tree_of views) 0 0 (λ y q. omega (arith, q)) h.tree))
      (same_part marks_of (Climbing nodes ws) views id v w at refl (climbs_else nodes words (map marks_of views) 0 0 (λ y q. omega (arith, q)) h.climbs))
      (same_part states_of (AreStated nodes 0 list ws) views id v w at refl
      (states_else nodes 0 list words (map states_of views) 0 0 (λ y q. omega (arith, q)) (states_rewound nodes h.counter h.list words (map states_of views) h.states)))
      (h.met id v at)

module _ (nodes slots id : ℕ) (v : MarksView) (hs : List (ℕ × Unit {0})) where
  pub regains : v.claims.live ≡ true → v.claims.branch ≡ [] → Allows (λ (s : State (Unit {0}) MarksView). Marked nodes s.words s.views) slots id (v, hs) 0 (λ n. n) (Regained (step slots 0 0 0 vacant) (v, hs))
  regains live empty s h sized at fits =
      let n = slice_index s.words 0 in
      let e = slice_at s.words 0 h.counter h.claims.counter_is in (
        regained n v,
        keeps,
        tt,
        subst (λ (ws : List ℕ). Marked nodes ws (set s.views id (regained n v))) (sym (set-get_or s.words 0 0)) (subst (λ k. Marked nodes s.words (set s.views id (regained k v))) (sym e) (regains_at nodes s.words s.views h id v at live empty)),
        (
          refl,
          nothing_shared nodes s.words s.views h id v at live empty,
          subst (λ z. claiming.DrewBelow z v.claims) (sym e) (turns.drawn_all nodes h.counter h.head h.list s.words (map claims_of s.views) h.claims id v.claims (at_map claims_of s.views id v at) live empty),
        ),
      )

  pub rewinds : claiming.IsSole v.claims → Allows (λ (s : State (Unit {0}) MarksView). Marked nodes s.words s.views) slots id (v, hs) 0 (λ _. 0) (λ _. Rewound (step slots 0 0 0 vacant) (v, hs) 0)
  rewinds knows s h sized at fits =
      let p = sole_parts v.claims.counter h.counter knows.0 v.claims knows.1 (h.claims.each id v.claims (at_map claims_of s.views id v at)).sole in
      (rewound v, keeps, tt, rewinds_at nodes s.words s.views h id v at p.1 p.2 (knows.1 ∙ ap Some p.0), refl)
