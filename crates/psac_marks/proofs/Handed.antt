-- What passes carry over forks, joins and rewinds.
use Rattle.psac_marks.proofs.Terms.{◌≡◌, ℕ, ◌+◌, ◌-◌, ◌<◌, ◌++◌, map, length, take, Bool, refl, ◌∙◌, subst, ⊎_elim, filter, map-append, Member, stays, goes, lends, member_cases, member_filter, member_map, OwnView, SharedView, StateView, MarksView, Place, own_place, shared_place, places, handle_of, ways, left_of, right_of, now_shared, joined, regained, rewound, Holds, Carries, Ringed, ringed_rewound}
use Rattle.psac_slots.specs.Claiming as claiming
use Rattle.psac_marks.proofs.Carrying.{renewed, ring_here}
use Rattle.psac_marks.proofs.Parts.{each_place, place_own, place_shared}

module _ (nodes head room words : ℕ) (v : MarksView) (c : Carries nodes head room words v) where
  ring : Ringed nodes head room v.claims
  ring = ring_here nodes head room words v c

  pub carries_regained : (n : ℕ) → Carries nodes head room words (regained n v)
  carries_regained n = renewed nodes head room words v c head room (regained n v) ring c.climb c.held_is c.out c.low

  pub carries_rewound : (gone : ℕ) → length (take (claiming.counted v.claims.counter) v.claims.list) ≡ gone → Carries nodes (claiming.turned nodes (head + gone)) (room - gone) words (rewound v)
  carries_rewound gone e = renewed nodes head room words v c (claiming.turned nodes (head + gone)) (room - gone) (rewound v) (ringed_rewound nodes head room v.claims ring gone e) c.climb c.held_is c.out c.low

  own_low : (o : OwnView) → Member o v.own → o.node.slot < nodes
  own_low o m = c.low (own_place v.claims.branch o) (place_own v o m)

  module _ (shared to_right : ℕ → Bool) where
    told_low : (s : SharedView) → Member s (now_shared shared to_right v) → s.node.slot < nodes
    told_low s m = ⊎_elim
        (λ p. c.low (shared_place s) (place_shared v s p))
        (λ p. let q = member_map (ways.lend v.claims.branch) s (filter (lends ways shared to_right) v.own) p in
        subst (λ (z : SharedView). z.node.slot < nodes) q.2 (own_low q.0 (member_filter (lends ways shared to_right) q.0 v.own q.1).0))
        (member_cases s v.shared (map (ways.lend v.claims.branch) (filter (lends ways shared to_right) v.own)) m)

    side_low : (u : MarksView) → u.shared ≡ now_shared shared to_right v → ((o : OwnView) → Member o u.own → Member o v.own) → (e : Place) → Member e (places u) → e.node.slot < nodes
    side_low u told mine = each_place u (λ e. e.node.slot < nodes) (λ o m. own_low o (mine o m)) (λ s m. told_low s (subst (Member s) told m))

    pub carries_left : Carries nodes head room words (left_of shared to_right v)
    carries_left = renewed nodes head room words v c head room (left_of shared to_right v) ring c.climb c.held_is c.out (side_low (left_of shared to_right v) refl (λ o m. (member_filter (stays ways shared to_right) o v.own m).0))

    pub carries_right : Carries nodes head room words (right_of shared to_right v)
    carries_right = renewed nodes head room words v c head room (right_of shared to_right v) (refl, c.nodes_is, c.head_is, c.room_is, c.room_fits, c.head_fits) refl refl (λ t m. absurd m) (side_low (right_of shared to_right v) refl (λ o m. (member_filter (goes ways shared to_right) o v.own m).0))

  -- a load tells that what both had is the table's
  pub carries_joined : (n m o p : ℕ) (w : MarksView) → Carries n m o p w → ((e : Place) → Member e (places (joined v w)) → e.node.slot < nodes) → ((t : StateView) → Member t (joined v w).states → t.of.slot < nodes) → Carries nodes head room words (joined v w)
  carries_joined n m o p w d low stated = renewed nodes head room words v c head room (joined v w) ring c.climb
      (map-append handle_of v.states w.states ∙ (λ i. c.held_is i ++ d.held_is i))
      (λ t q. (⊎_elim (λ a. (c.out t a).0) (λ a. (d.out t a).0) (member_cases t v.states w.states q), stated t q))
      low

pub holds_rewound : (v : MarksView) → Holds v → Holds (rewound v)
holds_rewound v h = record { once = h.once; out = h.out; owned = h.owned; marked = h.marked; busy = h.busy; dropped = h.dropped }
