-- What each step of a table of values allows.
use Rattle.psac_values.proofs.Terms.{◌≡◌, ℕ, suc, ◌+◌, ◌*◌, ◌%◌, ◌^◌, ◌<◌, List, [], ◌∷◌, ◌++◌, map, length, set, take, drop, Bool, true, false, refl, sym, ap, ◌∙◌, subst, arith, Some, None, slice_index, filter, set-get_or, some, none as vacant, get_elem?, State, Allows, keeps, step, set_again, set_else, Handle, Member, word_of, OwnedView, StateView, ValueView, claims_of, state_at, value_at, Valued, Rule, drew, Drew, Tells, Loaded, looked, Looked, wrote_word, Wrote, marked, Marked, later, removed, other_owned, other_state, free_word, Lacks, left_of, right_of, met, spent, learned, Learned, rewound, Rewound, gave, Gave, Settled, Splits, Joins}
use Rattle.psac_slots.specs.Claiming as claiming
use Rattle.psac_slots.proofs.Acts as slots
use Rattle.psac_slots.proofs.Rewinds as turns
use Rattle.psac_values.proofs.Keeps.{lacks, at_claims, draws_at, new_lacks, new_low, quiet_at, writes_at, marks_at, apart_places}
use Rattle.psac_values.proofs.Soles.{nothing_known, all_held, free_state, learns_at, rewinds_at, gives_at}
use Rattle.psac_values.proofs.Sides.{splits_at, joins_at}

module _ (fixed count : ℕ) where
  pub draws : (n id : ℕ) (v : ValueView) (hs : List (ℕ × Unit {0})) → v.claims.live ≡ true → v.claims.over ≡ 0
      → Allows (λ (s : State (Unit {0}) ValueView). Rule fixed count s.words s.views) n id (v, hs) 0 (λ k. (k + 1) % 2 ^ 64) (Drew (step n 0 1 0 vacant) (v, hs))
  draws n id v hs live none s h sized at fits =
      let c = h.0 in
      let e = slots.slice_at s.words 0 c h.3.claims.counter_is in (
        drew v (slice_index s.words 0),
        keeps,
        tt,
        subst (λ (k : ℕ). Rule fixed count (set s.words 0 ((k + 1) % 2 ^ 64)) (set s.views id (drew v k))) (sym e) (suc c, h.1, h.2, draws_at fixed count c h.1 h.2 s.words s.views h.3 id v at live none),
        record {
          drawn = refl;
          new = subst (λ (k : ℕ). (x : Handle) → Member x (claiming.entry v.claims.list k) → Lacks v (v.fixed + x.slot)) (sym e) (new_lacks fixed count c h.1 h.2 s.words s.views h.3 id v at live);
          low = subst (λ (k : ℕ). (x : Handle) → Member x (claiming.entry v.claims.list k) → x.slot < v.claims.count) (sym e) (new_low fixed count c h.1 h.2 s.words s.views h.3 id v at live);
        },
      )

  module _ (n id i : ℕ) (v : ValueView) (hs : List (ℕ × Unit {0})) (live : v.claims.live ≡ true) where
    -- what a load tells
    tells : (s : State (Unit {0}) ValueView) → Rule fixed count s.words s.views → get_elem? s.views id ≡ some v → slice_index s.words i < 18446744073709551616 → Tells v i (slice_index s.words i)
    tells s h at fits =
        let mine = at_claims fixed count h.0 h.1 h.2 s.words s.views h.3 id v at in
        let old = slots.tells count h.0 h.1 h.2 s.words (map claims_of s.views) h.3.claims id v.claims mine live i in
        let f = h.3.each id v at in
        let g = h.3.claims.each id v.claims mine in
        let count_is = g.count_is live in
        let word : (k x : ℕ) → i ≡ k → get_elem? s.words k ≡ some x → slice_index s.words i ≡ x = λ k x is e. slots.slice_at s.words i x (ap (get_elem? s.words) is ∙ e) in
        record {
          entry = old.entry;
          counter = old.counter;
          mine = λ w j x m is e. word (value_at count w.of.slot j) x (is ∙ ap (λ k. value_at k w.of.slot j) count_is) ((f.mine w m).stands j x e);
          known = λ w j x m is e. word (value_at count w.of.slot j) x (is ∙ ap (λ k. value_at k w.of.slot j) count_is) ((f.known w m).stands j x e);
          state = λ t m is. word (state_at count t.of.slot) t.word (is ∙ ap (λ k. state_at k t.of.slot) count_is) (f.states t m).stands;
          free = λ c k knows low none is.
              let p = slots.sole_parts v.claims.counter h.0 c v.claims knows g.sole in
              let q = free_state fixed count h.0 h.1 h.2 s.words s.views h.3 id v at live p.2 k (subst (λ m. k < m) count_is low) none in
              (q.0, word (state_at count k) (2 * q.0) (is ∙ ap (λ m. state_at m k) count_is) q.1, subst (λ m. Lacks v (m + k)) (sym (f.fixed_is live)) (lacks fixed count h.0 h.1 h.2 s.words s.views h.3 k (all_held fixed count h.0 h.1 h.2 s.words s.views h.3 id v at live p.2 k ∙ none) id v at));
          once = old.once;
          whole = old.whole;
          held_is = f.held_is;
        }

    pub loads : Allows (λ (s : State (Unit {0}) ValueView). Rule fixed count s.words s.views) n id (v, hs) i (λ k. k) (Loaded (step n i 0 0 vacant) (v, hs))
    loads s h sized at fits = (
      v,
      keeps,
      tt,
      subst (λ (ws : List ℕ). Rule fixed count ws (set s.views id v)) (sym (set-get_or s.words i 0)) (subst (λ (vs : List ValueView). Rule fixed count s.words vs) (sym (set_again s.views id v at)) h),
      record { same = refl; tells = tells s h at fits },
    )

    pub looks : Allows (λ (s : State (Unit {0}) ValueView). Rule fixed count s.words s.views) n id (v, hs) i (λ k. k) (Looked (step n i 0 0 vacant) (v, hs))
    looks s h sized at fits = (
      looked v,
      keeps,
      tt,
      subst (λ (ws : List ℕ). Rule fixed count ws (set s.views id (looked v))) (sym (set-get_or s.words i 0)) (h.0, h.1, h.2, quiet_at fixed count h.0 h.1 h.2 s.words s.views h.3 id v at (looked v) refl refl refl refl refl (h.3.each id v at).met),
      record { looked_is = refl; tells = tells s h at fits },
    )

    pub settles : Allows (λ (s : State (Unit {0}) ValueView). Rule fixed count s.words s.views) n id (v, hs) i (λ k. k) (Settled (step n i 0 0 vacant) (v, hs))
    settles s h sized at fits =
        let w : ValueView = record v { met = None } in (
          w,
          keeps,
          tt,
          subst (λ (ws : List ℕ). Rule fixed count ws (set s.views id w)) (sym (set-get_or s.words i 0)) (h.0, h.1, h.2, quiet_at fixed count h.0 h.1 h.2 s.words s.views h.3 id v at w refl refl refl refl refl tt),
          record {
            settled = refl;
            meeting = (h.3.each id v at).met;
            low = λ x m.
                let f = h.3.each id v at in
                let z = f.mine x m in
                let d = (h.3.claims.each id v.claims (at_claims fixed count h.0 h.1 h.2 s.words s.views h.3 id v at)).count_is live in
                (z.long, omega (arith, z.low, f.fixed_is live, d));
            states = λ t m.
                let d = (h.3.claims.each id v.claims (at_claims fixed count h.0 h.1 h.2 s.words s.views h.3 id v at)).count_is live in
                omega (arith, ((h.3.each id v at).states t m).low, d);
          },
        )

    pub writes : (w : OwnedView) (j x : ℕ) → Member w v.mine → j < 3 → i ≡ value_at v.claims.count w.of.slot j
        → Allows (λ (s : State (Unit {0}) ValueView). Rule fixed count s.words s.views) n id (v, hs) i (λ _. x) (λ _. Wrote (step n i x 0 vacant) (v, hs) x)
    writes w j x has small is s h sized at fits =
        let count_is = (h.3.claims.each id v.claims (at_claims fixed count h.0 h.1 h.2 s.words s.views h.3 id v at)).count_is live in
        let here : value_at count w.of.slot j ≡ i = sym (is ∙ ap (λ k. value_at k w.of.slot j) count_is) in (
          wrote_word w.of.slot j x v,
          keeps,
          tt,
          (h.0, h.1, h.2, subst (λ k. Valued fixed count h.0 h.1 h.2 (set s.words k x) (set s.views id (wrote_word w.of.slot j x v))) here (writes_at fixed count h.0 h.1 h.2 s.words s.views h.3 id v at live w j x has small)),
          λ m k less e.
              let same = apart_places v.claims.count w.of.slot m j k small less (sym is ∙ e) in
              let also : j ≡ k = omega (arith, is, e, same) in
              λ t. (wrote_word (same t) (also t) x v, hs),
        )

    pub marks : (t : StateView) (x : ℕ) → Member t v.states → i ≡ state_at v.claims.count t.of.slot
        → Allows (λ (s : State (Unit {0}) ValueView). Rule fixed count s.words s.views) n id (v, hs) i (λ _. x) (λ _. Marked (step n i x 0 vacant) (v, hs) x)
    marks t x has is s h sized at fits =
        let count_is = (h.3.claims.each id v.claims (at_claims fixed count h.0 h.1 h.2 s.words s.views h.3 id v at)).count_is live in
        let here : state_at count t.of.slot ≡ i = sym (is ∙ ap (λ k. state_at k t.of.slot) count_is) in (
          marked t.of.slot x v,
          keeps,
          tt,
          (h.0, h.1, h.2, subst (λ k. Valued fixed count h.0 h.1 h.2 (set s.words k x) (set s.views id (marked t.of.slot x v))) here (marks_at fixed count h.0 h.1 h.2 s.words s.views h.3 id v at live t x has)),
          λ m e. let same : t.of.slot ≡ m = omega (arith, is, e) in λ z. (marked (same z) x v, hs),
        )

  pub learns : (n id : ℕ) (v : ValueView) (hs : List (ℕ × Unit {0})) → v.claims.live ≡ true → v.claims.branch ≡ []
      → Allows (λ (s : State (Unit {0}) ValueView). Rule fixed count s.words s.views) n id (v, hs) 0 (λ k. k) (Learned (step n 0 0 0 vacant) (v, hs))
  learns n id v hs live empty s h sized at fits =
      let k = slice_index s.words 0 in
      let e = slots.slice_at s.words 0 h.0 h.3.claims.counter_is in (
        learned k v,
        keeps,
        tt,
        subst (λ (ws : List ℕ). Rule fixed count ws (set s.views id (learned k v))) (sym (set-get_or s.words 0 0))
            (subst (λ (z : ℕ). Rule fixed count s.words (set s.views id (learned z v))) (sym e) (h.0, h.1, h.2, learns_at fixed count h.0 h.1 h.2 s.words s.views h.3 id v at live empty)),
        (
          refl,
          nothing_known fixed count h.0 h.1 h.2 s.words s.views h.3 id v at live empty,
          subst (λ z. claiming.DrewBelow z v.claims) (sym e) (turns.drawn_all count h.0 h.1 h.2 s.words (map claims_of s.views) h.3.claims id v.claims (at_claims fixed count h.0 h.1 h.2 s.words s.views h.3 id v at) live empty),
        ),
      )

  pub rewinds : (n id : ℕ) (v : ValueView) (hs : List (ℕ × Unit {0})) → claiming.IsSole v.claims
      → Allows (λ (s : State (Unit {0}) ValueView). Rule fixed count s.words s.views) n id (v, hs) 0 (λ _. 0) (λ _. Rewound (step n 0 0 0 vacant) (v, hs) 0)
  rewinds n id v hs knows s h sized at fits =
      let p = slots.sole_parts v.claims.counter h.0 knows.0 v.claims knows.1 (h.3.claims.each id v.claims (at_claims fixed count h.0 h.1 h.2 s.words s.views h.3 id v at)).sole in (
        rewound v,
        keeps,
        tt,
        (0, claiming.turned count (h.1 + length (take h.0 h.2)), drop h.0 h.2, rewinds_at fixed count h.0 h.1 h.2 s.words s.views h.3 id v at p.1 p.2 (knows.1 ∙ ap Some p.0)),
        refl,
      )

  pub gives : (n id i x : ℕ) (v : ValueView) (hs : List (ℕ × Unit {0})) (g : Handle) → v.claims.counter ≡ Some 0 → Member g v.claims.held → g.generation < 4294967295
      → (t : StateView) → Member t v.states → t.of ≡ g → t.word ≡ free_word (later g)
      → i ≡ claiming.place v.claims.count (v.claims.head + length v.claims.list) → x ≡ word_of (later g)
      → Allows (λ (s : State (Unit {0}) ValueView). Rule fixed count s.words s.views) n id (v, hs) i (λ _. x) (λ _. Gave (step n i x 0 vacant) (v, hs) x)
  gives n id i x v hs g knows has next t mt of word here is s h sized at fits =
      let mine = at_claims fixed count h.0 h.1 h.2 s.words s.views h.3 id v at in
      let f = h.3.claims.each id v.claims mine in
      let p = slots.sole_parts v.claims.counter h.0 0 v.claims knows f.sole in
      let spot : claiming.place count (h.1 + length h.2) ≡ i = sym (here ∙ (λ j. claiming.place (f.count_is p.1 j) (f.head_is p.1 j + length (f.list_is p.1 j)))) in
      let done = gives_at fixed count h.0 h.1 h.2 s.words s.views h.3 id v at p.1 p.2 (sym p.0) g has next t mt of word in (
        gave g v,
        keeps,
        tt,
        (h.0, h.1, h.2 ++ later g ∷ [], subst (λ (z : ℕ × ℕ). Valued fixed count h.0 h.1 (h.2 ++ later g ∷ []) (set s.words z.0 z.1) (set s.views id (gave g v))) (λ j. (spot j, sym is j)) done),
        λ k had below e.
            let same = slots.one_given count h.0 h.1 h.2 s.words (map claims_of s.views) h.3.claims id v.claims mine p.1 p.2 (sym p.0) g k has had next below (sym is ∙ e) in
            λ j. (
              record v {
                claims = record v.claims { list = v.claims.list ++ same j ∷ []; held = removed (same j).slot v.claims.held };
                mine = filter (other_owned (v.fixed + (same j).slot)) v.mine;
                states = filter (other_state (same j).slot) v.states;
              },
              hs,
            ),
      )

  pub splits : (shared to_right : ℕ → Bool) (id : ℕ) (v : ValueView) → v.claims.live ≡ true → v.claims.over ≡ 0 → length v.claims.branch < 62
      → Splits (λ (s : State (Unit {0}) ValueView). Rule fixed count s.words s.views) id v (left_of shared to_right v) (right_of shared to_right v)
  splits shared to_right id v live none short s h at = (h.0, h.1, h.2, splits_at fixed count h.0 h.1 h.2 s.words s.views h.3 shared to_right id v at live none short)

  pub joins : (id other : ℕ) (v w : ValueView) (b : List Bool) → v.claims.live ≡ true → w.claims.live ≡ true → v.claims.branch ≡ b ++ false ∷ [] → w.claims.branch ≡ b ++ true ∷ []
      → Joins (λ (s : State (Unit {0}) ValueView). Rule fixed count s.words s.views) id v other w (met v w) spent
  joins id other v w b live alive lb rb s h at two there = (h.0, h.1, h.2, joins_at fixed count h.0 h.1 h.2 s.words s.views h.3 id other v w b at (sym (set_else s.views id other (met v w) two) ∙ there) two live alive lb rb)
