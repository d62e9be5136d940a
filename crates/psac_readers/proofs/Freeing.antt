-- What the steps of a sole pass that takes links off allow.
use Rattle.psac_readers.proofs.Terms.{◌≡◌, ℕ, suc, ◌+◌, ◌<◌, List, ◌∷◌, ◌++◌, length, set, true, sym, ap, ◌∙◌, subst, arith, Some, sum_by, slice_index, none as vacant, State, Allows, keeps, step, at_map, Member, sole_parts, ReadersView, head_at, dead_at, named, alive, Each, mods_of, claims_of, Readable, revived, Revived, unlinked, Unlinked, freed, Freed, led_from, chain_of, front, Fine}
use Rattle.psac_slots.specs.Handles as handles
use Rattle.psac_slots.specs.Claiming as claiming
use Rattle.psac_readers.proofs.Links.{is_there, chain_is}
use Rattle.psac_readers.proofs.Acts.{count_is}
use Rattle.psac_readers.proofs.Taking.{revives_at, stands, holds, frees_at}
use Rattle.psac_readers.proofs.Unlinking.{led_word, unlinks_at}

module _ (links mods slots id : ℕ) (v : ReadersView) (hs : List (ℕ × Unit {0})) (live : v.claims.live ≡ true) where
  pub revives : (l i : ℕ) → 0 < sum_by (named l) v.links → i ≡ dead_at v.claims.count v.mods l
      → Allows (λ (s : State (Unit {0}) ReadersView). Readable links mods s.words s.views) slots id (v, hs) i (λ _. 0) (λ _. Revived (step slots i 0 0 vacant) (v, hs) 0)
  revives l i has is s h sized at fits =
      let z : i ≡ dead_at links mods l = is ∙ (λ j. dead_at (count_is links mods s.words s.views h id v at live j) ((h.sets.tells id v at).mods_is live j) l) in (
        revived l v,
        keeps,
        tt,
        subst (λ j. Readable links mods (set s.words j 0) (set s.views id (revived l v))) (sym z) (revives_at links mods s.words s.views h id v at l has),
        λ y at_y. let e : y ≡ l = omega (arith, at_y, is) in ap (λ x. (revived x v, hs)) (sym e),
      )

  pub unlinks : (m l n i : ℕ) (a b : List ℕ) → m < v.mods → Member m (mods_of v.walk) → chain_of m v.walk ≡ Some (a ++ l ∷ b) → n ≡ front b → 0 < sum_by (alive l) v.links → Each (Fine v.claims.count) v.links
      → i ≡ led_from v.claims.count v.mods (head_at v.claims.count m) a
      → Allows (λ (s : State (Unit {0}) ReadersView). Readable links mods s.words s.views) slots id (v, hs) i (λ _. n) (Unlinked (step slots i n 0 vacant) (v, hs))
  unlinks m l n i a b small has chain front_is up fine is s h sized at fits =
      let c = count_is links mods s.words s.views h id v at live in
      let g = (h.sets.tells id v at).mods_is live in
      let z : i ≡ led_from links mods (head_at links m) a = is ∙ (λ j. led_from (c j) (g j) (head_at (c j) m) a) in
      let done = unlinks_at links mods s.words s.views h id v at l up m (omega (arith, small, g)) has b (subst (λ k. Each (Fine k) v.links) c fine) a n (chain_is h.sets.chain m v.walk (a ++ l ∷ b) (h.sets.tells id v at).seen chain) front_is in
      let found : slice_index s.words i ≡ suc l = ap (slice_index s.words) z ∙ (is_there s.words (led_from links mods (head_at links m) a) (suc l) done.1).1 in (
        unlinked l v,
        keeps,
        tt,
        subst (λ j. Readable links mods (set s.words j n) (set s.views id (unlinked l v))) (sym z) done.0,
        record {
          off = λ y e. let same : l ≡ y = omega (arith, found, e) in ap (λ x. (unlinked x v, hs)) same;
          named = λ m2 l2 a2 b2 small2 has2 chain2 is2.
              let z2 : i ≡ led_from links mods (head_at links m2) a2 = is2 ∙ (λ j. led_from (c j) (g j) (head_at (c j) m2) a2) in
              ap (slice_index s.words) z2 ∙ (is_there s.words (led_from links mods (head_at links m2) a2) (suc l2) (led_word links mods s.words s.views h id v at m2 (omega (arith, small2, g)) has2 (subst (λ k. Each (Fine k) v.links) c fine) a2 l2 b2 (chain_is h.sets.chain m2 v.walk (a2 ++ l2 ∷ b2) (h.sets.tells id v at).seen chain2))).1;
        },
      )

  pub frees : (l i x : ℕ) → v.claims.counter ≡ Some 0 → 0 < sum_by (named l) v.links → sum_by (stands l) v.links ≡ 0 → i ≡ claiming.place v.claims.count (v.claims.head + length v.claims.list) → x ≡ 4294967296 + l
      → Allows (λ (s : State (Unit {0}) ReadersView). Readable links mods s.words s.views) slots id (v, hs) i (λ _. x) (λ _. Freed (step slots i x 0 vacant) (v, hs) x)
  frees l i x begun has out is named_is s h sized at fits =
      let f = h.claims.each id v.claims (at_map claims_of s.views id v at) in
      let p = sole_parts v.claims.counter h.counter 0 v.claims begun f.sole in
      let z : i ≡ claiming.place links (h.head + length h.list) = is ∙ (λ j. claiming.place (f.count_is live j) (f.head_is live j + length (f.list_is live j))) in
      let w : x ≡ handles.word_of (record { slot = l; generation = 1 }) = omega (arith, named_is) in (
        freed l v,
        keeps,
        tt,
        subst (λ (q : ℕ × ℕ). Readable links mods (set s.words q.0 q.1) (set s.views id (freed l v))) (λ j. (sym z j, sym w j)) (frees_at links mods s.words s.views h id v at live p.2 (sym p.0) l has out),
        λ y e. let same : l ≡ y = omega (arith, named_is, e) in (ap (λ k. (freed k v, hs)) same, subst (λ k. 0 < handles.slot_times k v.claims.held) same (holds links mods s.words s.views h id v at live p.2 l has)),
      )
