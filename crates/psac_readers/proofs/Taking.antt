-- The steps by which a sole pass takes a link off its set and gives it back.
use Rattle.psac_readers.proofs.Terms.{◌≡◌, ◌≢◌, ℕ, ◌+◌, ◌<◌, ◌≤◌, List, [], ◌∷◌, ◌++◌, map, length, set, Bool, true, false, true≢false, cond, refl, sym, ap, ◌∙◌, subst, ⊎_elim, arith, mod-lt, sum_map, sum_by, filter, not, ◌==◌, map-set, eq-eqb, eqb-true, ne_eqb, cases_eq, some, get_elem?, at_map, Handle, removed_gone, removed_else, sum_at, LinkView, ReadersView, dead_at, in_set, is_dead, named, linked, deads, mods_of, claims_of, Staged, Knows, Placed, Readable, reviving, revived, other_link, freed}
use Rattle.psac_slots.specs.Handles as handles
use Rattle.psac_slots.specs.Claiming as claiming
use Rattle.psac_slots.proofs.Rewinds as turns
use Rattle.psac_slots.proofs.Removed.{found}
use Rattle.psac_readers.proofs.Links.{each_stage, restaged, if_less, if_low, each_filter, sum_zero, sum_under, sum_split, sum_pass, sum_only}
use Rattle.psac_readers.proofs.Keeps.{known_far, beside_at, single, inside}
use Rattle.psac_readers.proofs.Acts.{restages_at}

revive_here : (l : ℕ) (k : LinkView) → deads l (restaged reviving l k) ≡ 0
revive_here l k = by (k.link == l)
  where
    by : (b : Bool) → cond b (is_dead (cond b (reviving k.stage) k.stage)) 0 ≡ 0
    by true = each_stage (λ s. is_dead (reviving s) ≡ 0) refl (λ n. refl) refl refl k.stage
    by false = refl

module _ (links mods : ℕ) (words : List ℕ) (views : List ReadersView) (h : Readable links mods words views) (id : ℕ) (v : ReadersView) (at : get_elem? views id ≡ some v) where
  pub revives_at : (l : ℕ) → 0 < sum_by (named l) v.links → Readable links mods (set words (dead_at links mods l) 0) (set views id (revived l v))
  revives_at l mine = restages_at links mods words views h id v at reviving l 0 (each_stage (λ s. in_set (reviving s) ≡ in_set s) refl (λ n. refl) refl refl)
      (λ ws y. each_stage (λ s. Staged links mods ws h.sets.next y s → Staged links mods ws h.sets.next y (reviving s)) (λ q. q) (λ n q. q) (λ q. q) (λ q. q))
      mine
      (sum_map (restaged reviving l) (deads l) v.links ∙ sum_zero (λ k. deads l (restaged reviving l k)) v.links (revive_here l))

-- 1 where the link is l and stands in a set
abbrev pub stands : ℕ → LinkView → ℕ
stands l k = cond (k.link == l) (in_set k.stage) 0

linked_stands : (y l : ℕ) (k : LinkView) → linked y l k ≤ stands l k
linked_stands y l k = if_less (k.link == l) (cond (k.of == y) (in_set k.stage) 0) (in_set k.stage) (if_low (k.of == y) (in_set k.stage) (in_set k.stage) (omega arith))

dead_stands : (l : ℕ) (k : LinkView) → deads l k ≤ stands l k
dead_stands l k = if_less (k.link == l) (is_dead k.stage) (in_set k.stage) (each_stage (λ s. is_dead s ≤ in_set s) (omega arith) (λ n. omega arith) (omega arith) (omega arith) k.stage)

-- what is of the link x alone
abbrev pub Only : ℕ → (LinkView → ℕ) → Type 0
Only x g = (k : LinkView) → k.link ≢ x → g k ≡ 0

pub only_named : (x : ℕ) → Only x (named x)
only_named x k n = ap {B = ℕ} (λ b. cond b 1 0) (ne_eqb k.link x n)

pub only_linked : (y x : ℕ) → Only x (linked y x)
only_linked y x k n = ap {B = ℕ} (λ b. cond b (cond (k.of == y) (in_set k.stage) 0) 0) (ne_eqb k.link x n)

pub only_deads : (x : ℕ) → Only x (deads x)
only_deads x k n = ap {B = ℕ} (λ b. cond b (is_dead k.stage) 0) (ne_eqb k.link x n)

is_other : (l : ℕ) (k : LinkView) → other_link l k ≡ true → k.link ≢ l
is_other l k e q = true≢false (sym e ∙ ap not (eq-eqb k.link l q))

is_same : (l : ℕ) (k : LinkView) → not (other_link l k) ≡ true → k.link ≡ l
is_same l k e = by (k.link == l) refl e
  where
    by : (b : Bool) → (k.link == l) ≡ b → not (not b) ≡ true → k.link ≡ l
    by true is q = eqb-true k.link l is
    by false is q = absurd (true≢false (sym q))

pub others_sum : (l x : ℕ) (g : LinkView → ℕ) → Only x g → x ≢ l → (ks : List LinkView) → sum_by g (filter (other_link l) ks) ≡ sum_by g ks
others_sum l x g o n ks =
    omega (arith, sum_split g (other_link l) ks, sum_pass g (λ k. not (other_link l k)) (λ k e. o k (λ q. n (sym q ∙ is_same l k e))) ks)

pub gone_sum : (l : ℕ) (g : LinkView → ℕ) → Only l g → (ks : List LinkView) → sum_by g (filter (other_link l) ks) ≡ 0
gone_sum l g o ks = sum_pass g (other_link l) (λ k e. o k (is_other l k e)) ks

module _ (links mods : ℕ) (words : List ℕ) (views : List ReadersView) (h : Readable links mods words views) (id : ℕ) (v : ReadersView) (at : get_elem? views id ≡ some v) (live : v.claims.live ≡ true) (empty : v.claims.branch ≡ []) where
  -- what a sole pass holds is all that is held
  all_held : (x : ℕ) → sum_by (λ (u : ReadersView). handles.slot_times x u.claims.held) views ≡ handles.slot_times x v.claims.held
  all_held x = sum_only (λ (u : ReadersView). handles.slot_times x u.claims.held) views id v at
      (λ j u n e. ap (handles.slot_times x) ((h.claims.each j u.claims (at_map claims_of views j u e)).gone (turns.alone links h.counter h.head h.list words (map claims_of views) h.claims id v.claims (at_map claims_of views id v at) live empty j u.claims n (at_map claims_of views j u e))).1)

  pub holds : (l : ℕ) → 0 < sum_by (named l) v.links → 0 < handles.slot_times l v.claims.held
  holds l mine =
      omega (arith, all_held l, h.sets.owed l, sum_at (λ (u : ReadersView). sum_by (named l) u.links) views id v at, mine)

  pub frees_at : h.counter ≡ 0 → (l : ℕ) → 0 < sum_by (named l) v.links → sum_by (stands l) v.links ≡ 0
      → Readable links mods (set words (claiming.place links (h.head + length h.list)) (handles.word_of (record { slot = l; generation = 1 }))) (set views id (freed l v))
  frees_at begun l mine out =
      let y : Handle = record { slot = l; generation = 1 } in
      let w = freed l v in
      let i = claiming.place links (h.head + length h.list) in
      let n = handles.word_of y in
      let t = h.sets.tells id v at in
      let low = inside links mods words views h id v at l mine in
      let near : i ≤ links = let m = mod-lt (h.head + length h.list) {m = links} (omega (arith, low)) in omega (arith, m) in
      let one = single links mods words views h id v at l in
      let whole = sum_at (λ (u : ReadersView). sum_by (named l) u.links) views id v at in
      let x = found l v.claims.held (holds l mine) in
      let none_linked : (m : ℕ) → sum_by (linked m l) v.links ≡ 0 = λ m. let a = sum_under (linked m l) (stands l) (linked_stands m l) v.links in omega (arith, a, out) in
      let none_dead : sum_by (deads l) v.links ≡ 0 = let a = sum_under (deads l) (stands l) (dead_stands l) v.links in omega (arith, a, out) in
      let know = known_far links mods words views h id v at i n (λ z. ((λ q. absurd (omega (arith, q, near))), (λ q. absurd (omega (arith, q, near))))) in
      -- what is counted of each link but l stays, and of l nothing was
      let stay : (z : ℕ) (g : LinkView → ℕ) → Only z g → (z ≡ l → sum_by g v.links ≡ 0) → sum_by g w.links ≡ sum_by g v.links = λ z g o none. ⊎_elim
      (λ (e : z ≡ l). gone_sum l g (λ k q. o k (λ r. q (r ∙ e))) v.links ∙ sym (none e))
      (λ (d : z ≢ l). others_sum l z g o d v.links)
      (cases_eq z l) in
      let linked_stay : (m z : ℕ) → sum_by (linked m z) w.links ≡ sum_by (linked m z) v.links = λ m z. stay z (linked m z) (only_linked m z) (λ e. subst (λ q. sum_by (linked m q) v.links ≡ 0) (sym e) (none_linked m)) in
      let deads_stay : (z : ℕ) → sum_by (deads z) w.links ≡ sum_by (deads z) v.links = λ z. stay z (deads z) (only_deads z) (λ e. subst (λ q. sum_by (deads q) v.links ≡ 0) (sym e) none_dead) in
      beside_at links mods words views h id v at w i n h.counter h.head (h.list ++ y ∷ []) (λ m lt q. absurd (omega (arith, q, near))) (λ z q. absurd (omega (arith, q, near)))
      (subst (claiming.Claimed links h.counter h.head (h.list ++ y ∷ []) (set words i n)) (sym (map-set claims_of views id w))
      (subst (λ k. claiming.Claimed links h.counter h.head (h.list ++ record { slot = k; generation = 1 } ∷ []) (set words i (handles.word_of (record { slot = k; generation = 1 }))) (set (map claims_of views) id (claiming.returned (record { slot = k; generation = 1 }) v.claims))) x.2
      (turns.returns_at links h.counter h.head h.list words (map claims_of views) h.claims id v.claims (at_map claims_of views id v at) live empty begun x.0 x.1 1 (omega arith))))
      refl deads_stay linked_stay
      (λ z. ⊎_elim
      (λ (e : z ≡ l). subst (λ q. sum_by (named q) w.links + handles.slot_times q v.claims.held ≡ sum_by (named q) v.links + handles.slot_times q w.claims.held) (sym e)
      (let g = gone_sum l (named l) (only_named l) v.links in let g' = removed_gone l v.claims.held in let a = all_held l in let o = h.sets.owed l in omega (arith, g, g', a, o, one, whole, mine)))
      (λ (d : z ≢ l). let g = others_sum l z (named z) (only_named z) d v.links in let g' = removed_else z l v.claims.held d in omega (arith, g, g'))
      (cases_eq z l))
      record {
        mods_is = t.mods_is;
        known = each_filter (Knows links mods (set words i n) h.sets.next) (other_link l) v.links (know v.links t.known);
        placed = each_filter (Placed (mods_of v.walk) v.shared) (other_link l) v.links t.placed;
        whole = λ m had z. linked_stay m z ∙ t.whole m had z;
        seen = t.seen;
        gone = λ z. ap (filter (other_link l)) (t.gone z);
      }
      (λ j u d e q. know u.links q)
