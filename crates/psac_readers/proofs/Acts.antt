-- Leaves and loads keep the rule, and what each step allows.
use Rattle.psac_readers.proofs.Terms.{◌≡◌, ◌≢◌, ℕ, suc, ◌+◌, ◌%◌, ◌^◌, ◌<◌, ◌≤◌, List, [], ◌∷◌, map, set, Bool, true, false, cond, refl, sym, ap, ◌∙◌, subst, ⊎_elim, arith, Some, sum_map, same_some, sum_by, ◌==◌, slice_index, map-set, set-get_or, cases_eq, some, none as vacant, get_elem?, State, Allows, keeps, step, at_map, set_here, set_else, set_again, sole_parts, tells, sum_set, all_set, Stage, Claimed, UnderWay, LinkView, ReadersView, Member, head_at, next_at, dead_at, node_at, Follows, in_set, is_dead, is_live, dying, named, linked, alive, deads, Each, mods_of, claims_of, Staged, Knows, Placed, Tells, Readable, Has, Seat, drew, Drew, on_head, noded, Noded, swapped, Swapped, came, Came, left, Left, learned, front, IsSet, Began, Loaded, regained, Regained, rewound, Rewound}
use Rattle.psac_slots.specs.Claiming as claiming
use Rattle.psac_slots.specs.Handles as handles
use Rattle.psac_slots.proofs.Rewinds as turns
use Rattle.psac_readers.proofs.Links.{each_stage, restaged, restaged_known, linked_same, in_same, stage_else, staged_set, each_map, sum_same, sum_plus, sum_under, only_here, linked_named, alive_deads, is_there, mods_learn, seen_learn, front_is, behind_is, next_word, node_word, chain_is}
use Rattle.psac_readers.proofs.Rewinding.{rewinds_at, regains_at, nothing_shared, holds_all, dead_alone}
use Rattle.psac_readers.proofs.Keeps.{known_far, stored_at, same_rights, same_claims, single, inside, here_once, draws_at, own_store, low, swaps_at}

-- who was live is dead from then on
die_here : (l : ℕ) (k : LinkView) → deads l (restaged dying l k) ≡ deads l k + alive l k
die_here l k = by (k.link == l)
  where
    by : (b : Bool) → cond b (is_dead (cond b (dying k.stage) k.stage)) 0 ≡ cond b (is_dead k.stage) 0 + cond b (is_live k.stage) 0
    by true = each_stage (λ s. is_dead (dying s) ≡ is_dead s + is_live s) refl (λ n. refl) refl refl k.stage
    by false = refl

module _ (links mods : ℕ) (words : List ℕ) (views : List ReadersView) (h : Readable links mods words views) (id : ℕ) (v : ReadersView) (at : get_elem? views id ≡ some v) where
  pub alive_here : (l : ℕ) → sum_by (alive l) v.links + sum_by (deads l) v.links ≤ sum_by (named l) v.links
  alive_here l = let a = sum_plus (alive l) (deads l) (λ k. alive l k + deads l k) (λ k. refl) v.links in let b = sum_under (λ k. alive l k + deads l k) (named l) (alive_deads l) v.links in omega (arith, a, b)

  -- the dead words are told by who has the link
  pub dead_here : (l : ℕ) → 0 < sum_by (named l) v.links → sum_by (λ (u : ReadersView). sum_by (deads l) u.links) views ≡ sum_by (deads l) v.links
  dead_here l p = only_here (λ (u : ReadersView). sum_by (deads l) u.links) (λ (u : ReadersView). sum_by (named l) u.links)
      (λ u. sum_under (deads l) (named l) (λ k. let a = alive_deads l k in omega (arith, a)) u.links) views id v at (single links mods words views h id v at l) p

  -- a link's stage changes, and its dead word with it
  pub restages_at : (g : Stage → Stage) (l x : ℕ) → ((s : Stage) → in_set (g s) ≡ in_set s) → ((ws : List ℕ) (y : ℕ) (s : Stage) → Staged links mods ws h.sets.next y s → Staged links mods ws h.sets.next y (g s))
      → 0 < sum_by (named l) v.links → sum_by (deads l) (map (restaged g l) v.links) ≡ x → Readable links mods (set words (dead_at links mods l) x) (set views id (record v { links = map (restaged g l) v.links }))
  restages_at g l x same staged mine now =
      let i = dead_at links mods l in
      let w : ReadersView = record v { links = map (restaged g l) v.links } in
      let t = h.sets.tells id v at in
      let know = known_far links mods words views h id v at i x (λ y. ((λ q. absurd (omega (arith, q))), (λ q. absurd (omega (arith, q))))) in
      let linked_stay : (m y : ℕ) → sum_by (linked m y) w.links ≡ sum_by (linked m y) v.links = λ m y. sum_map (restaged g l) (linked m y) v.links ∙ sum_same (λ k. linked m y (restaged g l k)) (linked m y) (linked_same g same l m y) v.links in
      let named_stay : (y : ℕ) → sum_by (named y) w.links ≡ sum_by (named y) v.links = λ y. sum_map (restaged g l) (named y) v.links in
      let deads_stay : (y : ℕ) → y ≢ l → sum_by (deads y) w.links ≡ sum_by (deads y) v.links = λ y n. sum_map (restaged g l) (deads y) v.links ∙ sum_same (λ k. deads y (restaged g l k)) (deads y) (λ k. stage_else g is_dead l y k n) v.links in
      stored_at links mods words views h id v at w i x h.counter h.head h.list (λ m lt q. absurd (omega (arith, q, lt))) (same_claims links mods words views h id v at w refl i x (omega arith)) refl
      (λ y lt. ⊎_elim
      (λ (e : y ≡ l). subst (λ z. get_elem? (set words i x) (dead_at links mods z) ≡ some (sum_by (λ (u : ReadersView). sum_by (deads z) u.links) (set views id w))) (sym e)
      (set_here words i x (let a = h.sets.long in omega (arith, a, inside links mods words views h id v at l mine)) ∙ ap some
      (let s = sum_set (λ (u : ReadersView). sum_by (deads l) u.links) views id v w at in let d = dead_here l mine in omega (arith, s, now, d))))
      (λ (n : y ≢ l). set_else words i (dead_at links mods y) x (λ q. n (omega (arith, q))) ∙ (h.sets.stored y lt ∙ ap some
      (let s = sum_set (λ (u : ReadersView). sum_by (deads y) u.links) views id v w at in let q = deads_stay y n in omega (arith, s, q))))
      (cases_eq y l))
      linked_stay
      (λ y. let a = named_stay y in omega (arith, a))
      record {
        mods_is = t.mods_is;
        known = each_map (Knows links mods (set words i x) h.sets.next) (Knows links mods (set words i x) h.sets.next) (restaged g l) (λ k q. restaged_known links mods (set words i x) h.sets.next g l k (staged (set words i x) k.link) q) v.links (know v.links t.known);
        placed = each_map (Placed (mods_of v.walk) v.shared) (Placed (mods_of v.walk) v.shared) (restaged g l) (λ k q e. q (sym (in_same g same (k.link == l) k.stage) ∙ e)) v.links t.placed;
        whole = λ m has y. linked_stay m y ∙ t.whole m has y;
        seen = t.seen;
        gone = λ z. ap (map (restaged g l)) (t.gone z);
      }
      (λ j u n e q. know u.links q)

  pub leaves_at : (l : ℕ) → 0 < sum_by (alive l) v.links → Readable links mods (set words (dead_at links mods l) 1) (set views id (left l v))
  leaves_at l p =
      let a = alive_here l in
      restages_at dying l 1 (each_stage (λ s. in_set (dying s) ≡ in_set s) refl (λ n. refl) refl refl)
      (λ ws y. each_stage (λ s. Staged links mods ws h.sets.next y s → Staged links mods ws h.sets.next y (dying s)) (λ q. q) (λ n q. q) (λ q. q) (λ q. q))
      (omega (arith, a, p))
      (let b = sum_map (restaged dying l) (deads l) v.links ∙ sum_plus (deads l) (alive l) (λ k. deads l (restaged dying l k)) (die_here l) v.links in let o = here_once links mods words views h id v at l in omega (arith, a, b, o, p))

  learns_at : (m : ℕ) → Readable links mods words (set views id (learned m (h.sets.chain m) v))
  learns_at m =
      let w = learned m (h.sets.chain m) v in
      let t = h.sets.tells id v at in
      record {
        counter = h.counter;
        head = h.head;
        list = h.list;
        claims = subst (claiming.Claimed links h.counter h.head h.list words) (sym (map-set claims_of views id w ∙ set_again (map claims_of views) id v.claims (at_map claims_of views id v at))) h.claims;
        rights = same_rights links mods words views h id v at w (λ j. record { live = v.claims.live; branch = v.claims.branch; alone = mods_learn m (h.sets.chain m) v.walk j; shared = v.shared });
        sets = record {
          next = h.sets.next;
          chain = h.sets.chain;
          beyond = h.sets.beyond;
          long = h.sets.long;
          heads = h.sets.heads;
          stored = λ l lt. h.sets.stored l lt ∙ ap some (let s = sum_set (λ (u : ReadersView). sum_by (deads l) u.links) views id v w at in omega (arith, s));
          counted = λ y x. let s = sum_set (λ (u : ReadersView). sum_by (linked y x) u.links) views id v w at in let o = h.sets.counted y x in omega (arith, s, o);
          owed = λ x. let s = sum_set (λ (u : ReadersView). sum_by (named x) u.links) views id v w at in let r = sum_set (λ (u : ReadersView). handles.slot_times x u.claims.held) views id v w at in let o = h.sets.owed x in omega (arith, s, o, r);
          tells = all_set (λ _ u. Tells links mods words h.sets.next h.sets.chain u) views id w
              record {
                mods_is = t.mods_is;
                known = t.known;
                placed = subst (λ z. Each (Placed z v.shared) v.links) (sym (mods_learn m (h.sets.chain m) v.walk)) t.placed;
                whole = λ y had x. t.whole y (subst (Member y) (mods_learn m (h.sets.chain m) v.walk) had) x;
                seen = seen_learn h.sets.chain m v.walk t.seen;
                gone = t.gone;
              }
              (λ j u n e. h.sets.tells j u e);
        };
      }

  pub count_is : v.claims.live ≡ true → v.claims.count ≡ links
  count_is live = (h.claims.each id v.claims (at_map claims_of views id v at)).count_is live

same_words : (links mods : ℕ) (words : List ℕ) (views : List ReadersView) (i : ℕ) → Readable links mods words views → Readable links mods (set words i (slice_index words i)) views
same_words links mods words views i h = subst (λ (ws : List ℕ). Readable links mods ws views) (sym (set-get_or words i 0)) h

module _ (links mods slots id : ℕ) (v : ReadersView) (hs : List (ℕ × Unit {0})) (live : v.claims.live ≡ true) where
  pub draws : v.claims.over ≡ 0 → Allows (λ (s : State (Unit {0}) ReadersView). Readable links mods s.words s.views) slots id (v, hs) 0 (λ n. (n + 1) % 2 ^ 64) (Drew (step slots 0 1 0 vacant) (v, hs))
  draws none s h sized at fits =
      let e : slice_index s.words 0 ≡ h.counter = (is_there s.words 0 h.counter h.claims.counter_is).1 in (
        drew v (slice_index s.words 0),
        keeps,
        tt,
        subst (λ (k : ℕ). Readable links mods (set s.words 0 ((k + 1) % 2 ^ 64)) (set s.views id (drew v k))) (sym e) (draws_at links mods s.words s.views h id v at live none),
        refl,
      )

  pub nodes : (k : LinkView) (ks : List LinkView) (x i : ℕ) → v.links ≡ k ∷ ks → i ≡ node_at v.claims.count v.mods k.link
      → Allows (λ (s : State (Unit {0}) ReadersView). Readable links mods s.words s.views) slots id (v, hs) i (λ _. x) (λ _. Noded (step slots i x 0 vacant) (v, hs) x)
  nodes k ks x i lv is s h sized at fits =
      let w : ReadersView = record v { links = on_head (noded x) v.links } in
      let z : i ≡ node_at links mods k.link = is ∙ (λ j. node_at (count_is links mods s.words s.views h id v at live j) ((h.sets.tells id v at).mods_is live j) k.link) in
      let lw = ap (on_head (noded x)) lv in
      let in_range = low links mods s.words s.views h id v at k (noded x k) ks lv w lw refl (λ _. refl) in
      let long = h.sets.long in (
        w,
        keeps,
        tt,
        own_store links mods s.words s.views h id v at k (noded x k) ks lv w lw refl (λ _. refl) refl refl refl i x (omega (arith, z)) (λ l q. absurd (omega (arith, q, z)))
            (λ l n. (λ q. absurd (omega (arith, q, z)), λ q. n (omega (arith, q, z)))) (λ _ _. refl) (λ _. refl) refl refl
            (λ p. let kept = staged_set links mods s.words h.sets.next h.sets.next i x k.link (λ q. absurd (omega (arith, q, z))) refl k.stage p.0 in
            (kept, λ y e. subst (λ (q : ℕ × ℕ). get_elem? (set s.words i x) q.0 ≡ some q.1) (λ j. (z j, same_some x y e j)) (set_here s.words i x (omega (arith, z, long, in_range))))),
        refl,
      )

  pub swaps : (k : LinkView) (ks : List LinkView) (m i new : ℕ) → v.links ≡ k ∷ ks → k.stage ≡ Claimed → m < v.mods → Has m v → i ≡ head_at v.claims.count m → new ≡ suc k.link
      → Allows (λ (s : State (Unit {0}) ReadersView). Readable links mods s.words s.views) slots id (v, hs) i (λ _. new) (Swapped (step slots i new 0 vacant) (v, hs))
  swaps k ks m i new lv fresh small has is named s h sized at fits =
      let z : i ≡ head_at links m = is ∙ ap (λ n. head_at n m) (count_is links mods s.words s.views h id v at live) in (
        swapped m (slice_index s.words i) v,
        keeps,
        tt,
        subst (λ (p : ℕ × ℕ). Readable links mods (set s.words p.0 p.1) (set s.views id (swapped m (slice_index s.words p.0) v))) (λ j. (sym z j, sym named j)) (swaps_at links mods s.words s.views h id v at k ks lv fresh m (let g = (h.sets.tells id v at).mods_is live in omega (arith, small, g)) has),
        λ y at_y. let e : y ≡ m = omega (arith, at_y, is) in ap (λ x. (swapped x (slice_index s.words i) v, hs)) (sym e),
      )

  pub comes : (k : LinkView) (ks : List LinkView) (n i : ℕ) → v.links ≡ k ∷ ks → k.stage ≡ UnderWay n → i ≡ next_at v.claims.count v.mods k.link
      → Allows (λ (s : State (Unit {0}) ReadersView). Readable links mods s.words s.views) slots id (v, hs) i (λ _. n) (λ _. Came (step slots i n 0 vacant) (v, hs) n)
  comes k ks n i lv on is s h sized at fits =
      let w : ReadersView = record v { links = on_head came v.links } in
      let z : i ≡ next_at links mods k.link = is ∙ (λ j. next_at (count_is links mods s.words s.views h id v at live j) ((h.sets.tells id v at).mods_is live j) k.link) in
      let lw = ap (on_head came) lv in
      let in_range = low links mods s.words s.views h id v at k (came k) ks lv w lw refl (λ _. refl) in
      let long = h.sets.long in (
        w,
        keeps,
        tt,
        own_store links mods s.words s.views h id v at k (came k) ks lv w lw refl (λ _. refl) refl refl refl i n (omega (arith, z)) (λ l q. absurd (omega (arith, q, z)))
            (λ l d. (λ q. d (omega (arith, q, z)), λ q. absurd (omega (arith, q, z))))
            (λ y l. ap (λ t. cond (k.link == l) (cond (k.of == y) (in_set t) 0) 0) (sym on)) (λ l. ap (λ t. cond (k.link == l) (is_dead t) 0) (sym on)) refl (ap in_set (sym on))
            (λ p. (
              subst (λ (q : ℕ × ℕ). get_elem? (set s.words i n) q.0 ≡ some q.1) (λ j. (z j, sym (subst (Staged links mods s.words h.sets.next k.link) on p.0) j)) (set_here s.words i n (omega (arith, z, long, in_range))),
              λ y e. set_else s.words i (node_at links mods k.link) n (λ q. absurd (omega (arith, q, z))) ∙ p.1 y e,
            )),
        refl,
      )

  pub leaves : (l i : ℕ) → 0 < sum_by (alive l) v.links → i ≡ dead_at v.claims.count v.mods l
      → Allows (λ (s : State (Unit {0}) ReadersView). Readable links mods s.words s.views) slots id (v, hs) i (λ _. 1) (λ _. Left (step slots i 1 0 vacant) (v, hs) 1)
  leaves l i has is s h sized at fits =
      let z : i ≡ dead_at links mods l = is ∙ (λ j. dead_at (count_is links mods s.words s.views h id v at live j) ((h.sets.tells id v at).mods_is live j) l) in (
        left l v,
        keeps,
        tt,
        subst (λ j. Readable links mods (set s.words j 1) (set s.views id (left l v))) (sym z) (leaves_at links mods s.words s.views h id v at l has),
        λ y at_y. let e : y ≡ l = omega (arith, at_y, is) in ap (λ x. (left x v, hs)) (sym e),
      )

  pub begins : (m i : ℕ) → m < v.mods → Member m (mods_of v.walk) → i ≡ head_at v.claims.count m
      → Allows (λ (s : State (Unit {0}) ReadersView). Readable links mods s.words s.views) slots id (v, hs) i (λ n. n) (Began (step slots i 0 0 vacant) (v, hs))
  begins m i small has is s h sized at fits =
      let z : i ≡ head_at links m = is ∙ ap (λ n. head_at n m) (count_is links mods s.words s.views h id v at live) in
      let head = h.sets.heads m (let g = (h.sets.tells id v at).mods_is live in omega (arith, small, g)) in
      let ls = h.sets.chain m in
      let w = learned m ls v in
      let t = h.sets.tells id v at in (
        w,
        keeps,
        tt,
        same_words links mods s.words (set s.views id w) i (learns_at links mods s.words s.views h id v at m),
        λ y at_y had. let e : y ≡ m = omega (arith, at_y, is) in
            subst (λ x. (us : List ℕ) × ◌≡◌ {A = Seat} (w, hs) (learned x us v, hs) × (slice_index s.words i ≡ front us) × IsSet v x us × ((l : ℕ) → sum_by (named l) v.links ≤ 1)) (sym e) (
              ls,
              refl,
              ap (slice_index s.words) z ∙ ((is_there s.words (head_at links m) head.0 head.1).1 ∙ front_is h.sets.next head.0 ls head.2),
              λ l. let a = t.whole m has l in let b = sum_under (linked m l) (named l) (linked_named m l) v.links in let o = here_once links mods s.words s.views h id v at l in (sym a, omega (arith, a, b, o)),
              here_once links mods s.words s.views h id v at,
            ),
      )

  pub loads : (i : ℕ) → Allows (λ (s : State (Unit {0}) ReadersView). Readable links mods s.words s.views) slots id (v, hs) i (λ n. n) (λ n w. Loaded (step slots i 0 0 vacant) (v, hs) n w)
  loads i s h sized at fits =
      let c = count_is links mods s.words s.views h id v at live in
      let t = h.sets.tells id v at in
      let g = t.mods_is live in
      let mine = at_map claims_of s.views id v at in
      let f = h.claims.each id v.claims mine in
      let old = tells links h.counter h.head h.list s.words (map claims_of s.views) h.claims id v.claims mine live i in (
        v,
        keeps,
        tt,
        same_words links mods s.words (set s.views id v) i (subst (λ (us : List ReadersView). Readable links mods s.words us) (sym (set_again s.views id v at)) h),
        record {
          same = refl;
          once = λ l. here_once links mods s.words s.views h id v at l;
          low = λ l p. let a = inside links mods s.words s.views h id v at l p in omega (arith, a, c);
          entry = old.entry;
          counter = old.counter;
          whole = old.whole;
          holds = λ knows. let p = sole_parts v.claims.counter h.counter knows.0 v.claims knows.1 f.sole in holds_all links mods s.words s.views h id v at p.1 p.2;
          dead = λ l is p.
              let z : i ≡ dead_at links mods l = is ∙ (λ j. dead_at (c j) (g j) l) in
              ap (slice_index s.words) z ∙ ((is_there s.words (dead_at links mods l) _ (h.sets.stored l (inside links mods s.words s.views h id v at l p))).1 ∙ dead_here links mods s.words s.views h id v at l p);
          alone = λ knows l low is.
              let p = sole_parts v.claims.counter h.counter knows.0 v.claims knows.1 f.sole in
              let z : i ≡ dead_at links mods l = is ∙ (λ j. dead_at (c j) (g j) l) in
              ap (slice_index s.words) z ∙ ((is_there s.words (dead_at links mods l) _ (h.sets.stored l (omega (arith, low, c)))).1 ∙ dead_alone links mods s.words s.views h id v at p.1 p.2 l);
          next = λ l m ls small is e p q.
              let z : i ≡ next_at links mods l = is ∙ (λ j. next_at (c j) (g j) l) in
              let o = chain_is h.sets.chain m v.walk ls t.seen e in
              let head = h.sets.heads m (omega (arith, small, g)) in
              ap (slice_index s.words) z ∙ ((is_there s.words (next_at links mods l) _ (next_word links mods s.words h.sets.next l v.links t.known q)).1 ∙ behind_is h.sets.next head.0 l ls (subst (Follows h.sets.next head.0) o head.2) p);
          node = λ l x is e.
              let z : i ≡ node_at links mods l = is ∙ (λ j. node_at (c j) (g j) l) in
              ap (slice_index s.words) z ∙ (is_there s.words (node_at links mods l) x (node_word links mods s.words h.sets.next l x v.links t.known e)).1;
        },
      )

  pub rewinds : claiming.IsSole v.claims → Allows (λ (s : State (Unit {0}) ReadersView). Readable links mods s.words s.views) slots id (v, hs) 0 (λ _. 0) (λ _. Rewound (step slots 0 0 0 vacant) (v, hs) 0)
  rewinds knows s h sized at fits =
      let p = sole_parts v.claims.counter h.counter knows.0 v.claims knows.1 (h.claims.each id v.claims (at_map claims_of s.views id v at)).sole in
      (rewound v, keeps, tt, rewinds_at links mods s.words s.views h id v at p.1 p.2 (knows.1 ∙ ap Some p.0), refl)

  pub regains : v.claims.branch ≡ [] → Allows (λ (s : State (Unit {0}) ReadersView). Readable links mods s.words s.views) slots id (v, hs) 0 (λ n. n) (Regained (step slots 0 0 0 vacant) (v, hs))
  regains empty s h sized at fits =
      let n = slice_index s.words 0 in
      let e = (is_there s.words 0 h.counter h.claims.counter_is).1 in (
        regained n v,
        keeps,
        tt,
        same_words links mods s.words (set s.views id (regained n v)) 0 (subst (λ k. Readable links mods s.words (set s.views id (regained k v))) (sym e) (regains_at links mods s.words s.views h id v at live empty)),
        (
          refl,
          nothing_shared links mods s.words s.views h id v at empty,
          subst (λ z. claiming.DrewBelow z v.claims) (sym e) (turns.drawn_all links h.counter h.head h.list s.words (map claims_of s.views) h.claims id v.claims (at_map claims_of s.views id v at) live empty),
          here_once links mods s.words s.views h id v at,
        ),
      )
