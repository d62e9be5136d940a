-- Each step of an enter keeps the rule.
use Rattle.psac_readers.proofs.Terms.{◌≡◌, ◌≢◌, ◌⊎◌, ℕ, zero, suc, ◌+◌, ◌%◌, ◌^◌, ◌<◌, ◌≤◌, List, [], ◌∷◌, map, length, set, Bool, true, false, true≢false, cond, refl, sym, ap, ◌∙◌, subst, inl, inr, ⊎_elim, arith, Some, None, length-set, none_some, slot_below, sum_map, sum_by, ◌==◌, slice_index, sum_by-cons, sum_by-append, map-set, cases_eq, eq-eqb, ne_eqb, some, some-ne-none, some-injective, get_elem?, at_map, set_here, set_else, set_again, ClaimView, Handle, sum_set, sum_at, sum_two, all_set, Claimed, LinkView, WalkView, SharedView, ReadersView, Member, Divided, at_most_once, head_at, next_at, dead_at, node_at, Follows, in_set, is_dead, named, linked, deads, times, Each, mods_of, claims_of, rights_of, ways, Knows, Placed, Seen, Tells, Readable, Has, new_link, drew, on_head, forget, way, swapped}
use Rattle.psac_slots.specs.Claiming as claiming
use Rattle.psac_slots.specs.Handles as handles
use Rattle.psac_slots.proofs.Keeps as laws
use Rattle.psac_readers.proofs.Links.{none_if, none_if_both, each_imp, each_append, each_tail, sum_under, new_named, new_linked, new_deads, linked_named, follows_else, each_named, knows_set, is_there, mods_forget}

module _ (links mods : ℕ) (words : List ℕ) (views : List ReadersView) (h : Readable links mods words views) (id : ℕ) (v : ReadersView) (at : get_elem? views id ≡ some v) where
  pub same_rights : (w : ReadersView) → rights_of w ≡ rights_of v → Divided ways (map rights_of (set views id w))
  same_rights w e = subst (Divided ways) (sym (map-set rights_of views id w ∙ (ap (λ r. set (map rights_of views) id r) e ∙ set_again (map rights_of views) id (rights_of v) (at_map rights_of views id v at)))) h.rights

  pub same_claims : (w : ReadersView) → claims_of w ≡ claims_of v → (i x : ℕ) → links < i → claiming.Claimed links h.counter h.head h.list (set words i x) (map claims_of (set views id w))
  same_claims w e i x far = subst (claiming.Claimed links h.counter h.head h.list (set words i x)) (sym (map-set claims_of views id w ∙ (ap (λ r. set (map claims_of views) id r) e ∙ set_again (map claims_of views) id v.claims (at_map claims_of views id v at))))
      (laws.else_at links h.counter h.head h.list words (map claims_of views) i x far h.claims)

  pub held : (l : ℕ) → sum_by (λ (u : ReadersView). sum_by (named l) u.links) views ≤ handles.once_below l links
  held l = let a = h.sets.owed l in let b = sum_map claims_of (λ (c : ClaimView). handles.slot_times l c.held) views in let c = h.claims.slots l in omega (arith, a, b, c)

  -- a link is in one view, once
  pub single : (l : ℕ) → sum_by (λ (u : ReadersView). sum_by (named l) u.links) views ≤ 1
  single l = let a = held l in let b = at_most_once l links in omega (arith, a, b)

  pub inside : (l : ℕ) → 0 < sum_by (named l) v.links → l < links
  inside l p = let a = held l in let b = sum_at (λ (u : ReadersView). sum_by (named l) u.links) views id v at in slot_below l links (omega (arith, a, b, p))

  pub elsewhere : (l : ℕ) → 0 < sum_by (named l) v.links → (j : ℕ) (u : ReadersView) → j ≢ id → get_elem? views j ≡ some u → sum_by (named l) u.links ≡ 0
  elsewhere l p j u n e = let a = sum_two (λ (z : ReadersView). sum_by (named l) z.links) views j id u v n e at in let b = single l in omega (arith, a, b, p)

  pub here_once : (l : ℕ) → sum_by (named l) v.links ≤ 1
  here_once l = let b = sum_at (λ (u : ReadersView). sum_by (named l) u.links) views id v at in let a = single l in omega (arith, a, b)

  -- no other pass has the set alone
  pub not_there : (m : ℕ) → Has m v → (j : ℕ) (u : ReadersView) → j ≢ id → get_elem? views j ≡ some u → (y : ℕ) → Member y (mods_of u.walk) → y ≢ m
  not_there m has j u n e y there is =
      let av = at_map rights_of views id v at in
      let au = at_map rights_of views j u e in ⊎_elim
      (λ p. (h.rights.beside id j (rights_of v) (rights_of u) av au (λ q. n (sym q))).alone m m p (subst (λ z. Member z (mods_of u.walk)) is there) refl)
      (λ (p : (x : SharedView) × Member x v.shared × (x.of ≡ m)). (h.rights.beside j id (rights_of u) (rights_of v) au av n).apart y there p.0 p.1 (p.2 ∙ sym is))
      has

  -- what others know stays, where one word changes that none of them knows
  pub others_stay : (i x : ℕ) → ((j : ℕ) (u : ReadersView) → j ≢ id → get_elem? views j ≡ some u → Each (Knows links mods words h.sets.next) u.links → Each (Knows links mods (set words i x) h.sets.next) u.links)
      → (j : ℕ) (u : ReadersView) → j ≢ id → get_elem? views j ≡ some u → Tells links mods (set words i x) h.sets.next h.sets.chain u
  others_stay i x f j u n e = let t = h.sets.tells j u e in record { mods_is = t.mods_is; known = f j u n e t.known; placed = t.placed; whole = t.whole; seen = t.seen; gone = t.gone }

  -- what is known of links stays, where the word is no link's next or node
  pub known_far : (i x : ℕ) → ((l : ℕ) → (i ≢ next_at links mods l) × (i ≢ node_at links mods l)) → (ks : List LinkView) → Each (Knows links mods words h.sets.next) ks → Each (Knows links mods (set words i x) h.sets.next) ks
  known_far i x far = each_imp (Knows links mods words h.sets.next) (Knows links mods (set words i x) h.sets.next) (λ k p. let f = far k.link in knows_set links mods words h.sets.next h.sets.next i x k f.0 f.1 refl p)

  -- one view changes, and one word that is no set's head, and the sets stay
  pub stored_at : (w : ReadersView) (i x c front : ℕ) (list : List Handle) → ((m : ℕ) → m < mods → head_at links m ≢ i)
      → claiming.Claimed links c front list (set words i x) (map claims_of (set views id w)) → rights_of w ≡ rights_of v
      → ((l : ℕ) → l < links → get_elem? (set words i x) (dead_at links mods l) ≡ some (sum_by (λ (u : ReadersView). sum_by (deads l) u.links) (set views id w)))
      → ((m l : ℕ) → sum_by (linked m l) w.links ≡ sum_by (linked m l) v.links)
      → ((l : ℕ) → sum_by (named l) w.links + handles.slot_times l v.claims.held ≡ sum_by (named l) v.links + handles.slot_times l w.claims.held)
      → Tells links mods (set words i x) h.sets.next h.sets.chain w
      → ((j : ℕ) (u : ReadersView) → j ≢ id → get_elem? views j ≡ some u → Each (Knows links mods words h.sets.next) u.links → Each (Knows links mods (set words i x) h.sets.next) u.links)
      → Readable links mods (set words i x) (set views id w)
  stored_at w i x c front list far claims rights stored linked_stay owed mine others = record {
    counter = c;
    head = front;
    list = list;
    claims = claims;
    rights = same_rights w rights;
    sets = record {
      next = h.sets.next;
      chain = h.sets.chain;
      beyond = h.sets.beyond;
      long = (let a = h.sets.long in let b = length-set words i x in omega (arith, a, b));
      heads = λ m lt. let o = h.sets.heads m lt in (o.0, set_else words i (head_at links m) x (far m lt) ∙ o.1, o.2);
      stored = stored;
      counted = λ m l. let s = sum_set (λ (u : ReadersView). sum_by (linked m l) u.links) views id v w at in let a = linked_stay m l in let o = h.sets.counted m l in omega (arith, s, a, o);
      owed = λ l. let s = sum_set (λ (u : ReadersView). sum_by (named l) u.links) views id v w at in let r = sum_set (λ (u : ReadersView). handles.slot_times l u.claims.held) views id v w at in
          let a = owed l in let o = h.sets.owed l in omega (arith, s, r, a, o);
      tells = all_set (λ _ u. Tells links mods (set words i x) h.sets.next h.sets.chain u) views id w mine (others_stay i x others);
    };
  }

  -- and the word is no link's dead word either
  pub beside_at : (w : ReadersView) (i x c front : ℕ) (list : List Handle) → ((m : ℕ) → m < mods → head_at links m ≢ i) → ((l : ℕ) → dead_at links mods l ≢ i)
      → claiming.Claimed links c front list (set words i x) (map claims_of (set views id w)) → rights_of w ≡ rights_of v
      → ((l : ℕ) → sum_by (deads l) w.links ≡ sum_by (deads l) v.links) → ((m l : ℕ) → sum_by (linked m l) w.links ≡ sum_by (linked m l) v.links)
      → ((l : ℕ) → sum_by (named l) w.links + handles.slot_times l v.claims.held ≡ sum_by (named l) v.links + handles.slot_times l w.claims.held)
      → Tells links mods (set words i x) h.sets.next h.sets.chain w
      → ((j : ℕ) (u : ReadersView) → j ≢ id → get_elem? views j ≡ some u → Each (Knows links mods words h.sets.next) u.links → Each (Knows links mods (set words i x) h.sets.next) u.links)
      → Readable links mods (set words i x) (set views id w)
  beside_at w i x c front list far no_dead claims rights deads_stay = stored_at w i x c front list far claims rights
      (λ l lt. set_else words i (dead_at links mods l) x (no_dead l) ∙ (h.sets.stored l lt ∙ ap some (let s = sum_set (λ (u : ReadersView). sum_by (deads l) u.links) views id v w at in let a = deads_stay l in omega (arith, s, a))))

  -- a claim
  pub draws_at : v.claims.live ≡ true → v.claims.over ≡ 0 → Readable links mods (set words 0 ((h.counter + 1) % 2 ^ 64)) (set views id (drew v h.counter))
  draws_at live none =
      let c = h.counter in
      let x = (c + 1) % 2 ^ 64 in
      let w = drew v c in
      let es = claiming.entry v.claims.list c in
      let t = h.sets.tells id v at in
      let know = known_far 0 x (λ l. ((λ q. absurd (omega (arith, q))), (λ q. absurd (omega (arith, q))))) in
      let linked_stay : (m l : ℕ) → sum_by (linked m l) w.links ≡ sum_by (linked m l) v.links = λ m l. let a = sum_by-append (linked m l) (map new_link es) v.links in let b = new_linked m l es in omega (arith, a, b) in
      beside_at w 0 x (suc c) h.head h.list (λ m lt q. absurd (omega (arith, q))) (λ l q. absurd (omega (arith, q)))
      (subst (claiming.Claimed links (suc c) h.head h.list (set words 0 x)) (sym (map-set claims_of views id w)) (laws.draws_at links c h.head h.list words (map claims_of views) h.claims id v.claims (at_map claims_of views id v at) live none))
      refl
      (λ l. let a = sum_by-append (deads l) (map new_link es) v.links in let b = new_deads l es in omega (arith, a, b))
      linked_stay
      (λ l. let a = sum_by-append (named l) (map new_link es) v.links in let b = new_named l es in let q = sum_by-append (λ (y : Handle). cond (y.slot == l) 1 0) v.claims.held es in omega (arith, a, b, q))
      record {
        mods_is = t.mods_is;
        known = each_append (Knows links mods (set words 0 x) h.sets.next) (map new_link es) v.links (fresh_known (set words 0 x) h.sets.next es) (know v.links t.known);
        placed = each_append (Placed (mods_of v.walk) v.shared) (map new_link es) v.links (fresh_placed (mods_of v.walk) v.shared es) t.placed;
        whole = λ m has l. linked_stay m l ∙ t.whole m has l;
        seen = t.seen;
        gone = λ z. absurd (true≢false (sym live ∙ z));
      }
      (λ j u n e p. know u.links p)
    where
      fresh_known : (ws : List ℕ) (next : ℕ → ℕ) (hs : List Handle) → Each (Knows links mods ws next) (map new_link hs)
      fresh_known ws next [] = tt
      fresh_known ws next (y ∷ ys) = ((tt, λ x e. absurd (none_some x e)), fresh_known ws next ys)

      fresh_placed : (walk : List ℕ) (shared : List SharedView) (hs : List Handle) → Each (Placed walk shared) (map new_link hs)
      fresh_placed walk shared [] = tt
      fresh_placed walk shared (y ∷ ys) = ((λ (e : 0 ≡ 1). absurd (omega (arith, e))), fresh_placed walk shared ys)

  -- the newest link k becomes k', and one word of its own changes
  module _ (k k' : LinkView) (ks : List LinkView) (lv : v.links ≡ k ∷ ks) (w : ReadersView) (lw : w.links ≡ k' ∷ ks) (cw : claims_of w ≡ claims_of v) (same_named : (l : ℕ) → named l k' ≡ named l k) where
    cons_v : (g : LinkView → ℕ) → sum_by g v.links ≡ g k + sum_by g ks
    cons_v g = ap (sum_by g) lv ∙ sum_by-cons g k ks

    cons_w : (g : LinkView → ℕ) → sum_by g w.links ≡ g k' + sum_by g ks
    cons_w g = ap (sum_by g) lw ∙ sum_by-cons g k' ks

    one_here : named k.link k ≡ 1
    one_here = ap {B = ℕ} (λ b. cond b 1 0) (eq-eqb k.link k.link refl)

    pub there : 0 < sum_by (named k.link) v.links
    there = let a = cons_v (named k.link) in let b = one_here in omega (arith, a, b)

    pub low : k.link < links
    low = inside k.link there

    none_behind : sum_by (named k.link) ks ≡ 0
    none_behind = let a = cons_v (named k.link) in let b = one_here in let c = here_once k.link in omega (arith, a, b, c)

    owed_stays : (l : ℕ) → sum_by (λ (u : ReadersView). sum_by (named l) u.links) (set views id w) ≡ sum_by (λ (u : ReadersView). handles.slot_times l u.claims.held) (set views id w)
    owed_stays l = let s = sum_set (λ (u : ReadersView). sum_by (named l) u.links) views id v w at in let p = sum_set (λ (u : ReadersView). handles.slot_times l u.claims.held) views id v w at in
        let a = cons_v (named l) in let b = cons_w (named l) in let c = same_named l in let o = h.sets.owed l in let d = ap (λ (c : ClaimView). handles.slot_times l c.held) cw in omega (arith, s, p, a, b, c, o, d)

    sum_stays : (g : LinkView → ℕ) → g k' ≡ g k → sum_by g w.links ≡ sum_by g v.links
    sum_stays g e = let a = cons_v g in let b = cons_w g in omega (arith, a, b, e)

    -- a store to its next or node
    pub own_store : w.walk ≡ v.walk → w.shared ≡ v.shared → w.mods ≡ v.mods → (i x : ℕ) → links + mods < i → ((l : ℕ) → i ≢ dead_at links mods l) → ((l : ℕ) → l ≢ k.link → (i ≢ next_at links mods l) × (i ≢ node_at links mods l))
        → ((m l : ℕ) → linked m l k' ≡ linked m l k) → ((l : ℕ) → deads l k' ≡ deads l k) → k'.of ≡ k.of → in_set k'.stage ≡ in_set k.stage
        → (Knows links mods words h.sets.next k → Knows links mods (set words i x) h.sets.next k') → Readable links mods (set words i x) (set views id w)
    own_store ew es em i x far no_dead apart same_linked same_deads same_of same_in knows =
        let t = h.sets.tells id v at in
        let else_known : (us : List LinkView) → sum_by (named k.link) us ≡ 0 → Each (Knows links mods words h.sets.next) us → Each (Knows links mods (set words i x) h.sets.next) us =
        each_named (Knows links mods words h.sets.next) (Knows links mods (set words i x) h.sets.next) k.link (λ y n p. let a = apart y.link n in knows_set links mods words h.sets.next h.sets.next i x y a.0 a.1 refl p) in
        let known = each_tail (Knows links mods words h.sets.next) k v.links ks lv t.known in
        let placed = each_tail (Placed (mods_of v.walk) v.shared) k v.links ks lv t.placed in
        beside_at w i x h.counter h.head h.list (λ m lt q. absurd (omega (arith, q, far, lt))) (λ l q. no_dead l (sym q)) (same_claims w cw i x (omega (arith, far)))
        (λ j. record { live = (cw j).live; branch = (cw j).branch; alone = mods_of (ew j); shared = es j })
        (λ l. sum_stays (deads l) (same_deads l)) (λ m l. sum_stays (linked m l) (same_linked m l))
        (λ l. let a = sum_stays (named l) (same_named l) in let b = ap (λ (c : ClaimView). handles.slot_times l c.held) cw in omega (arith, a, b))
        record {
          mods_is = λ l. em ∙ t.mods_is (ap (λ (c : ClaimView). c.live) (sym cw) ∙ l);
          known = subst (Each (Knows links mods (set words i x) h.sets.next)) (sym lw) (knows known.0, else_known ks none_behind known.1);
          placed = (λ (q : Each (Placed (mods_of v.walk) v.shared) (k' ∷ ks)). subst (λ (z : List WalkView × List SharedView × List LinkView). Each (Placed (mods_of z.0) z.1) z.2) (λ j. (sym ew j, sym es j, sym lw j)) q)
              ((λ e. subst (λ o. Member o (mods_of v.walk) ⊎ ((f : SharedView) × Member f v.shared × (f.of ≡ o))) (sym same_of) (placed.0 (sym same_in ∙ e))), placed.1);
          whole = λ m has l. sum_stays (linked m l) (same_linked m l) ∙ t.whole m (subst (λ z. Member m (mods_of z)) ew has) l;
          seen = subst (Each (Seen h.sets.chain)) (sym ew) t.seen;
          gone = λ z. let e = ap length (sym lv ∙ t.gone (ap (λ (c : ClaimView). c.live) (sym cw) ∙ z)) in absurd (omega (arith, e));
        }
        (λ j u n e p. else_known u.links (elsewhere k.link there j u n e) p)

-- the swap of a head
module _ (links mods : ℕ) (words : List ℕ) (views : List ReadersView) (h : Readable links mods words views) (id : ℕ) (v : ReadersView) (at : get_elem? views id ≡ some v) (k : LinkView) (ks : List LinkView) (lv : v.links ≡ k ∷ ks) (fresh : k.stage ≡ Claimed) (m : ℕ) (small : m < mods) (has : Has m v) where
  pub swaps_at : Readable links mods (set words (head_at links m) (suc k.link)) (set views id (swapped m (slice_index words (head_at links m)) v))
  swaps_at =
      let head = h.sets.heads m small in
      let i = head_at links m in
      let n = slice_index words i in
      let stands = is_there words i head.0 head.1 in
      let l = k.link in
      let w = swapped m n v in
      let k' = way m n k in
      let lw : w.links ≡ k' ∷ ks = ap (on_head (way m n)) lv in
      let next = h.sets.next in
      let next' : ℕ → ℕ = λ x. cond (x == l) n (next x) in
      let chain = h.sets.chain in
      let chain' : ℕ → List ℕ = λ y. cond (y == m) (l ∷ chain m) (chain y) in
      let next_l : next' l ≡ n = ap (λ b. cond b n (next l)) (eq-eqb l l refl) in
      let next_x : (x : ℕ) → x ≢ l → next' x ≡ next x = λ x q. ap (λ b. cond b n (next x)) (ne_eqb x l q) in
      let chain_m : chain' m ≡ l ∷ chain m = ap (λ b. cond b (l ∷ chain m) (chain m)) (eq-eqb m m refl) in
      let chain_y : (y : ℕ) → y ≢ m → chain' y ≡ chain y = λ y q. ap (λ b. cond b (l ∷ chain m) (chain y)) (ne_eqb y m q) in
      let vs : (g : LinkView → ℕ) → sum_by g v.links ≡ g k + sum_by g ks = cons_v links mods words views h id v at k k' ks lv w lw refl (λ _. refl) in
      let ws : (g : LinkView → ℕ) → sum_by g w.links ≡ g k' + sum_by g ks = cons_w links mods words views h id v at k k' ks lv w lw refl (λ _. refl) in
      let one : named l k ≡ 1 = one_here links mods words views h id v at k k' ks lv w lw refl (λ _. refl) in
      let mine = there links mods words views h id v at k k' ks lv w lw refl (λ _. refl) in
      let alone = none_behind links mods words views h id v at k k' ks lv w lw refl (λ _. refl) in
      let t = h.sets.tells id v at in
      let was : (y x : ℕ) → linked y x k ≡ 0 = λ y x. ap (λ s. cond (k.link == x) (cond (k.of == y) (in_set s) 0) 0) fresh ∙ none_if_both (k.link == x) (k.of == y) in
      let now_m : linked m l k' ≡ 1 = ap {B = ℕ} (λ b. cond b (cond (m == m) 1 0) 0) (eq-eqb l l refl) ∙ ap {B = ℕ} (λ b. cond b 1 0) (eq-eqb m m refl) in
      let now_x : (y x : ℕ) → x ≢ l → linked y x k' ≡ 0 = λ y x q. ap {B = ℕ} (λ b. cond b (cond (m == y) 1 0) 0) (ne_eqb l x (λ e. q (sym e))) in
      let now_y : (y x : ℕ) → y ≢ m → linked y x k' ≡ 0 = λ y x q. ap {B = ℕ} (λ b. cond (l == x) (cond b 1 0) 0) (ne_eqb m y (λ e. q (sym e))) ∙ none_if (l == x) in
      let out : (y : ℕ) → times l (chain y) ≡ 0 = λ y.
      let a = sum_set (λ (u : ReadersView). sum_by (linked y l) u.links) views id v w at in
      let b = vs (linked y l) in
      let c = was y l in
      let d = sum_under (linked y l) (named l) (linked_named y l) ks in
      let e = rest_none views y l id v at (single links mods words views h id v at l) mine in
      omega (arith, b, c, d, alone, e, h.sets.counted y l) in
      let known' : (us : List LinkView) → sum_by (named l) us ≡ 0 → Each (Knows links mods words next) us → Each (Knows links mods (set words i (suc l)) next') us =
      each_named (Knows links mods words next) (Knows links mods (set words i (suc l)) next') l (λ y q p. knows_set links mods words next next' i (suc l) y (λ z. absurd (omega (arith, z, small))) (λ z. absurd (omega (arith, z, small))) (next_x y.link q) p) in
      let known = each_tail (Knows links mods words next) k v.links ks lv t.known in
      let placed = each_tail (Placed (mods_of v.walk) v.shared) k v.links ks lv t.placed in
      record {
        counter = h.counter;
        head = h.head;
        list = h.list;
        claims = same_claims links mods words views h id v at w refl i (suc l) (omega arith);
        rights = same_rights links mods words views h id v at w (λ j. record { live = v.claims.live; branch = v.claims.branch; alone = mods_forget m v.walk j; shared = v.shared });
        sets = record {
          next = next';
          chain = chain';
          beyond = λ y far. chain_y y (λ e. absurd (omega (arith, far, small, e))) ∙ h.sets.beyond y far;
          long = (let a = h.sets.long in let b = length-set words i (suc l) in omega (arith, a, b));
          heads = λ y lt. ⊎_elim
              (λ (e : y ≡ m). subst (λ z. (x : ℕ) × (get_elem? (set words i (suc l)) (head_at links z) ≡ some x) × Follows next' x (chain' z)) (sym e) (
                suc l,
                set_here words i (suc l) stands.0,
                subst (Follows next' (suc l)) (sym chain_m)
                    (refl, subst (λ x. Follows next' x (chain m)) (sym next_l) (follows_else next next' l n (chain m) (out m) next_x (subst (λ x. Follows next x (chain m)) (sym stands.1) head.2))),
              ))
              (λ (q : y ≢ m). let o = h.sets.heads y lt in
              (o.0, set_else words i (head_at links y) (suc l) (λ e. q (omega (arith, e))) ∙ o.1, subst (Follows next' o.0) (sym (chain_y y q)) (follows_else next next' l o.0 (chain y) (out y) next_x o.2)))
              (cases_eq y m);
          stored = λ x lt. set_else words i (dead_at links mods x) (suc l) (λ z. absurd (omega (arith, z, small))) ∙ (h.sets.stored x lt ∙ ap some
              (let s = sum_set (λ (u : ReadersView). sum_by (deads x) u.links) views id v w at in let a = vs (deads x) in let b = ws (deads x) in
              let c : deads x k ≡ 0 = ap (λ s. cond (k.link == x) (is_dead s) 0) fresh ∙ none_if (k.link == x) in let d : deads x k' ≡ 0 = none_if (k.link == x) in omega (arith, s, a, b, c, d)));
          counted = λ y x. let s = sum_set (λ (u : ReadersView). sum_by (linked y x) u.links) views id v w at in let a = vs (linked y x) in let b = ws (linked y x) in let c = was y x in let o = h.sets.counted y x in
              let d = grown m l y x k' (λ ey ex. ap {B = ℕ} (λ (p : ℕ × ℕ). linked p.0 p.1 k') (λ i. (ey i, ex i)) ∙ now_m) (now_x y x) (now_y y x) chain in omega (arith, s, a, b, c, o, d);
          owed = owed_stays links mods words views h id v at k k' ks lv w lw refl (λ _. refl);
          tells = all_set (λ _ u. Tells links mods (set words i (suc l)) next' chain' u) views id w
              record {
                mods_is = t.mods_is;
                known = subst (Each (Knows links mods (set words i (suc l)) next')) (sym lw)
                    ((next_l, λ x is. set_else words i (node_at links mods l) (suc l) (λ z. absurd (omega (arith, z, small))) ∙ known.0.1 x is), known' ks alone known.1);
                placed = subst (λ (z : List ℕ × List LinkView). Each (Placed z.0 v.shared) z.1) (λ j. (sym (mods_forget m v.walk) j, sym lw j)) ((λ _. has), placed.1);
                whole = λ y had x. let a = vs (linked y x) in let b = ws (linked y x) in let c = was y x in let o = t.whole y (subst (Member y) (mods_forget m v.walk) had) x in
                    let d = grown m l y x k' (λ ey ex. ap {B = ℕ} (λ (p : ℕ × ℕ). linked p.0 p.1 k') (λ i. (ey i, ex i)) ∙ now_m) (now_x y x) (now_y y x) chain in omega (arith, a, b, c, o, d);
                seen = seen_forget chain chain' m chain_y v.walk t.seen;
                gone = λ z. let e = ap length (sym lv ∙ t.gone z) in absurd (omega (arith, e));
              }
              (λ j u q e. let o = h.sets.tells j u e in record {
                mods_is = o.mods_is;
                known = known' u.links (elsewhere links mods words views h id v at l mine j u q e) o.known;
                placed = o.placed;
                whole = λ y had x. let z = not_there links mods words views h id v at m has j u q e y had in o.whole y had x ∙ ap (times x) (sym (chain_y y z));
                seen = seen_else chain chain' m chain_y u.walk (λ y had. not_there links mods words views h id v at m has j u q e y had) o.seen;
                gone = o.gone;
              });
        };
      }
    where
      -- where a link is named in one view, what the others have of it in a set is nothing
      rest_none : (us : List ReadersView) (y l id : ℕ) (v : ReadersView) → get_elem? us id ≡ some v → sum_by (λ (u : ReadersView). sum_by (named l) u.links) us ≤ 1 → 0 < sum_by (named l) v.links → sum_by (λ (u : ReadersView). sum_by (linked y l) u.links) us ≤ sum_by (linked y l) v.links
      rest_none [] y l id v e o p = absurd (some-ne-none v (sym e))
      rest_none (u ∷ us) y l zero v e o p =
          let f : ReadersView → ℕ = λ u. sum_by (named l) u.links in let g : ReadersView → ℕ = λ u. sum_by (linked y l) u.links in
          let a = ap f (some-injective u v e) in let b = ap g (some-injective u v e) in
          let c = sum_under g f (λ z. sum_under (linked y l) (named l) (linked_named y l) z.links) us in omega (arith, sum_by-cons f u us, sum_by-cons g u us, a, b, c, o, p)
      rest_none (u ∷ us) y l (suc id) v e o p =
          let f : ReadersView → ℕ = λ u. sum_by (named l) u.links in let g : ReadersView → ℕ = λ u. sum_by (linked y l) u.links in
          let a = sum_at f us id v e in let b = sum_under (linked y l) (named l) (linked_named y l) u.links in
          let c = rest_none us y l id v e (omega (arith, sum_by-cons f u us, o)) p in omega (arith, sum_by-cons f u us, sum_by-cons g u us, a, b, c, o, p)

      grown : (m l y x : ℕ) (k' : LinkView) → (y ≡ m → x ≡ l → linked y x k' ≡ 1) → (x ≢ l → linked y x k' ≡ 0) → (y ≢ m → linked y x k' ≡ 0) → (chain : ℕ → List ℕ) → times x (cond (y == m) (l ∷ chain m) (chain y)) ≡ linked y x k' + times x (chain y)
      grown m l y x k' both nx ny chain = ⊎_elim
          (λ (ey : y ≡ m). let p = ap (λ b. times x (cond b (l ∷ chain m) (chain y))) (eq-eqb y m ey) in let c = ap (λ z. times x (chain z)) ey in ⊎_elim
          (λ (ex : x ≡ l). let o : cond (l == x) 1 0 ≡ 1 = ap {B = ℕ} (λ b. cond b 1 0) (eq-eqb l x (sym ex)) in let q = both ey ex in omega (arith, p, c, o, q))
          (λ (n : x ≢ l). let o : cond (l == x) 1 0 ≡ 0 = ap {B = ℕ} (λ b. cond b 1 0) (ne_eqb l x (λ e. n (sym e))) in let q = nx n in omega (arith, p, c, o, q))
          (cases_eq x l))
          (λ (n : y ≢ m). let p = ap (λ b. times x (cond b (l ∷ chain m) (chain y))) (ne_eqb y m n) in let q = ny n in omega (arith, p, q))
          (cases_eq y m)

      forget_one : (chain chain' : ℕ → List ℕ) (m : ℕ) → ((y : ℕ) → y ≢ m → chain' y ≡ chain y) → (e : WalkView) → Seen chain e → (b : Bool) → (e.of == m) ≡ b → (ls : List ℕ) → cond b None e.chain ≡ Some ls → chain' e.of ≡ ls
      forget_one chain chain' m same e s true is ls q = absurd (none_some ls q)
      forget_one chain chain' m same e s false is ls q = same e.of (λ z. true≢false (sym (eq-eqb e.of m z) ∙ is)) ∙ s ls q

      seen_forget : (chain chain' : ℕ → List ℕ) (m : ℕ) → ((y : ℕ) → y ≢ m → chain' y ≡ chain y) → (es : List WalkView) → Each (Seen chain) es → Each (Seen chain') (map (forget m) es)
      seen_forget chain chain' m same [] s = tt
      seen_forget chain chain' m same (e ∷ es) s = (λ ls q. forget_one chain chain' m same e s.0 (e.of == m) refl ls q, seen_forget chain chain' m same es s.1)

      seen_else : (chain chain' : ℕ → List ℕ) (m : ℕ) → ((y : ℕ) → y ≢ m → chain' y ≡ chain y) → (es : List WalkView) → ((y : ℕ) → Member y (mods_of es) → y ≢ m) → Each (Seen chain) es → Each (Seen chain') es
      seen_else chain chain' m same [] n s = tt
      seen_else chain chain' m same (e ∷ es) n s = (λ ls q. same e.of (n e.of (inl refl)) ∙ s.0 ls q, seen_else chain chain' m same es (λ y z. n y (inr z)) s.1)
