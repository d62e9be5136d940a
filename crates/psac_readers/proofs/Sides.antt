-- Splits and joins keep the rule.
use Rattle.psac_readers.proofs.Terms.{◌≡◌, ◌≢◌, ◌⊎◌, ℕ, ◌+◌, ◌<◌, List, [], ◌∷◌, ◌++◌, map, length, set, Bool, true, false, true≢false, cond, refl, sym, ap, ◌∙◌, subst, inl, inr, ⊎_elim, arith, at_mapped, is_off, none_some, set_there, sum_by, filter, not, ◌&&◌, ◌==◌, sum_by-append, sum_by_push, map-append, map-set, cases_eq, cases_Bool, eqb-true, some, get_elem?, at_map, set_else, Handle, stem, sum_set, sum_two, all_set, LinkView, WalkView, SharedView, ReadersView, Member, Rights, Divided, stays, goes, above, comes_back, united, no_rights, in_set, named, linked, deads, Each, mods_of, claims_of, rights_of, Knows, Placed, Seen, Tells, Readable, labelled, ways, right_link, now_shared, left_of, right_of, joined, unknown, spent, member_left, member_right, filter_member, map_member, one_after, Strangers, on_left, on_right, divides, unites, alone_cases, none_there, shared_same}
use Rattle.psac_slots.specs.Claiming as claiming
use Rattle.psac_slots.specs.Handles as handles
use Rattle.psac_slots.proofs.Keeps as laws
use Rattle.psac_readers.proofs.Links.{none_if, each_stage, each_imp, each_append, each_filter, each_pass, each_zero, sum_split, sum_pass, sum_only, mods_filter}

both_on : (a b : Bool) → a ≡ true → b ≡ true → (a && b) ≡ true
both_on true b p q = q
both_on false b p q = p

-- a link that isn't of the set
not_of : (m l : ℕ) (k : LinkView) → k.of ≢ m → linked m l k ≡ 0
not_of m l k n = by (k.of == m) refl
  where
    by : (b : Bool) → (k.of == m) ≡ b → cond (k.link == l) (cond b (in_set k.stage) 0) 0 ≡ 0
    by true e = absurd (n (eqb-true k.of m e))
    by false e = none_if (k.link == l)

not_in : (m l : ℕ) (k : LinkView) → in_set k.stage ≢ 1 → linked m l k ≡ 0
not_in m l k n = by (in_set k.stage) refl
  where
    by : (n : ℕ) → in_set k.stage ≡ n → cond (k.link == l) (cond (k.of == m) n 0) 0 ≡ 0
    by x e = ⊎_elim (λ p. absurd (n p)) (λ p. ap (λ y. cond (k.link == l) (cond (k.of == m) y 0) 0) (sym e ∙ p) ∙ (ap (λ (y : ℕ). cond (k.link == l) y 0) (none_if (k.of == m)) ∙ none_if (k.link == l))) (each_stage (λ s. (in_set s ≡ 1) ⊎ (in_set s ≡ 0)) (inr refl) (λ n. inl refl) (inl refl) (inl refl) k.stage)

-- who has the set in neither way has no link of it
none_of : (m l : ℕ) (walk : List ℕ) (shared : List SharedView) → (Member m walk → ⊥) → ((e : SharedView) → Member e shared → e.of ≢ m) → (k : LinkView) → Placed walk shared k → linked m l k ≡ 0
none_of m l walk shared nw ns k p = ⊎_elim
    (λ (e : k.of ≡ m). not_in m l k (λ q. ⊎_elim (λ x. nw (subst (λ y. Member y walk) e x)) (λ (x : (f : SharedView) × Member f shared × (f.of ≡ k.of)). ns x.0 x.1 (x.2 ∙ e)) (p q)))
    (λ (n : k.of ≢ m). not_of m l k n)
    (cases_eq k.of m)

-- two live passes have branches that are apart
stranger : (views : List ReadersView) (j : ℕ) (s : Rights ℕ SharedView) (id : ℕ) (v : ReadersView) → claiming.Apart (map claims_of views) → get_elem? views id ≡ some v → j ≢ id → get_elem? (map rights_of views) j ≡ some s → v.claims.live ≡ true → s.live ≡ true → Strangers v.claims.branch s.branch
stranger views j s id v apart at n e live alive = let q = at_mapped rights_of views j s e in
    let c = at_map claims_of views j q.0 q.1 in let d = at_map claims_of views id v at in
    subst (λ (z : Rights ℕ SharedView). Strangers v.claims.branch z.branch) q.2
    (let a = ap (λ (z : Rights ℕ SharedView). z.live) q.2 ∙ alive in (apart id j v.claims q.0.claims d c (λ p. n (sym p)) live a, apart j id q.0.claims v.claims c d n a live))

module _ (shared to_right link_right : ℕ → Bool) where
  -- where a link goes that is not of a set that is shared from here on
  right_of_kept : (k : LinkView) → shared k.of ≡ false → right_link shared to_right link_right k ≡ to_right k.of
  right_of_kept k e = ap (λ b. cond b (link_right k.link) (to_right k.of)) e

  pub told_in : (v : ReadersView) (m : ℕ) → Member m (mods_of v.walk) → shared m ≡ true → Member (labelled v.claims.branch m) (now_shared shared to_right link_right v)
  told_in v m has on = member_right (labelled v.claims.branch m) v.shared (map (labelled v.claims.branch) (filter shared (mods_of v.walk))) (map_member (labelled v.claims.branch) m (filter shared (mods_of v.walk)) (filter_member shared m (mods_of v.walk) has on))

  pub in_told : (v : ReadersView) (m : ℕ) → Member m (mods_of v.walk) → shared m ≡ true → (e : SharedView) × Member e (now_shared shared to_right link_right v) × (e.of ≡ m)
  in_told v m has on = (labelled v.claims.branch m, told_in v m has on, refl)

  -- a link's set is on its side
  side_placed : (v : ReadersView) (test : ℕ → Bool) (k : LinkView) → (shared k.of ≡ false → test k.of ≡ true) → Placed (mods_of v.walk) v.shared k → Placed (filter test (mods_of v.walk)) (now_shared shared to_right link_right v) k
  side_placed v test k on p q = ⊎_elim
      (λ x. ⊎_elim (λ s. inr (in_told v k.of x s)) (λ s. inl (filter_member test k.of (mods_of v.walk) x (on s))) (cases_Bool (shared k.of)))
      (λ (x : (e : SharedView) × Member e v.shared × (e.of ≡ k.of)). inr (x.0, member_left x.0 v.shared (map (labelled v.claims.branch) (filter shared (mods_of v.walk))) x.1, x.2))
      (p q)

  pub splits_at : (links mods : ℕ) (words : List ℕ) (views : List ReadersView) → Readable links mods words views → (id : ℕ) (v : ReadersView) → get_elem? views id ≡ some v → v.claims.live ≡ true → v.claims.over ≡ 0 → length v.claims.branch < 62
      → Readable links mods words (set views id (left_of shared to_right link_right v) ++ right_of shared to_right link_right v ∷ [])
  splits_at links mods words views h id v at live none short =
      let l = left_of shared to_right link_right v in
      let r = right_of shared to_right link_right v in
      let goes_right = right_link shared to_right link_right in
      let t = h.sets.tells id v at in
      let mid : List ReadersView = set views id l in
      let wl : mods_of l.walk ≡ filter (stays ways shared to_right) (mods_of v.walk) = mods_filter (stays ways shared to_right) v.walk in
      let wr : mods_of r.walk ≡ filter (goes ways shared to_right) (mods_of v.walk) = mods_filter (goes ways shared to_right) v.walk in
      let both : (g : LinkView → ℕ) → sum_by g r.links + sum_by g l.links ≡ sum_by g v.links = λ g. sum_split g goes_right v.links in
      let total : (g : LinkView → ℕ) → sum_by (λ (u : ReadersView). sum_by g u.links) (mid ++ r ∷ []) ≡ sum_by (λ (u : ReadersView). sum_by g u.links) views =
      λ g. let a = sum_set (λ (u : ReadersView). sum_by g u.links) views id v l at in let b = sum_by_push (λ (u : ReadersView). sum_by g u.links) mid r in let c = both g in omega (arith, a, b, c) in
      record {
        counter = h.counter;
        head = h.head;
        list = h.list;
        claims = subst (claiming.Claimed links h.counter h.head h.list words)
            (sym (map-append claims_of mid (r ∷ []) ∙ ap (λ z. z ++ r.claims ∷ []) (map-set claims_of views id l)))
            (laws.splits_at links h.counter h.head h.list words (map claims_of views) h.claims id v.claims (at_map claims_of views id v at) live none short);
        rights = subst (Divided ways)
            (sym (map-append rights_of mid (r ∷ []) ∙ (λ j. map-set rights_of views id l j ++ rights_of r ∷ [])))
            (subst (λ (z : Rights ℕ SharedView × Rights ℕ SharedView). Divided ways (set (map rights_of views) id z.0 ++ z.1 ∷ []))
            (λ j. (
              record { live = v.claims.live; branch = v.claims.branch ++ false ∷ []; alone = sym wl j; shared = now_shared shared to_right link_right v },
              record { live = live j; branch = v.claims.branch ++ true ∷ []; alone = sym wr j; shared = now_shared shared to_right link_right v },
            ))
            (divides ways shared to_right (map rights_of views) id (rights_of v) h.rights (at_map rights_of views id v at) live
            (λ j s n e alive. stranger views j s id v h.claims.apart at n e live alive)));
        sets = record {
          next = h.sets.next;
          chain = h.sets.chain;
          beyond = h.sets.beyond;
          long = h.sets.long;
          heads = h.sets.heads;
          stored = λ x lt. h.sets.stored x lt ∙ ap some (sym (total (deads x)));
          counted = λ m x. total (linked m x) ∙ h.sets.counted m x;
          owed = λ x. let a = total (named x) in let o = h.sets.owed x in
              let b = sum_set (λ (u : ReadersView). handles.slot_times x u.claims.held) views id v l at in let c = sum_by_push (λ (u : ReadersView). handles.slot_times x u.claims.held) mid r in omega (arith, a, o, b, c);
          tells = one_after (Tells links mods words h.sets.next h.sets.chain) views id l r h.sets.tells
              record {
                mods_is = t.mods_is;
                known = each_filter (Knows links mods words h.sets.next) (λ k. not (goes_right k)) v.links t.known;
                placed = subst (λ z. Each (Placed z (now_shared shared to_right link_right v)) l.links) (sym wl)
                    (each_pass (Placed (mods_of v.walk) v.shared) (Placed (filter (stays ways shared to_right) (mods_of v.walk)) (now_shared shared to_right link_right v)) (λ k. not (goes_right k))
                    (λ k on p. side_placed v (stays ways shared to_right) k (λ s. both_on _ _ (ap not s) (ap not (sym (right_of_kept k s) ∙ is_off (goes_right k) on))) p) v.links t.placed);
                whole = λ m has x. let q = on_left ways shared to_right (rights_of v) m (subst (Member m) wl has) in
                    let b = both (linked m x) in let z = sum_pass (linked m x) goes_right (λ k on. gone m x k q.1 q.2 true on (λ e. true≢false e)) v.links in let o = t.whole m q.0 x in omega (arith, b, z, o);
                seen = each_filter (Seen h.sets.chain) (λ (e : WalkView). stays ways shared to_right e.of) v.walk t.seen;
                gone = λ z. absurd (true≢false (sym live ∙ z));
              }
              record {
                mods_is = λ _. t.mods_is live;
                known = each_filter (Knows links mods words h.sets.next) goes_right v.links t.known;
                placed = subst (λ z. Each (Placed z (now_shared shared to_right link_right v)) r.links) (sym wr)
                    (each_pass (Placed (mods_of v.walk) v.shared) (Placed (filter (goes ways shared to_right) (mods_of v.walk)) (now_shared shared to_right link_right v)) goes_right
                    (λ k on p. side_placed v (goes ways shared to_right) k (λ s. both_on _ _ (ap not s) (sym (right_of_kept k s) ∙ on)) p) v.links t.placed);
                whole = λ m has x. let q = on_right ways shared to_right (rights_of v) m (subst (Member m) wr has) in
                    let b = both (linked m x) in let z = sum_pass (linked m x) (λ k. not (goes_right k)) (λ k on. gone m x k q.1 q.2 false (is_off (goes_right k) on) (λ e. true≢false (sym e))) v.links in let o = t.whole m q.0 x in omega (arith, b, z, o);
                seen = each_filter (Seen h.sets.chain) (λ (e : WalkView). goes ways shared to_right e.of) v.walk t.seen;
                gone = λ (z : true ≡ false). absurd (true≢false z);
              };
        };
      }
    where
      -- a link that goes to the other side is not of the set
      gone : (m x : ℕ) (k : LinkView) {t : Bool} → shared m ≡ false → to_right m ≡ t → (b : Bool) → right_link shared to_right link_right k ≡ b → (b ≡ t → ⊥) → linked m x k ≡ 0
      gone m x k off is b on apart = not_of m x k (λ e. apart (sym on ∙ (right_of_kept k (ap shared e ∙ off) ∙ (ap to_right e ∙ is))))

mods_unknown : (es : List SharedView) → mods_of (map unknown es) ≡ map (λ (e : SharedView). e.of) es
mods_unknown [] = refl
mods_unknown (e ∷ es) = ap (λ l. e.of ∷ l) (mods_unknown es)

seen_unknown : (chain : ℕ → List ℕ) (es : List SharedView) → Each (Seen chain) (map unknown es)
seen_unknown chain [] = tt
seen_unknown chain (e ∷ es) = ((λ ls q. absurd (none_some ls q)), seen_unknown chain es)

module _ (links mods : ℕ) (words : List ℕ) (views : List ReadersView) (h : Readable links mods words views) (id other : ℕ) (v w : ReadersView) (b : List Bool) (at : get_elem? views id ≡ some v) (was : get_elem? views other ≡ some w) (two : other ≢ id) (live : v.claims.live ≡ true) (alive : w.claims.live ≡ true) (lb : v.claims.branch ≡ b ++ false ∷ []) (rb : w.claims.branch ≡ b ++ true ∷ []) where
  joined_walk : mods_of (joined v w).walk ≡ (united ways (rights_of v) (rights_of w)).alone
  joined_walk = map-append (λ (e : WalkView). e.of) (v.walk ++ w.walk) (map unknown (filter (comes_back ways (stem v.claims.branch)) v.shared))
      ∙ (λ j. map-append (λ (e : WalkView). e.of) v.walk w.walk j ++ mods_unknown (filter (comes_back ways (stem v.claims.branch)) v.shared) j)

  strange : (j : ℕ) (u : Rights ℕ SharedView) → j ≢ id → j ≢ other → get_elem? (map rights_of views) j ≡ some u → u.live ≡ true → Strangers v.claims.branch u.branch × Strangers w.claims.branch u.branch
  strange j u n o e l = (stranger views j u id v h.claims.apart at n e live l, stranger views j u other w h.claims.apart was o e alive l)

  cases : (m : ℕ) → Member m (mods_of (joined v w).walk) → Member m (mods_of v.walk) ⊎ (Member m (mods_of w.walk) ⊎ ((e : SharedView) × Member e v.shared × (e.of ≡ m) × (e.label ≡ b)))
  cases m had = alone_cases ways (map rights_of views) id other (rights_of v) (rights_of w) b h.rights (at_map rights_of views id v at) (at_map rights_of views other w was) two live alive lb rb m (subst (Member m) joined_walk had)

  -- a set that comes back is of no third pass
  third : (m : ℕ) (e : SharedView) → Member e v.shared → e.of ≡ m → e.label ≡ b → (j : ℕ) (u : ReadersView) → j ≢ id → j ≢ other → get_elem? views j ≡ some u → (x : ℕ) → sum_by (linked m x) u.links ≡ 0
  third m e had is label j u n o q x =
      let au = at_map rights_of views j u q in
      let av = at_map rights_of views id v at in
      let vu = h.rights.beside id j (rights_of v) (rights_of u) av au (λ p. n (sym p)) in
      each_zero (Placed (mods_of u.walk) u.shared) (linked m x)
      (none_of m x (mods_of u.walk) u.shared (λ p. (h.rights.beside j id (rights_of u) (rights_of v) au av n).apart m p e had is)
      (λ f hf of. none_there ways (map rights_of views) id other (rights_of v) (rights_of w) b h.rights av (at_map rights_of views other w was) two live alive lb rb strange j (rights_of u) n o au f hf (ap (λ (z : SharedView). z.label) (sym (vu.one e f had hf (is ∙ sym of))) ∙ label)))
      u.links (h.sets.tells j u q).placed

  pub joins_at : Readable links mods words (set (set views id (joined v w)) other spent)
  joins_at =
      let J = joined v w in
      let mid : List ReadersView = set views id J in
      let t = h.sets.tells id v at in
      let s = h.sets.tells other w was in
      let there : get_elem? mid other ≡ some w = set_else views id other J two ∙ was in
      let av = at_map rights_of views id v at in
      let aw = at_map rights_of views other w was in
      let total : (g : LinkView → ℕ) → sum_by (λ (u : ReadersView). sum_by g u.links) (set mid other spent) ≡ sum_by (λ (u : ReadersView). sum_by g u.links) views =
      λ g. let x = sum_set (λ (u : ReadersView). sum_by g u.links) views id v J at in let y = sum_set (λ (u : ReadersView). sum_by g u.links) mid other w spent there in let z = sum_by-append g v.links w.links in omega (arith, x, y, z) in
      let back_in : (k : LinkView) (e : SharedView) → Member e v.shared → e.of ≡ k.of → Member k.of (united ways (rights_of v) (rights_of w)).alone ⊎ ((f : SharedView) × Member f J.shared × (f.of ≡ k.of)) =
      λ k e had of. ⊎_elim
      (λ (p : above ways (stem v.claims.branch) e ≡ true). inr (e, filter_member (above ways (stem v.claims.branch)) e v.shared had p, of))
      (λ (p : above ways (stem v.claims.branch) e ≡ false). inl (member_right k.of (mods_of v.walk ++ mods_of w.walk) (map (λ (f : SharedView). f.of) (filter (comes_back ways (stem v.claims.branch)) v.shared))
      (subst (λ z. Member z (map (λ (f : SharedView). f.of) (filter (comes_back ways (stem v.claims.branch)) v.shared))) of (map_member (λ (f : SharedView). f.of) e (filter (comes_back ways (stem v.claims.branch)) v.shared) (filter_member (comes_back ways (stem v.claims.branch)) e v.shared had (ap not p))))))
      (cases_Bool (above ways (stem v.claims.branch) e)) in
      let in_left : (e : SharedView) → Member e w.shared → Member e v.shared = shared_same ways (map rights_of views) id other (rights_of v) (rights_of w) b h.rights av aw two live alive lb rb in
      record {
        counter = h.counter;
        head = h.head;
        list = h.list;
        claims = subst (claiming.Claimed links h.counter h.head h.list words) (sym (map-set claims_of mid other spent ∙ ap (λ z. set z other claiming.spent) (map-set claims_of views id J)))
            (laws.joins_at links h.counter h.head h.list words (map claims_of views) h.claims id other v.claims w.claims b (at_map claims_of views id v at) (at_map claims_of views other w was) two live alive lb rb);
        rights = subst (Divided ways) (sym (map-set rights_of mid other spent ∙ ap (λ z. set z other no_rights) (map-set rights_of views id J)))
            (subst (λ (z : Rights ℕ SharedView). Divided ways (set (set (map rights_of views) id z) other no_rights))
            (λ j. record { live = v.claims.live; branch = stem v.claims.branch; alone = sym joined_walk j; shared = J.shared })
            (unites ways (map rights_of views) id other (rights_of v) (rights_of w) b h.rights av aw two live alive lb rb strange));
        sets = record {
          next = h.sets.next;
          chain = h.sets.chain;
          beyond = h.sets.beyond;
          long = h.sets.long;
          heads = h.sets.heads;
          stored = λ x lt. h.sets.stored x lt ∙ ap some (sym (total (deads x)));
          counted = λ m x. total (linked m x) ∙ h.sets.counted m x;
          owed = λ x. let a = total (named x) in let o = h.sets.owed x in
              let c = sum_set (λ (u : ReadersView). handles.slot_times x u.claims.held) views id v J at in let d = sum_set (λ (u : ReadersView). handles.slot_times x u.claims.held) mid other w spent there in
              let e = sum_by-append (λ (y : Handle). cond (y.slot == x) 1 0) v.claims.held w.claims.held in omega (arith, a, o, c, d, e);
          tells = all_set (λ _ u. Tells links mods words h.sets.next h.sets.chain u) mid other spent
              record { mods_is = λ (e : false ≡ true). absurd (true≢false (sym e)); known = tt; placed = tt; whole = λ m e x. absurd e; seen = tt; gone = λ _. refl }
              (λ j u n e. all_set (λ _ y. Tells links mods words h.sets.next h.sets.chain y) views id J
              record {
                mods_is = t.mods_is;
                known = each_append (Knows links mods words h.sets.next) v.links w.links t.known s.known;
                placed = subst (λ z. Each (Placed z J.shared) J.links) (sym joined_walk) (each_append (Placed (united ways (rights_of v) (rights_of w)).alone J.shared) v.links w.links
                    (each_imp (Placed (mods_of v.walk) v.shared) (Placed (united ways (rights_of v) (rights_of w)).alone J.shared)
                    (λ k p q. ⊎_elim (λ x. inl (member_left k.of (mods_of v.walk ++ mods_of w.walk) (map (λ (f : SharedView). f.of) (filter (comes_back ways (stem v.claims.branch)) v.shared)) (member_left k.of (mods_of v.walk) (mods_of w.walk) x)))
                    (λ (x : (f : SharedView) × Member f v.shared × (f.of ≡ k.of)). back_in k x.0 x.1 x.2) (p q)) v.links t.placed)
                    (each_imp (Placed (mods_of w.walk) w.shared) (Placed (united ways (rights_of v) (rights_of w)).alone J.shared)
                    (λ k p q. ⊎_elim (λ x. inl (member_left k.of (mods_of v.walk ++ mods_of w.walk) (map (λ (f : SharedView). f.of) (filter (comes_back ways (stem v.claims.branch)) v.shared)) (member_right k.of (mods_of v.walk) (mods_of w.walk) x)))
                    (λ (x : (f : SharedView) × Member f w.shared × (f.of ≡ k.of)). back_in k x.0 (in_left x.0 x.1) x.2) (p q)) w.links s.placed));
                whole = λ m had x.
                    let a = sum_by-append (linked m x) v.links w.links in
                    let c = h.sets.counted m x in
                    let d = sum_two (λ (u : ReadersView). sum_by (linked m x) u.links) views id other v w (λ p. two (sym p)) at was in
                    ⊎_elim
                    (λ p. let o = t.whole m p x in omega (arith, a, c, d, o))
                    (λ y. ⊎_elim
                    (λ p. let o = s.whole m p x in omega (arith, a, c, d, o))
                    (λ (p : (f : SharedView) × Member f v.shared × (f.of ≡ m) × (f.label ≡ b)).
                    let f : ReadersView → ℕ = λ u. sum_by (linked m x) u.links in
                    let only = sum_only f (set mid other spent) id J (set_else mid other id spent (λ q. two (sym q)) ∙ set_there views id v J at)
                    (λ i y' no e'. all_set (λ i y'. i ≢ id → f y' ≡ 0) mid other spent (λ _. refl)
                    (λ i y' o e'. all_set (λ i y'. i ≢ other → i ≢ id → f y' ≡ 0) views id J (λ _ q. absurd (q refl))
                    (λ i z _ d' o' n'. third m p.0 p.1 p.2 p.3 i z n' o' d' x) i y' e' o) i y' e' no) in
                    omega (arith, a, c, total (linked m x), only))
                    y)
                    (cases m had);
                seen = each_append (Seen h.sets.chain) (v.walk ++ w.walk) (map unknown (filter (comes_back ways (stem v.claims.branch)) v.shared)) (each_append (Seen h.sets.chain) v.walk w.walk t.seen s.seen) (seen_unknown h.sets.chain (filter (comes_back ways (stem v.claims.branch)) v.shared));
                gone = λ z. absurd (true≢false (sym live ∙ z));
              }
              (λ i y o d. h.sets.tells i y d) j u e);
        };
      }
