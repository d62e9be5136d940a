-- A link is taken off its set.
use Rattle.psac_readers.proofs.Terms.{◌≡◌, ◌≢◌, ◌⊎◌, ℕ, suc, ◌+◌, ◌<◌, ◌≤◌, List, [], ◌∷◌, ◌++◌, map, set, Bool, true, false, cond, refl, sym, ap, ◌∙◌, subst, inl, inr, ⊎_elim, arith, Option, Some, None, length-set, append_assoc, sum_map, same_some, sum_by, ◌==◌, eq-eqb, eqb-true, ne_eqb, cases_eq, some, get_elem?, set_here, set_else, Member, sum_set, all_set, Stage, LinkView, WalkView, ReadersView, head_at, next_at, dead_at, node_at, Follows, in_set, is_live, is_dead, named, linked, alive, deads, times, Each, mods_of, Staged, Knows, Placed, Seen, Tells, Readable, leaving, take_off, without, known_without, lose, unlinked, led_from, is_settled, Fine, front}
use Rattle.psac_slots.specs.Handles as handles
use Rattle.psac_readers.proofs.Links.{each_stage, stage_if, stage_else, restaged_known, if_two, in_low, live_low, each_imp, each_map, each_named, sum_same, sum_plus, sum_under, only_here, linked_named, alive_deads, follows_else, knows_set, is_there, next_word, front_is}
use Rattle.psac_readers.proofs.Walking.{all_whole}
use Rattle.psac_readers.proofs.Keeps.{same_rights, same_claims, single, inside, elsewhere, here_once}

pub one_if : (x y : ℕ) → x ≡ y → ◌≡◌ {A = ℕ} (cond (x == y) 1 0) 1
one_if x y e = ap {B = ℕ} (λ b. cond b 1 0) (eq-eqb x y e)

pub none_unless : (x y : ℕ) → x ≢ y → ◌≡◌ {A = ℕ} (cond (x == y) 1 0) 0
none_unless x y n = ap {B = ℕ} (λ b. cond b 1 0) (ne_eqb x y n)

pub times_append : (x : ℕ) (a b : List ℕ) → times x (a ++ b) ≡ times x a + times x b
times_append x [] b = omega arith
times_append x (y ∷ a) b = let r = times_append x a b in omega (arith, r)

without_one : (l x : ℕ) (ls ms : List ℕ) → x ≢ l → ms ≡ ls → cond (x == l) ms (x ∷ ms) ≡ x ∷ ls
without_one l x ls ms n e = ap {B = List ℕ} (λ b. cond b ms (x ∷ ms)) (ne_eqb x l n) ∙ ap (λ z. x ∷ z) e

not_here : (l x : ℕ) (ls : List ℕ) → times l (x ∷ ls) ≡ 0 → x ≢ l
not_here l x ls out e = let t = one_if x l e in absurd (omega (arith, out, t))

pub without_none : (l : ℕ) (ls : List ℕ) → times l ls ≡ 0 → without l ls ≡ ls
without_none l [] out = refl
without_none l (x ∷ ls) out = without_one l x ls (without l ls) (not_here l x ls out) (without_none l ls (omega (arith, out)))

pub without_mid : (l : ℕ) (a b : List ℕ) → times l a ≡ 0 → times l b ≡ 0 → without l (a ++ l ∷ b) ≡ a ++ b
without_mid l [] b oa ob = ap {B = List ℕ} (λ t. cond t (without l b) (l ∷ without l b)) (eq-eqb l l refl) ∙ without_none l b ob
without_mid l (x ∷ a) b oa ob = without_one l x (a ++ b) (without l (a ++ l ∷ b)) (not_here l x a oa) (without_mid l a b (omega (arith, oa)) ob)

pub without_gone : (l : ℕ) (ls : List ℕ) → times l (without l ls) ≡ 0
without_gone l [] = refl
without_gone l (x ∷ ls) = by (without_gone l ls) (x == l) refl
  where
    by : times l (without l ls) ≡ 0 → (b : Bool) → (x == l) ≡ b → times l (cond b (without l ls) (x ∷ without l ls)) ≡ 0
    by r true e = r
    by r false e = let t = ap {B = ℕ} (λ b. cond b 1 0) e in omega (arith, r, t)

pub without_else : (l y : ℕ) (ls : List ℕ) → y ≢ l → times y (without l ls) ≡ times y ls
without_else l y [] n = refl
without_else l y (x ∷ ls) n = by (without_else l y ls n) (x == l) refl
  where
    by : times y (without l ls) ≡ times y ls → (b : Bool) → (x == l) ≡ b → times y (cond b (without l ls) (x ∷ without l ls)) ≡ cond (x == y) 1 0 + times y ls
    by r true e = let t = none_unless x y (λ q. n (sym q ∙ eqb-true x l e)) in omega (arith, r, t)
    by r false e = omega (arith, r)

leaving_dead : (s : Stage) (b : Bool) → is_dead (cond b (leaving s) s) ≡ is_dead s
leaving_dead s b = stage_if leaving (λ s t. is_dead t ≡ is_dead s) (λ s. refl) (each_stage (λ s. is_dead (leaving s) ≡ is_dead s) refl (λ n. refl) refl refl) b s

leaving_in : (s : Stage) (b : Bool) → in_set (cond b (leaving s) s) ≡ 1 → in_set s ≡ 1
leaving_in s b = stage_if leaving (λ s t. in_set t ≡ 1 → in_set s ≡ 1) (λ s e. e) (each_stage (λ s. in_set (leaving s) ≡ 1 → in_set s ≡ 1) (λ e. e) (λ n e. refl) (λ e. refl) (λ e. refl)) b s

off_here : (l y : ℕ) (k : LinkView) → linked y l (take_off l k) + alive l k ≤ named l k
off_here l y k = by (k.link == l) (k.of == y) k.stage
  where
    by : (a b : Bool) (s : Stage) → cond a (cond b (in_set (cond a (leaving s) s)) 0) 0 + cond a (is_live s) 0 ≤ cond a 1 0
    by true true s = each_stage (λ s. in_set (leaving s) + is_live s ≤ 1) (omega arith) (λ n. omega arith) (omega arith) (omega arith) s
    by true false s = let a = live_low s in omega (arith, a)
    by false b s = omega arith

off_else : (l y x : ℕ) (k : LinkView) → x ≢ l → linked y x (take_off l k) ≡ linked y x k
off_else l y x k n = stage_else leaving (λ s. cond (k.of == y) (in_set s) 0) l x k n

pub mods_lose : (l : ℕ) (es : List WalkView) → mods_of (map (lose l) es) ≡ mods_of es
mods_lose l [] = refl
mods_lose l (e ∷ es) = ap (λ z. e.of ∷ z) (mods_lose l es)

seen_lose : (l : ℕ) (chain : ℕ → List ℕ) (es : List WalkView) → Each (Seen chain) es → Each (Seen (λ y. without l (chain y))) (map (lose l) es)
seen_lose l chain [] s = tt
seen_lose l chain (e ∷ es) s = (λ ls q. by e.chain (s.0) ls q, seen_lose l chain es s.1)
  where
    by : (o : Option (List ℕ)) → ((ls : List ℕ) → o ≡ Some ls → chain e.of ≡ ls) → (ls : List ℕ) → known_without l o ≡ Some ls → without l (chain e.of) ≡ ls
    by None f ls q = absurd (cc)
    by (Some ks) f ls q = ap (without l) (f ks refl) ∙ same_some (without l ks) ls q

-- in another set is no link of this one
apart_sets : (m y x : ℕ) (k : LinkView) → y ≢ m → linked m x k + linked y x k ≤ named x k
apart_sets m y x k n = if_two (k.link == x) (cond (k.of == m) (in_set k.stage) 0) (cond (k.of == y) (in_set k.stage) 0) 1 (by (k.of == m) (k.of == y) refl refl)
  where
    by : (b c : Bool) → (k.of == m) ≡ b → (k.of == y) ≡ c → cond b (in_set k.stage) 0 + cond c (in_set k.stage) 0 ≤ 1
    by true true e f = absurd (n (sym (eqb-true k.of y f) ∙ eqb-true k.of m e))
    by true false e f = let a = in_low k.stage in omega (arith, a)
    by false true e f = let a = in_low k.stage in omega (arith, a)
    by false false e f = omega arith

module _ (links mods : ℕ) (words : List ℕ) (views : List ReadersView) (h : Readable links mods words views) (id : ℕ) (v : ReadersView) (at : get_elem? views id ≡ some v) (l : ℕ) (live : 0 < sum_by (alive l) v.links) where
  mine : 0 < sum_by (named l) v.links
  mine = let a = sum_under (alive l) (named l) (λ k. let a = alive_deads l k in omega (arith, a)) v.links in omega (arith, a, live)

  -- a link of one set is of no other
  pub in_one : (m y x : ℕ) → y ≢ m → 0 < times x (h.sets.chain m) → times x (h.sets.chain y) ≡ 0
  in_one m y x n p =
      let f : ReadersView → ℕ = λ u. sum_by (linked m x) u.links in
      let g : ReadersView → ℕ = λ u. sum_by (linked y x) u.links in
      let a = sum_plus f g (λ u. f u + g u) (λ u. refl) views in
      let b = sum_under (λ u. f u + g u) (λ (u : ReadersView). sum_by (named x) u.links) (λ u. let c = sum_plus (linked m x) (linked y x) (λ k. linked m x k + linked y x k) (λ k. refl) u.links in let d = sum_under (λ k. linked m x k + linked y x k) (named x) (λ k. apart_sets m y x k n) u.links in omega (arith, c, d)) views in
      omega (arith, a, b, single links mods words views h id v at x, h.sets.counted m x, h.sets.counted y x, p)

  off_links : (y x : ℕ) → x ≢ l → sum_by (linked y x) (map (take_off l) v.links) ≡ sum_by (linked y x) v.links
  off_links y x n = sum_map (take_off l) (linked y x) v.links ∙ sum_same (λ k. linked y x (take_off l k)) (linked y x) (λ k. off_else l y x k n) v.links

  off_none : (y : ℕ) → sum_by (linked y l) (map (take_off l) v.links) ≡ 0
  off_none y =
      let b = sum_plus (λ k. linked y l (take_off l k)) (alive l) (λ k. linked y l (take_off l k) + alive l k) (λ k. refl) v.links in
      let c = sum_under (λ k. linked y l (take_off l k) + alive l k) (named l) (off_here l y) v.links in
      omega (arith, sum_map (take_off l) (linked y l) v.links, b, c, here_once links mods words views h id v at l, live)

  -- a set that another pass has is without the link
  foreign : (j : ℕ) (u : ReadersView) → j ≢ id → get_elem? views j ≡ some u → (y : ℕ) → Member y (mods_of u.walk) → times l (h.sets.chain y) ≡ 0
  foreign j u n e y has =
      let b = sum_under (linked y l) (named l) (linked_named y l) u.links in
      omega (arith, (h.sets.tells j u e).whole y has l, b, elsewhere links mods words views h id v at l mine j u n e)

  seen_else : (us : List WalkView) → ((y : ℕ) → Member y (mods_of us) → times l (h.sets.chain y) ≡ 0) → Each (Seen h.sets.chain) us → Each (Seen (λ y. without l (h.sets.chain y))) us
  seen_else [] n s = tt
  seen_else (e ∷ es) n s = (λ ls q. without_none l (h.sets.chain e.of) (n e.of (inl refl)) ∙ s.0 ls q, seen_else es (λ y z. n y (inr z)) s.1)

  off_at : (i n : ℕ) (next : ℕ → ℕ) → links < i → ((x : ℕ) → i ≢ dead_at links mods x)
      → ((y : ℕ) → y < mods → (w : ℕ) × (get_elem? (set words i n) (head_at links y) ≡ some w) × Follows next w (without l (h.sets.chain y)))
      → Each (Knows links mods (set words i n) next) (map (take_off l) v.links)
      → ((j : ℕ) (u : ReadersView) → j ≢ id → get_elem? views j ≡ some u → Each (Knows links mods words h.sets.next) u.links → Each (Knows links mods (set words i n) next) u.links)
      → Readable links mods (set words i n) (set views id (unlinked l v))
  off_at i n next far no_dead heads own others =
      let w = unlinked l v in
      let t = h.sets.tells id v at in
      let named_stay : (x : ℕ) → sum_by (named x) w.links ≡ sum_by (named x) v.links = λ x. sum_map (take_off l) (named x) v.links in
      let deads_stay : (x : ℕ) → sum_by (deads x) w.links ≡ sum_by (deads x) v.links = λ x. sum_map (take_off l) (deads x) v.links ∙ sum_same (λ k. deads x (take_off l k)) (deads x) (λ k. ap (λ (z : ℕ). cond (k.link == x) z 0) (leaving_dead k.stage (k.link == l))) v.links in
      let here : (y : ℕ) → sum_by (λ (u : ReadersView). sum_by (linked y l) u.links) views ≡ sum_by (linked y l) v.links = λ y.
      only_here (λ (u : ReadersView). sum_by (linked y l) u.links) (λ (u : ReadersView). sum_by (named l) u.links) (λ u. sum_under (linked y l) (named l) (linked_named y l) u.links) views id v at (single links mods words views h id v at l) mine in
      record {
        counter = h.counter;
        head = h.head;
        list = h.list;
        claims = same_claims links mods words views h id v at w refl i n far;
        rights = same_rights links mods words views h id v at w (λ j. record { live = v.claims.live; branch = v.claims.branch; alone = mods_lose l v.walk j; shared = v.shared });
        sets = record {
          next = next;
          chain = λ y. without l (h.sets.chain y);
          beyond = λ y far. ap (without l) (h.sets.beyond y far);
          long = (let a = h.sets.long in let b = length-set words i n in omega (arith, a, b));
          heads = heads;
          stored = λ x lt. set_else words i (dead_at links mods x) n (λ q. no_dead x (sym q)) ∙ (h.sets.stored x lt ∙ ap some (let s = sum_set (λ (u : ReadersView). sum_by (deads x) u.links) views id v w at in let a = deads_stay x in omega (arith, s, a)));
          counted = λ y x. let s = sum_set (λ (u : ReadersView). sum_by (linked y x) u.links) views id v w at in ⊎_elim
              (λ (e : x ≡ l). subst (λ z. sum_by (λ (u : ReadersView). sum_by (linked y z) u.links) (set views id w) ≡ times z (without l (h.sets.chain y))) (sym e)
              (let s' = sum_set (λ (u : ReadersView). sum_by (linked y l) u.links) views id v w at in let a = off_none y in let b = here y in let g = without_gone l (h.sets.chain y) in omega (arith, s', a, b, g)))
              (λ (d : x ≢ l). let a = off_links y x d in let o = h.sets.counted y x in let g = without_else l x (h.sets.chain y) d in omega (arith, s, a, o, g))
              (cases_eq x l);
          owed = λ x. let s = sum_set (λ (u : ReadersView). sum_by (named x) u.links) views id v w at in let a = named_stay x in let r = sum_set (λ (u : ReadersView). handles.slot_times x u.claims.held) views id v w at in let o = h.sets.owed x in omega (arith, s, a, o, r);
          tells = all_set (λ _ u. Tells links mods (set words i n) next (λ y. without l (h.sets.chain y)) u) views id w
              record {
                mods_is = t.mods_is;
                known = own;
                placed = subst (λ z. Each (Placed z v.shared) (map (take_off l) v.links)) (sym (mods_lose l v.walk)) (each_map (Placed (mods_of v.walk) v.shared) (Placed (mods_of v.walk) v.shared) (take_off l) (λ k q e. q (leaving_in k.stage (k.link == l) e)) v.links t.placed);
                whole = λ y has x. let o = t.whole y (subst (Member y) (mods_lose l v.walk) has) x in ⊎_elim
                    (λ (e : x ≡ l). subst (λ z. sum_by (linked y z) (map (take_off l) v.links) ≡ times z (without l (h.sets.chain y))) (sym e) (off_none y ∙ sym (without_gone l (h.sets.chain y))))
                    (λ (d : x ≢ l). off_links y x d ∙ (o ∙ sym (without_else l x (h.sets.chain y) d)))
                    (cases_eq x l);
                seen = seen_lose l h.sets.chain v.walk t.seen;
                gone = λ z. ap (map (take_off l)) (t.gone z);
              }
              (λ j u d e. let o = h.sets.tells j u e in record {
                mods_is = o.mods_is;
                known = others j u d e o.known;
                placed = o.placed;
                whole = λ y has x. o.whole y has x ∙ sym (ap (times x) (without_none l (h.sets.chain y) (foreign j u d e y has)));
                seen = seen_else u.walk (λ y has. foreign j u d e y has) o.seen;
                gone = o.gone;
              });
        };
      }

-- a list is empty or has a last link
pub snoc : (a : List ℕ) → (a ≡ []) ⊎ ((z : List ℕ) × (p : ℕ) × (a ≡ z ++ p ∷ []))
snoc [] = inl refl
snoc (x ∷ a) = inr (⊎_elim (λ (e : a ≡ []). ([], x, ap (λ y. x ∷ y) e)) (λ (q : (z : List ℕ) × (p : ℕ) × (a ≡ z ++ p ∷ [])). (x ∷ q.0, q.1, ap (λ y. x ∷ y) q.2)) (snoc a))

pub led_last : (links mods h p : ℕ) (z : List ℕ) → led_from links mods h (z ++ p ∷ []) ≡ next_at links mods p
led_last links mods h p [] = refl
led_last links mods h p (x ∷ z) = led_last links mods (next_at links mods x) p z

-- the link behind p is cut off
cut : (next other : ℕ → ℕ) (p l : ℕ) (z b : List ℕ) (w : ℕ) → times p z ≡ 0 → times p b ≡ 0 → other p ≡ next l → ((x : ℕ) → x ≢ p → other x ≡ next x) → Follows next w (z ++ p ∷ l ∷ b) → Follows other w (z ++ p ∷ b)
cut next other p l [] b w oz ob at else f =
    let g : Follows next (next p) (l ∷ b) = f.1 in
    let k : Follows next (next l) b = g.1 in
    (f.0, subst (λ (y : ℕ). Follows other y b) (sym at) (follows_else next other p (next l) b ob else k))
cut next other p l (x ∷ z) b w oz ob at else f =
    let g : Follows next (next x) (z ++ p ∷ l ∷ b) = f.1 in
    (f.0, subst (λ (y : ℕ). Follows other y (z ++ p ∷ b)) (sym (else x (not_here p x z oz))) (cut next other p l z b (next x) (omega (arith, oz)) ob at else g))

-- what leads on from p
leads : (next : ℕ → ℕ) (p l : ℕ) (z b : List ℕ) (w : ℕ) → Follows next w (z ++ p ∷ l ∷ b) → next p ≡ suc l
leads next p l [] b w f = let g : Follows next (next p) (l ∷ b) = f.1 in g.0
leads next p l (x ∷ z) b w f = let g : Follows next (next x) (z ++ p ∷ l ∷ b) = f.1 in leads next p l z b (next x) g

-- the rest behind a link
rest : (next : ℕ → ℕ) (l : ℕ) (a b : List ℕ) (w : ℕ) → Follows next w (a ++ l ∷ b) → Follows next (next l) b
rest next l [] b w f = f.1
rest next l (x ∷ a) b w f = let g : Follows next (next x) (a ++ l ∷ b) = f.1 in rest next l a b (next x) g

off_known : (links mods : ℕ) (words : List ℕ) (next : ℕ → ℕ) (l : ℕ) (k : LinkView) → Knows links mods words next k → Knows links mods words next (take_off l k)
off_known links mods words next l k =
    restaged_known links mods words next leaving l k (each_stage (λ s. Staged links mods words next k.link s → Staged links mods words next k.link (leaving s)) (λ q. q) (λ n q. q) (λ q. tt) (λ q. q))

module _ (links mods : ℕ) (words : List ℕ) (views : List ReadersView) (h : Readable links mods words views) (id : ℕ) (v : ReadersView) (at : get_elem? views id ≡ some v) (m : ℕ) (small : m < mods) (has : Member m (mods_of v.walk)) (fine : Each (Fine links) v.links) where
  last_word : (l : ℕ) (b z : List ℕ) (p : ℕ) → h.sets.chain m ≡ z ++ p ∷ l ∷ b → get_elem? words (next_at links mods p) ≡ some (suc l)
  last_word l b z p is =
      let head = h.sets.heads m small in
      let f : Follows h.sets.next head.0 (z ++ p ∷ l ∷ b) = subst (Follows h.sets.next head.0) is head.2 in
      let t = h.sets.tells id v at in
      let cp = ap (times p) is ∙ times_append p z (p ∷ l ∷ b) in
      let mine_p : 0 < sum_by (named p) v.links = let w = t.whole m has p in let u = sum_under (linked m p) (named p) (linked_named m p) v.links in omega (arith, w, u, cp, one_if p p refl) in
      next_word links mods words h.sets.next p v.links t.known (let g = (all_whole links p v.links fine).1 in omega (arith, g, mine_p)) ∙ ap some (leads h.sets.next p l z b head.0 f)

  -- the word behind a part of a chain names the link that follows
  pub led_word : (a : List ℕ) (l : ℕ) (b : List ℕ) → h.sets.chain m ≡ a ++ l ∷ b → get_elem? words (led_from links mods (head_at links m) a) ≡ some (suc l)
  led_word a l b is =
      let head = h.sets.heads m small in ⊎_elim
      (λ (q : a ≡ []). subst (λ (z : List ℕ). get_elem? words (led_from links mods (head_at links m) z) ≡ some (suc l)) (sym q)
      (let f : Follows h.sets.next head.0 (l ∷ b) = subst (Follows h.sets.next head.0) (is ∙ ap (λ (z : List ℕ). z ++ l ∷ b) q) head.2 in head.1 ∙ ap some f.0))
      (λ (q : (z : List ℕ) × (p : ℕ) × (a ≡ z ++ p ∷ [])). subst (λ (k : ℕ). get_elem? words k ≡ some (suc l))
      (sym (ap (led_from links mods (head_at links m)) q.2 ∙ led_last links mods (head_at links m) q.1 q.0))
      (last_word l b q.0 q.1 (is ∙ (ap (λ (z : List ℕ). z ++ l ∷ b) q.2 ∙ append_assoc q.0 (q.1 ∷ []) (l ∷ b)))))
      (snoc a)

module _ (links mods : ℕ) (words : List ℕ) (views : List ReadersView) (h : Readable links mods words views) (id : ℕ) (v : ReadersView) (at : get_elem? views id ≡ some v) (l : ℕ) (live : 0 < sum_by (alive l) v.links) (m : ℕ) (small : m < mods) (has : Member m (mods_of v.walk)) (b : List ℕ) (fine : Each (Fine links) v.links) where
  few : (x : ℕ) → times x (h.sets.chain m) ≤ 1
  few x =
      let a = (h.sets.tells id v at).whole m has x in
      omega (arith, a, sum_under (linked m x) (named x) (linked_named m x) v.links, here_once links mods words views h id v at x)

  -- the first of the chain
  first_off : h.sets.chain m ≡ l ∷ b → Readable links mods (set words (head_at links m) (h.sets.next l)) (set views id (unlinked l v)) × (get_elem? words (head_at links m) ≡ some (suc l))
  first_off is =
      let i = head_at links m in
      let n = h.sets.next l in
      let head = h.sets.heads m small in
      let f : Follows h.sets.next head.0 (l ∷ b) = subst (Follows h.sets.next head.0) is head.2 in
      let g : Follows h.sets.next n b = f.1 in
      let c = ap (times l) is in
      let one = one_if l l refl in
      let lb : times l b ≡ 0 = omega (arith, few l, c, one) in
      let there : 0 < times l (h.sets.chain m) = omega (arith, c, one) in
      let set_it = is_there words i head.0 head.1 in
      let kept : (k : LinkView) → Knows links mods words h.sets.next k → Knows links mods (set words i n) h.sets.next k = λ k p. knows_set links mods words h.sets.next h.sets.next i n k (λ q. absurd (omega (arith, q, small))) (λ q. absurd (omega (arith, q, small))) refl p in (
        off_at links mods words views h id v at l live i n h.sets.next (omega arith) (λ x q. absurd (omega (arith, q, small)))
            (λ y lt. ⊎_elim
            (λ (e : y ≡ m). subst (λ z. (w : ℕ) × (get_elem? (set words i n) (head_at links z) ≡ some w) × Follows h.sets.next w (without l (h.sets.chain z))) (sym e)
            (n, set_here words i n set_it.0, subst (Follows h.sets.next n) (sym (ap (without l) is ∙ without_mid l [] b refl lb)) g))
            (λ (d : y ≢ m). let p = h.sets.heads y lt in (p.0, set_else words i (head_at links y) n (λ q. d (omega (arith, q))) ∙ p.1, subst (Follows h.sets.next p.0) (sym (without_none l (h.sets.chain y) (in_one links mods words views h id v at l live m y l d there))) p.2))
            (cases_eq y m))
            (each_map (Knows links mods words h.sets.next) (Knows links mods (set words i n) h.sets.next) (take_off l) (λ k p. off_known links mods (set words i n) h.sets.next l k (kept k p)) v.links (h.sets.tells id v at).known)
            (λ j u d e p. each_imp (Knows links mods words h.sets.next) (Knows links mods (set words i n) h.sets.next) kept u.links p),
        head.1 ∙ ap some f.0,
      )

  -- one behind another
  later_off : (z : List ℕ) (p : ℕ) → h.sets.chain m ≡ z ++ p ∷ l ∷ b → Readable links mods (set words (next_at links mods p) (h.sets.next l)) (set views id (unlinked l v)) × (get_elem? words (next_at links mods p) ≡ some (suc l))
  later_off z p is =
      let i = next_at links mods p in
      let n = h.sets.next l in
      let next : ℕ → ℕ = λ x. cond (x == p) n (h.sets.next x) in
      let next_p : next p ≡ n = ap {B = ℕ} (λ t. cond t n (h.sets.next p)) (eq-eqb p p refl) in
      let next_x : (x : ℕ) → x ≢ p → next x ≡ h.sets.next x = λ x q. ap {B = ℕ} (λ t. cond t n (h.sets.next x)) (ne_eqb x p q) in
      let head = h.sets.heads m small in
      let f : Follows h.sets.next head.0 (z ++ p ∷ l ∷ b) = subst (Follows h.sets.next head.0) is head.2 in
      let t = h.sets.tells id v at in
      let ol = few l in
      let op = few p in
      let cl = ap (times l) is ∙ times_append l z (p ∷ l ∷ b) in
      let cp = ap (times p) is ∙ times_append p z (p ∷ l ∷ b) in
      let one_l = one_if l l refl in
      let one_p = one_if p p refl in
      let apart : l ≢ p = λ e. let q = one_if p l (sym e) in absurd (omega (arith, ol, cl, one_l, q)) in
      let zl : times l z ≡ 0 = omega (arith, ol, cl, one_l) in
      let bl : times l b ≡ 0 = omega (arith, ol, cl, one_l) in
      let zp : times p z ≡ 0 = omega (arith, op, cp, one_p) in
      let bp : times p b ≡ 0 = omega (arith, op, cp, one_p) in
      let pl : times l (z ++ p ∷ []) ≡ 0 = let q = times_append l z (p ∷ []) in let r = none_unless p l (λ e. apart (sym e)) in omega (arith, q, r, zl) in
      let there_l : 0 < times l (h.sets.chain m) = omega (arith, cl, one_l) in
      let there_p : 0 < times p (h.sets.chain m) = omega (arith, cp, one_p) in
      let mine_p : 0 < sum_by (named p) v.links = let w = t.whole m has p in let u = sum_under (linked m p) (named p) (linked_named m p) v.links in omega (arith, w, u, there_p) in
      let here = set_here words i n (omega (arith, h.sets.long, inside links mods words views h id v at p mine_p)) in
      let kept : (k : LinkView) → k.link ≢ p → Knows links mods words h.sets.next k → Knows links mods (set words i n) next k = λ k d q. knows_set links mods words h.sets.next next i n k (λ e. d (omega (arith, e))) (λ e. absurd (omega (arith, e))) (next_x k.link d) q in
      let own : (k : LinkView) → Fine links k → Knows links mods words h.sets.next k → Knows links mods (set words i n) next k = λ k g q. ⊎_elim
      (λ (e : k.link ≡ p). (
        staged_now links mods (set words i n) next k.link k.stage g.settled (ap (λ x. get_elem? (set words i n) (next_at links mods x)) e ∙ (here ∙ ap some (sym (ap next e ∙ next_p)))),
        λ x has_x. set_else words i (node_at links mods k.link) n (λ r. absurd (omega (arith, r))) ∙ q.1 x has_x,
      ))
      (λ (d : k.link ≢ p). kept k d q)
      (cases_eq k.link p) in
      let whole : without l (h.sets.chain m) ≡ z ++ p ∷ b = ap (without l) (is ∙ sym (append_assoc z (p ∷ []) (l ∷ b))) ∙ (without_mid l (z ++ p ∷ []) b pl bl ∙ append_assoc z (p ∷ []) b) in (
        off_at links mods words views h id v at l live i n next (omega arith) (λ x q. absurd (omega (arith, q)))
            (λ y lt. ⊎_elim
            (λ (e : y ≡ m). subst (λ x. (w : ℕ) × (get_elem? (set words i n) (head_at links x) ≡ some w) × Follows next w (without l (h.sets.chain x))) (sym e)
            (head.0, set_else words i (head_at links m) n (λ q. absurd (omega (arith, q, small))) ∙ head.1, subst (Follows next head.0) (sym whole) (cut h.sets.next next p l z b head.0 zp bp next_p next_x f)))
            (λ (d : y ≢ m). let g = h.sets.heads y lt in (
              g.0,
              set_else words i (head_at links y) n (λ q. absurd (omega (arith, q, lt))) ∙ g.1,
              subst (Follows next g.0) (sym (without_none l (h.sets.chain y) (in_one links mods words views h id v at l live m y l d there_l)))
                  (follows_else h.sets.next next p g.0 (h.sets.chain y) (in_one links mods words views h id v at l live m y p d there_p) next_x g.2),
            ))
            (cases_eq y m))
            (each_two (Fine links) (Knows links mods words h.sets.next) (Knows links mods (set words i n) next) (take_off l) (λ k g q. off_known links mods (set words i n) next l k (own k g q)) v.links fine t.known)
            (λ j u d e q. each_named (Knows links mods words h.sets.next) (Knows links mods (set words i n) next) p (λ k c r. kept k c r) u.links (elsewhere links mods words views h id v at p mine_p j u d e) q),
        next_word links mods words h.sets.next p v.links t.known (let g = (all_whole links p v.links fine).1 in omega (arith, g, mine_p)) ∙ ap some (leads h.sets.next p l z b head.0 f),
      )
    where
      staged_now : (links mods : ℕ) (ws : List ℕ) (next : ℕ → ℕ) (x : ℕ) (s : Stage) → is_settled s ≡ 1 → get_elem? ws (next_at links mods x) ≡ some (next x) → Staged links mods ws next x s
      staged_now links mods ws next x s e g =
          each_stage (λ s. is_settled s ≡ 1 → Staged links mods ws next x s) (λ e. absurd (omega (arith, e))) (λ k e. absurd (omega (arith, e))) (λ e. g) (λ e. g) s e

      each_two : {A B : Type 0} (P Q : A → Type 0) (R : B → Type 0) (f : A → B) → ((x : A) → P x → Q x → R (f x)) → (xs : List A) → Each P xs → Each Q xs → Each R (map f xs)
      each_two P Q R f g [] p q = tt
      each_two P Q R f g (x ∷ xs) p q = (g x p.0 q.0, each_two P Q R f g xs p.1 q.1)

  -- one anywhere
  pub unlinks_at : (a : List ℕ) (n : ℕ) → h.sets.chain m ≡ a ++ l ∷ b → n ≡ front b
      → Readable links mods (set words (led_from links mods (head_at links m) a) n) (set views id (unlinked l v)) × (get_elem? words (led_from links mods (head_at links m) a) ≡ some (suc l))
  unlinks_at a n is e =
      let head = h.sets.heads m small in
      let follows : Follows h.sets.next (h.sets.next l) b = rest h.sets.next l a b head.0 (subst (Follows h.sets.next head.0) is head.2) in
      let n_is : h.sets.next l ≡ n = front_is h.sets.next (h.sets.next l) b follows ∙ sym e in
      subst (λ k. Readable links mods (set words (led_from links mods (head_at links m) a) k) (set views id (unlinked l v)) × (get_elem? words (led_from links mods (head_at links m) a) ≡ some (suc l))) n_is
      (⊎_elim
      (λ (q : a ≡ []). subst (λ (z : List ℕ). Readable links mods (set words (led_from links mods (head_at links m) z) (h.sets.next l)) (set views id (unlinked l v)) × (get_elem? words (led_from links mods (head_at links m) z) ≡ some (suc l))) (sym q) (first_off (is ∙ ap (λ (z : List ℕ). z ++ l ∷ b) q)))
      (λ (q : (z : List ℕ) × (p : ℕ) × (a ≡ z ++ p ∷ [])). subst (λ (k : ℕ). Readable links mods (set words k (h.sets.next l)) (set views id (unlinked l v)) × (get_elem? words k ≡ some (suc l)))
      (sym (ap (led_from links mods (head_at links m)) q.2 ∙ led_last links mods (head_at links m) q.1 q.0))
      (later_off q.0 q.1 (is ∙ (ap (λ (z : List ℕ). z ++ l ∷ b) q.2 ∙ append_assoc q.0 (q.1 ∷ []) (l ∷ b)))))
      (snoc a))
