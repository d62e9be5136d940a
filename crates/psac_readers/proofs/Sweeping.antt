-- A walk that takes links off.
use Rattle.psac_readers.proofs.Terms.{◌≡◌, ◌≢◌, ◌⊎◌, ℕ, suc, ◌+◌, ◌-◌, ◌<◌, ◌≤◌, List, [], ◌∷◌, ◌++◌, map, length, Bool, true, false, true≢false, cond, refl, sym, ap, ◌∙◌, subst, inl, ⊎_elim, arith, Some, append_assoc, none_some, sum_by, filter, ◌==◌, eq-eqb, eqb-true, ne_eqb, cases_eq, cases_lt, sum_by-cons, Handle, ClaimView, Member, slot_times, removed, member_times, removed_gone, removed_else, Stage, LinkView, WalkView, ReadersView, head_at, next_at, in_set, is_live, named, linked, alive, deads, times, Each, mods_of, chain_of, learn, learned, front, behind, without, known_without, lose, other_link, swept_one, swept, IsSet, is_settled, Fine, Holds, from_word, or_empty, Walks, Placing, TakenOff, Going, remaining, AllGiven}
use Rattle.psac_slots.specs.Claiming as claiming
use Rattle.psac_readers.proofs.Links.{each_filter, each_stage, mods_learn}
use Rattle.psac_readers.proofs.Walking.{chain_learn, chain_named}
use Rattle.psac_readers.proofs.Taking.{Only, only_named, only_linked, only_deads, others_sum, gone_sum}
use Rattle.psac_readers.proofs.Unlinking.{one_if, none_unless, times_append, without_mid, mods_lose, led_last}

only_alive : (x : ℕ) → Only x (alive x)
only_alive x k n = ap {B = ℕ} (λ b. cond b (is_live k.stage) 0) (ne_eqb k.link x n)

pub swept_snoc : (ls : List ℕ) (l : ℕ) (v : ReadersView) → swept (ls ++ l ∷ []) v ≡ swept_one l (swept ls v)
swept_snoc [] l v = refl
swept_snoc (x ∷ ls) l v = swept_snoc ls l (swept_one x v)

-- what is of a link that did not go stays
pub swept_sum : (x : ℕ) (g : LinkView → ℕ) → Only x g → (ls : List ℕ) (v : ReadersView) → times x ls ≡ 0 → sum_by g (swept ls v).links ≡ sum_by g v.links
swept_sum x g o [] v out = refl
swept_sum x g o (l ∷ ls) v out = swept_sum x g o ls (swept_one l v) (omega (arith, out)) ∙ others_sum l x g o (λ e. let t = one_if l x (sym e) in omega (arith, out, t)) v.links

chain_lose : (m l : ℕ) (ls : List ℕ) (es : List WalkView) → chain_of m es ≡ Some ls → chain_of m (map (lose l) es) ≡ Some (without l ls)
chain_lose m l ls [] e = absurd (none_some ls e)
chain_lose m l ls (w ∷ es) e = by (λ q. chain_lose m l ls es q) (w.of == m) e
  where
    by : (chain_of m es ≡ Some ls → chain_of m (map (lose l) es) ≡ Some (without l ls)) → (b : Bool) → cond b w.chain (chain_of m es) ≡ Some ls → cond b (known_without l w.chain) (chain_of m (map (lose l) es)) ≡ Some (without l ls)
    by more true q = ap (known_without l) q
    by more false q = more q

pub behind_mid : (l : ℕ) (a b : List ℕ) → times l a ≡ 0 → behind l (a ++ l ∷ b) ≡ b
behind_mid l [] b out = ap {B = List ℕ} (λ t. cond t b (behind l b)) (eq-eqb l l refl)
behind_mid l (x ∷ a) b out = ap {B = List ℕ} (λ t. cond t (a ++ l ∷ b) (behind l (a ++ l ∷ b))) (ne_eqb x l (λ e. let t = one_if x l e in omega (arith, out, t))) ∙ behind_mid l a b (omega (arith, out))

-- a word that isn't 0 names the first link
pub first_of : (word : ℕ) (rest : List ℕ) → word ≡ front rest → 0 < word → (b : List ℕ) × (rest ≡ (word - 1) ∷ b)
first_of word [] e p = absurd (omega (arith, e, p))
first_of word (x ∷ b) e p = (b, let q : x ≡ word - 1 = omega (arith, e) in λ i. q i ∷ b)

pub none_left : (word : ℕ) (rest : List ℕ) → word ≡ front rest → word ≡ 0 → rest ≡ []
none_left word [] e z = refl
none_left word (x ∷ b) e z = absurd (omega (arith, e, z))

-- the part behind some links, none of which is named by its word
part_from : (a rest : List ℕ) → ((x : ℕ) → times x (a ++ rest) ≤ 1) → from_word (front rest) (a ++ rest) ≡ rest
part_from [] [] d = refl
part_from [] (l ∷ b) d = ap {B = List ℕ} (λ t. cond t (l ∷ b) (from_word (suc l) b)) (eq-eqb (suc l) (suc l) refl)
part_from (x ∷ a) [] d = ap {B = List ℕ} (λ t. cond t (x ∷ (a ++ [])) (from_word 0 (a ++ []))) (ne_eqb (suc x) 0 (λ e. omega (arith, e))) ∙ part_from a [] (λ y. let o = d y in omega (arith, o))
part_from (x ∷ a) (l ∷ b) d = ap {B = List ℕ} (λ t. cond t (x ∷ (a ++ l ∷ b)) (from_word (suc l) (a ++ l ∷ b)))
    (ne_eqb (suc x) (suc l) (λ e. let s : x ≡ l = omega (arith, e) in let o = d l in let t = one_if x l s in let u = times_append l a (l ∷ b) in let w = one_if l l refl in omega (arith, o, t, u, w)))
    ∙ part_from a (l ∷ b) (λ y. let o = d y in omega (arith, o))

pub left_over : (all : Bool) (v w : ReadersView) (m before word : ℕ) → (g : Going all v m w before word) → remaining m w word ≡ length g.rest
left_over all v w m before word g = ap length ((λ i. from_word (g.word_is i) (or_empty (g.knows i))) ∙ part_from g.kept g.rest (λ x. (g.now x).1))

module _ (all : Bool) (v w : ReadersView) (m before word : ℕ) (g : Going all v m w before word) (behind_it : List ℕ) (rest_is : g.rest ≡ (word - 1) ∷ behind_it) where
  chain_is : chain_of m w.walk ≡ Some (g.kept ++ (word - 1) ∷ behind_it)
  chain_is = g.knows ∙ ap (λ r. Some (g.kept ++ r)) rest_is

  set_is : IsSet w m (g.kept ++ (word - 1) ∷ behind_it)
  set_is = subst (λ r. IsSet w m (g.kept ++ r)) rest_is g.now

  count_one : times (word - 1) (g.kept ++ (word - 1) ∷ behind_it) ≡ times (word - 1) g.kept + suc (times (word - 1) behind_it)
  count_one = let t = times_append (word - 1) g.kept ((word - 1) ∷ behind_it) in let o = one_if (word - 1) (word - 1) refl in omega (arith, t, o)

  pub on_it : 0 < times (word - 1) (g.kept ++ (word - 1) ∷ behind_it)
  on_it = let c = count_one in omega (arith, c)

  pub walks_it : Walks w m (g.kept ++ (word - 1) ∷ behind_it)
  walks_it = (g.small, chain_is, set_is)

  pub names_it : 0 < sum_by (named (word - 1)) w.links
  names_it = chain_named w m (word - 1) (g.kept ++ (word - 1) ∷ behind_it) set_is on_it

  not_kept : times (word - 1) g.kept ≡ 0
  not_kept = let c = count_one in let o = (set_is (word - 1)).1 in omega (arith, c, o)

  not_behind : times (word - 1) behind_it ≡ 0
  not_behind = let c = count_one in let o = (set_is (word - 1)).1 in omega (arith, c, o)

  not_gone : times (word - 1) g.gone ≡ 0
  not_gone =
      omega (arith, g.parts (word - 1), (g.set (word - 1)).1, ap (times (word - 1)) rest_is, one_if (word - 1) (word - 1) refl)

  pub leads_on : (next : ℕ) → next ≡ front (behind (word - 1) (g.kept ++ (word - 1) ∷ behind_it)) → next ≡ front behind_it
  leads_on next e = e ∙ ap front (behind_mid (word - 1) g.kept behind_it not_kept)

  pub placed_it : (next : ℕ) → next ≡ front behind_it → Placing w before (word - 1) next
  placed_it next e = (m, g.kept, behind_it, g.small, g.has, chain_is, set_is, e, g.place)

  -- the same link in the view at the start
  same_now : (h : LinkView → ℕ) → Only (word - 1) h → sum_by h w.links ≡ sum_by h v.links
  same_now h o = ap (λ (u : ReadersView). sum_by h u.links) g.becomes ∙ swept_sum (word - 1) h o g.gone (learned m g.chain v) not_gone

  -- the link stays
  pub stayed : (next place : ℕ) → next ≡ front behind_it → place ≡ next_at w.claims.count w.mods (word - 1) → all ≡ false → 0 < sum_by (alive (word - 1)) w.links → Going all v m w place next
  stayed next place e at some up = record {
    chain = g.chain;
    gone = g.gone;
    kept = g.kept ++ (word - 1) ∷ [];
    rest = behind_it;
    set = g.set;
    parts = λ x. let p = g.parts x in let t = times_append x g.kept ((word - 1) ∷ []) in let r = ap (times x) rest_is in omega (arith, p, t, r);
    becomes = g.becomes;
    knows = chain_is ∙ ap Some (sym (append_assoc g.kept ((word - 1) ∷ []) behind_it));
    now = subst (IsSet w m) (sym (append_assoc g.kept ((word - 1) ∷ []) behind_it)) set_is;
    place = at ∙ sym (led_last w.claims.count w.mods (head_at w.claims.count m) (word - 1) g.kept);
    word_is = e;
    small = g.small;
    has = g.has;
    goes = g.goes;
    stays = λ x p. ⊎_elim
        (λ (is : x ≡ word - 1). subst (λ y. 0 < sum_by (alive y) v.links) (sym is) (subst (λ n. 0 < n) (same_now (alive (word - 1)) (only_alive (word - 1))) up))
        (λ (n : x ≢ word - 1). g.stays x (let t = times_append x g.kept ((word - 1) ∷ []) in let o = none_unless (word - 1) x (λ q. n (sym q)) in omega (arith, p, t, o)))
        (cases_eq x (word - 1));
    none = λ t. absurd (true≢false (sym t ∙ some));
  }

  -- the link goes
  pub went : (next : ℕ) → next ≡ front behind_it → ((all ≡ true) ⊎ (0 < sum_by (deads (word - 1)) w.links)) → Going all v m (swept_one (word - 1) w) before next
  went next e why = record {
    chain = g.chain;
    gone = g.gone ++ (word - 1) ∷ [];
    kept = g.kept;
    rest = behind_it;
    set = g.set;
    parts = λ x. let p = g.parts x in let t = times_append x g.gone ((word - 1) ∷ []) in let r = ap (times x) rest_is in omega (arith, p, t, r);
    becomes = ap (swept_one (word - 1)) g.becomes ∙ sym (swept_snoc g.gone (word - 1) (learned m g.chain v));
    knows = chain_lose m (word - 1) (g.kept ++ (word - 1) ∷ behind_it) w.walk chain_is ∙ ap Some (without_mid (word - 1) g.kept behind_it not_kept not_behind);
    now = λ x. ⊎_elim
        (λ (is : x ≡ word - 1). subst (λ y. (times y (g.kept ++ behind_it) ≡ sum_by (linked m y) (filter (other_link (word - 1)) w.links)) × (times y (g.kept ++ behind_it) ≤ 1)) (sym is)
        (let t = times_append (word - 1) g.kept behind_it in let a = not_kept in let b = not_behind in let s = gone_sum (word - 1) (linked m (word - 1)) (only_linked m (word - 1)) w.links in (omega (arith, t, a, b, s), omega (arith, t, a, b))))
        (λ (n : x ≢ word - 1). let t = times_append x g.kept behind_it in let u = times_append x g.kept ((word - 1) ∷ behind_it) in let o = none_unless (word - 1) x (λ q. n (sym q)) in let s = set_is x in let s0 = s.0 in let s1 = s.1 in
        let f = others_sum (word - 1) x (linked m x) (only_linked m x) n w.links in (omega (arith, t, u, o, s0, f), omega (arith, t, u, o, s1)))
        (cases_eq x (word - 1));
    place = g.place;
    word_is = e;
    small = g.small;
    has = subst (Member m) (sym (mods_lose (word - 1) w.walk)) g.has;
    goes = λ some x p. ⊎_elim
        (λ (is : x ≡ word - 1). ⊎_elim (λ (t : all ≡ true). absurd (true≢false (sym t ∙ some)))
        (λ (d : 0 < sum_by (deads (word - 1)) w.links). subst (λ y. 0 < sum_by (deads y) v.links) (sym is) (subst (λ n. 0 < n) (same_now (deads (word - 1)) (only_deads (word - 1))) d)) why)
        (λ (n : x ≢ word - 1). g.goes some x (let t = times_append x g.gone ((word - 1) ∷ []) in let o = none_unless (word - 1) x (λ q. n (sym q)) in omega (arith, p, t, o)))
        (cases_eq x (word - 1));
    stays = g.stays;
    none = g.none;
  }

  pub stayed_rest : (next place : ℕ) (e : next ≡ front behind_it) (at : place ≡ next_at w.claims.count w.mods (word - 1)) (some : all ≡ false) (up : 0 < sum_by (alive (word - 1)) w.links) → (stayed next place e at some up).rest ≡ behind_it
  unfolding stayed
  stayed_rest next place e at some up = refl

  pub went_rest : (next : ℕ) (e : next ≡ front behind_it) (why : (all ≡ true) ⊎ (0 < sum_by (deads (word - 1)) w.links)) → (went next e why).rest ≡ behind_it
  unfolding went
  went_rest next e why = refl

  pub shorter : length g.rest ≡ suc (length behind_it)
  shorter = ap length rest_is

-- how it begins
pub sets_out : (all : Bool) (v : ReadersView) (m before word : ℕ) (ls : List ℕ) → m < v.mods → Member m (mods_of v.walk) → IsSet v m ls → word ≡ front ls → before ≡ head_at v.claims.count m → Going all v m (learned m ls v) before word
sets_out all v m before word ls small has set is at = record {
  chain = ls;
  gone = [];
  kept = [];
  rest = ls;
  set = set;
  parts = λ x. omega arith;
  becomes = refl;
  knows = chain_learn m ls v.walk has;
  now = set;
  place = at;
  word_is = is;
  small = small;
  has = subst (Member m) (sym (mods_learn m ls v.walk)) has;
  goes = λ _ x p. absurd (omega (arith, p));
  stays = λ x p. absurd (omega (arith, p));
  none = λ _. refl;
}

swept_append : (a b : List ℕ) (v : ReadersView) → swept (a ++ b) v ≡ swept b (swept a v)
swept_append [] b v = refl
swept_append (x ∷ a) b v = swept_append a b (swept_one x v)

swept_claims : (ls : List ℕ) (u v : ReadersView) → u.claims ≡ v.claims → (swept ls u).claims ≡ (swept ls v).claims
swept_claims [] u v e = e
swept_claims (l ∷ ls) u v e = swept_claims ls (swept_one l u) (swept_one l v) (ap (claiming.returned (record { slot = l; generation = 1 })) e)

swept_links : (ls : List ℕ) (u v : ReadersView) → u.links ≡ v.links → (swept ls u).links ≡ (swept ls v).links
swept_links [] u v e = e
swept_links (l ∷ ls) u v e = swept_links ls (swept_one l u) (swept_one l v) (ap (filter (other_link l)) e)

pub swept_rest : (ls : List ℕ) (v : ReadersView) → ((swept ls v).mods ≡ v.mods) × ((swept ls v).shared ≡ v.shared) × (mods_of (swept ls v).walk ≡ mods_of v.walk)
swept_rest [] v = (refl, refl, refl)
swept_rest (l ∷ ls) v = let r = swept_rest ls (swept_one l v) in (r.0, r.1, r.2 ∙ mods_lose l v.walk)

swept_zero : (x : ℕ) (g : LinkView → ℕ) → Only x g → (ls : List ℕ) (v : ReadersView) → sum_by g v.links ≡ 0 → sum_by g (swept ls v).links ≡ 0
swept_zero x g o [] v z = z
swept_zero x g o (l ∷ ls) v z = swept_zero x g o ls (swept_one l v) (⊎_elim
    (λ (e : x ≡ l). gone_sum l g (λ k n. o k (λ q. n (q ∙ e))) v.links)
    (λ (n : x ≢ l). others_sum l x g o n v.links ∙ z)
    (cases_eq x l))

-- nothing is left of a link that went
swept_gone : (x : ℕ) (g : LinkView → ℕ) → Only x g → (ls : List ℕ) (v : ReadersView) → 0 < times x ls → sum_by g (swept ls v).links ≡ 0
swept_gone x g o [] v p = absurd (omega (arith, p))
swept_gone x g o (l ∷ ls) v p = ⊎_elim
    (λ (e : x ≡ l). swept_zero x g o ls (swept_one l v) (gone_sum l g (λ k n. o k (λ q. n (q ∙ e))) v.links))
    (λ (n : x ≢ l). swept_gone x g o ls (swept_one l v) (let t = none_unless l x (λ q. n (sym q)) in omega (arith, p, t)))
    (cases_eq x l)

swept_chain : (m : ℕ) (ls : List ℕ) (v : ReadersView) → chain_of m v.walk ≡ Some [] → chain_of m (swept ls v).walk ≡ Some []
swept_chain m [] v e = e
swept_chain m (l ∷ ls) v e = swept_chain m ls (swept_one l v) (chain_lose m l [] v.walk e)

learned_else : (m n : ℕ) (ls : List ℕ) (es : List WalkView) → m ≢ n → chain_of m (map (learn n ls) es) ≡ chain_of m es
learned_else m n ls [] d = refl
learned_else m n ls (e ∷ es) d = by (learned_else m n ls es d) (e.of == m) (e.of == n) refl refl
  where
    by : chain_of m (map (learn n ls) es) ≡ chain_of m es → (a b : Bool) → (e.of == m) ≡ a → (e.of == n) ≡ b → cond a (cond b (Some ls) e.chain) (chain_of m (map (learn n ls) es)) ≡ cond a e.chain (chain_of m es)
    by r false b p q = r
    by r true false p q = refl
    by r true true p q = absurd (d (sym (eqb-true e.of m p) ∙ eqb-true e.of n q))

-- one set more is empty
pub one_given : (n : ℕ) (v u w : ReadersView) → AllGiven n v u → TakenOff true u n w → AllGiven (suc n) v w
one_given n v u w g t =
    let r = swept_rest t.gone (learned n t.chain u) in
    let zero_in : (m x : ℕ) → sum_by (linked m x) u.links ≡ 0 → sum_by (linked m x) w.links ≡ 0 = λ m x z. ap (λ (y : ReadersView). sum_by (linked m x) y.links) t.becomes ∙ swept_zero x (linked m x) (only_linked m x) t.gone (learned n t.chain u) z in
    record {
      gone = g.gone ++ t.gone;
      claims = ap (λ (y : ReadersView). y.claims) t.becomes ∙ (swept_claims t.gone (learned n t.chain u) (swept g.gone v) g.claims ∙ ap (λ (y : ReadersView). y.claims) (sym (swept_append g.gone t.gone v)));
      links = ap (λ (y : ReadersView). y.links) t.becomes ∙ (swept_links t.gone (learned n t.chain u) (swept g.gone v) g.links ∙ ap (λ (y : ReadersView). y.links) (sym (swept_append g.gone t.gone v)));
      mods = ap (λ (y : ReadersView). y.mods) t.becomes ∙ (r.0 ∙ g.mods);
      shared = ap (λ (y : ReadersView). y.shared) t.becomes ∙ (r.1 ∙ g.shared);
      sets = ap (λ (y : ReadersView). mods_of y.walk) t.becomes ∙ (r.2 ∙ (mods_learn n t.chain u.walk ∙ g.sets));
      empty = λ m l. ⊎_elim
          (λ (e : m ≡ n). subst (λ k. (chain_of k w.walk ≡ Some []) × ((x : ℕ) → sum_by (linked k x) w.links ≡ 0)) (sym e) (
            t.knows ∙ ap Some (t.none refl),
            λ x. ⊎_elim
                (λ (p : 0 < times x t.gone). ap (λ (y : ReadersView). sum_by (linked n x) y.links) t.becomes ∙ swept_gone x (linked n x) (only_linked n x) t.gone (learned n t.chain u) p)
                (λ (p : times x t.gone ≤ 0). zero_in n x (let a = t.parts x in let b = (t.set x).0 in let k = ap (times x) (t.none refl) in omega (arith, p, a, b, k)))
                (cases_lt 0 (times x t.gone)),
          ))
          (λ (d : m ≢ n). let o = g.empty m (omega (arith, l, d)) in (
            ap (λ (y : ReadersView). chain_of m y.walk) t.becomes ∙ swept_chain m t.gone (learned n t.chain u) (learned_else m n t.chain u.walk d ∙ o.0),
            λ x. zero_in m x (o.1 x),
          ))
          (cases_eq m n);
    }

swept_each : (P : LinkView → Type 0) (ls : List ℕ) (v : ReadersView) → Each P v.links → Each P (swept ls v).links
swept_each P [] v h = h
swept_each P (l ∷ ls) v h = swept_each P ls (swept_one l v) (each_filter P (other_link l) v.links h)

-- as many links as slots are held, also when some went
swept_held : (ls : List ℕ) (v : ReadersView) → ((l : ℕ) → sum_by (named l) v.links ≡ slot_times l v.claims.held) → (l : ℕ) → sum_by (named l) (swept ls v).links ≡ slot_times l (swept ls v).claims.held
swept_held [] v h l = h l
swept_held (x ∷ ls) v h l = swept_held ls (swept_one x v)
    (λ y. ⊎_elim
    (λ (e : y ≡ x). subst (λ z. sum_by (named z) (filter (other_link x) v.links) ≡ slot_times z (removed x v.claims.held)) (sym e) (gone_sum x (named x) (only_named x) v.links ∙ sym (removed_gone x v.claims.held)))
    (λ (n : y ≢ x). others_sum x y (named y) (only_named y) n v.links ∙ (h y ∙ sym (removed_else y x v.claims.held n)))
    (cases_eq y x))
    l

settled_in : (s : Stage) → is_settled s ≡ 1 → in_set s ≡ 1
settled_in = each_stage (λ s. is_settled s ≡ 1 → in_set s ≡ 1) (λ e. e) (λ n e. refl) (λ e. refl) (λ e. refl)

-- links that are in no set are none
none_linked : (links : ℕ) (ks : List LinkView) → Each (Fine links) ks → ((m l : ℕ) → sum_by (linked m l) ks ≡ 0) → ks ≡ []
none_linked links [] h z = refl
none_linked links (k ∷ ks) h z =
    let b = z k.of k.link in
    let c : linked k.of k.link k ≡ in_set k.stage = ap {B = ℕ} (λ b. cond b (cond (k.of == k.of) (in_set k.stage) 0) 0) (eq-eqb k.link k.link refl) ∙ ap {B = ℕ} (λ b. cond b (in_set k.stage) 0) (eq-eqb k.of k.of refl) in
    absurd (omega (arith, sum_by-cons (linked k.of k.link) k ks, b, c, settled_in k.stage h.0.settled))

none_held : (hs : List Handle) → ((s : ℕ) → slot_times s hs ≡ 0) → hs ≡ []
none_held [] z = refl
none_held (h ∷ hs) z = let a = member_times h (h ∷ hs) (inl refl) in let b = z h.slot in absurd (omega (arith, a, b))

-- where all sets are empty, nothing is left
pub all_gone : (links n : ℕ) (v w : ReadersView) → Each (Fine links) v.links → Holds v → v.mods ≤ n → AllGiven n v w → (w.claims.held ≡ []) × (w.links ≡ [])
all_gone links n v w fine holds all g =
    let linked_none : (m l : ℕ) → sum_by (linked m l) w.links ≡ 0 = λ m l. ⊎_elim
    (λ (s : m < n). (g.empty m s).1 l)
    (λ (far : n ≤ m). ap (sum_by (linked m l)) g.links ∙ swept_zero l (linked m l) (only_linked m l) g.gone v (holds.inside m l (omega (arith, far, all))))
    (cases_lt m n) in
    let none = none_linked links w.links (subst (Each (Fine links)) (sym g.links) (swept_each (Fine links) g.gone v fine)) linked_none in
    (none_held w.claims.held (λ s. ap (λ (c : ClaimView). slot_times s c.held) g.claims ∙ (sym (swept_held g.gone v holds.held s) ∙ ap (sum_by (named s)) (sym g.links ∙ none))), none)
