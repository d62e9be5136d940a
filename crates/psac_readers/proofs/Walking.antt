-- A walk along a chain.
use Rattle.psac_readers.proofs.Terms.{◌≡◌, ◌≢◌, ◌⊎◌, ℕ, suc, ◌+◌, ◌-◌, ◌<◌, ◌≤◌, List, [], ◌∷◌, map, length, Bool, true, false, true≢false, cond, ltb, refl, sym, ap, ◌∙◌, subst, inl, inr, ⊎_elim, arith, Option, Some, None, none_some, same_some, sum_by, ◌==◌, IfSome, sum_by-cons, eq-eqb, eqb-true, ne_eqb, lt-ltb, le-ltb, ltb-true, Stage, LinkView, ReadersView, named, linked, alive, deads, in_set, is_live, is_dead, times, Each, mods_of, WalkView, Member, Fine, is_settled, settled, front, behind, next_live, IsSet, chain_of, set_of, node_in, learn, Link, from_word, has_word, Walks, OnWalk, found}
use Rattle.psac_readers.proofs.Links.{each_stage, linked_named, sum_under}

-- a word that names a link of the chain
pub at_word : (w l : ℕ) → w ≡ suc l → (ls : List ℕ) → has_word w ls → (0 < times l ls) × (from_word w ls ≡ l ∷ behind l ls)
at_word w l is [] h = absurd (omega (arith, h, is))
at_word w l is (x ∷ ls) h = by (λ k. at_word w l is ls k) (suc x == w) refl h
  where
    by : (has_word w ls → (0 < times l ls) × (from_word w ls ≡ l ∷ behind l ls)) → (b : Bool) → (suc x == w) ≡ b → w ≡ front (cond b (x ∷ ls) (from_word w ls)) → (0 < times l (x ∷ ls)) × (cond b (x ∷ ls) (from_word w ls) ≡ l ∷ behind l (x ∷ ls))
    by more true e h =
        let same : x ≡ l = let q = eqb-true (suc x) w e in omega (arith, q, is) in
        let t : (x == l) ≡ true = eq-eqb x l same in
        ((let o = ap {B = ℕ} (λ b. cond b 1 0) t in omega (arith, o)), (λ j. same j ∷ ap (λ b. cond b ls (behind l ls)) (sym t) j))
    by more false e h =
        let r = more h in
        let n : x ≢ l = λ q. true≢false (sym (eq-eqb (suc x) w (omega (arith, q, is))) ∙ e) in
        let t : (x == l) ≡ false = ne_eqb x l n in
        ((let a = r.0 in omega (arith, a)), r.1 ∙ (λ j. l ∷ ap (λ b. cond b ls (behind l ls)) (sym t) j))

front_list : (x : ℕ) (ys : List ℕ) → times x ys ≡ 0 → suc x ≢ front ys
front_list x [] t e = absurd (omega (arith, e))
front_list x (y ∷ ys) t e = let o = ap {B = ℕ} (λ b. cond b 1 0) (eq-eqb y x (omega (arith, e))) in absurd (omega (arith, t, o))

front_apart : (x l : ℕ) (ys : List ℕ) → times x ys ≡ 0 → suc x ≢ front (behind l ys)
front_apart x l [] t e = absurd (omega (arith, e))
front_apart x l (y ∷ ys) t e = by (λ p q. front_apart x l ys p q) (y == l) e
  where
    by : (times x ys ≡ 0 → suc x ≢ front (behind l ys)) → (b : Bool) → suc x ≡ front (cond b ys (behind l ys)) → ⊥
    by more true e = front_list x ys (omega (arith, t)) e
    by more false e = more (omega (arith, t)) e

whole_list : (ys : List ℕ) → from_word (front ys) ys ≡ ys
whole_list [] = refl
whole_list (y ∷ ys) = ap (λ b. cond b (y ∷ ys) (from_word (suc y) ys)) (eq-eqb (suc y) (suc y) refl)

-- the word of what comes behind a link
pub next_part : (l : ℕ) (ls : List ℕ) → ((x : ℕ) → times x ls ≤ 1) → from_word (front (behind l ls)) ls ≡ behind l ls
next_part l [] d = refl
next_part l (x ∷ ls) d = by (next_part l ls (λ y. let a = d y in omega (arith, a))) (x == l)
  where
    out : times x ls ≡ 0
    out = let a = d x in let o = ap {B = ℕ} (λ b. cond b 1 0) (eq-eqb x x refl) in omega (arith, a, o)

    by : from_word (front (behind l ls)) ls ≡ behind l ls → (b : Bool) → from_word (front (cond b ls (behind l ls))) (x ∷ ls) ≡ cond b ls (behind l ls)
    by more true = ap (λ b. cond b (x ∷ ls) (from_word (front ls) ls)) (ne_eqb (suc x) (front ls) (front_list x ls out)) ∙ whole_list ls
    by more false = ap (λ b. cond b (x ∷ ls) (from_word (front (behind l ls)) ls)) (ne_eqb (suc x) (front (behind l ls)) (front_apart x l ls out)) ∙ more

module _ (n : ℕ) where
  one_whole : (l : ℕ) (k : LinkView) → Fine n k → (alive l k + deads l k ≡ named l k) × (settled l k ≡ named l k)
  one_whole l k f = by (k.link == l) k.stage f.settled
    where
      by : (b : Bool) (s : Stage) → is_settled s ≡ 1 → (cond b (is_live s) 0 + cond b (is_dead s) 0 ≡ cond b 1 0) × (◌≡◌ {A = ℕ} (cond b (is_settled s) 0) (cond b 1 0))
      by true s e = each_stage (λ s. is_settled s ≡ 1 → (is_live s + is_dead s ≡ 1) × (is_settled s ≡ 1)) (λ e. absurd (omega (arith, e))) (λ x e. absurd (omega (arith, e))) (λ e. (refl, refl)) (λ e. (refl, refl)) s e
      by false s e = (refl, refl)

  -- of settled links each is live or dead
  pub all_whole : (l : ℕ) (ks : List LinkView) → Each (Fine n) ks → (sum_by (alive l) ks + sum_by (deads l) ks ≡ sum_by (named l) ks) × (sum_by (settled l) ks ≡ sum_by (named l) ks)
  all_whole l [] f = (refl, refl)
  all_whole l (k ∷ ks) f = let a = one_whole l k f.0 in let b = all_whole l ks f.1 in let a0 = a.0 in let a1 = a.1 in let b0 = b.0 in let b1 = b.1 in
      (omega (arith, sum_by-cons (alive l) k ks, sum_by-cons (deads l) k ks, sum_by-cons (named l) k ks, a0, b0), omega (arith, sum_by-cons (settled l) k ks, sum_by-cons (named l) k ks, a1, b1))

  low_one : (l : ℕ) (k : LinkView) (b : Bool) → (k.link == l) ≡ b → Fine n k → (◌≡◌ {A = ℕ} (cond b 1 0) 0) ⊎ (l < n)
  low_one l k true e f = inr (subst (λ x. x < n) (eqb-true k.link l e) f.low)
  low_one l k false e f = inl refl

  pub named_low : (l : ℕ) (ks : List LinkView) → Each (Fine n) ks → 0 < sum_by (named l) ks → l < n
  named_low l [] f p = absurd (omega (arith, p))
  named_low l (k ∷ ks) f p = ⊎_elim (λ (z : named l k ≡ 0). named_low l ks f.1 (let s = sum_by-cons (named l) k ks in omega (arith, s, p, z))) (λ q. q) (low_one l k (k.link == l) refl f.0)

-- a link of the chain is one of the pass
pub chain_named : (v : ReadersView) (m l : ℕ) (ls : List ℕ) → IsSet v m ls → 0 < times l ls → 0 < sum_by (named l) v.links
chain_named v m l ls is p = let a = (is l).0 in let b = sum_under (linked m l) (named l) (linked_named m l) v.links in omega (arith, a, b, p)

pub takes : (ks : List LinkView) (l : ℕ) (ls : List ℕ) → 0 < sum_by (alive l) ks → next_live ks (l ∷ ls) ≡ Some l
takes ks l ls p = ap (λ b. cond b (Some l) (next_live ks ls)) (lt-ltb 0 (sum_by (alive l) ks) p)

pub passes : (ks : List LinkView) (l : ℕ) (ls : List ℕ) → sum_by (alive l) ks ≡ 0 → next_live ks (l ∷ ls) ≡ next_live ks ls
passes ks l ls p = ap (λ b. cond b (Some l) (next_live ks ls)) (le-ltb 0 (sum_by (alive l) ks) (omega (arith, p)))

-- one turn of a walk, at a word that isn't 0
pub record Turn (n : ℕ) (v : ReadersView) (w : ℕ) (ls : List ℕ) : Type 0 where
  pub on : 0 < times (w - 1) ls
  pub part : from_word w ls ≡ (w - 1) ∷ behind (w - 1) ls
  pub own : 0 < sum_by (named (w - 1)) v.links
  pub low : w - 1 < n

pub turn : (n : ℕ) (v : ReadersView) (m w : ℕ) (ls : List ℕ) → IsSet v m ls → Each (Fine n) v.links → w ≢ 0 → has_word w ls → Turn n v w ls
turn n v m w ls set fine d h =
    let is : w ≡ suc (w - 1) = omega (arith, d) in
    let a = at_word w (w - 1) is ls h in
    let own = chain_named v m (w - 1) ls set a.0 in
    record { on = a.0; part = a.1; own = own; low = named_low n (w - 1) v.links fine own }

-- its dead word is 0 where it is live
pub turn_live : (n : ℕ) (v : ReadersView) (w dead : ℕ) (ls : List ℕ) → Turn n v w ls → Each (Fine n) v.links → dead ≡ sum_by (deads (w - 1)) v.links → dead ≡ 0 → next_live v.links (from_word w ls) ≡ Some (w - 1)
turn_live n v w dead ls t fine is none = ap (next_live v.links) t.part ∙ takes v.links (w - 1) (behind (w - 1) ls) (let a = (all_whole n (w - 1) v.links fine).0 in let o = t.own in omega (arith, a, o, is, none))

-- and else the walk goes on
pub turn_dead : (n : ℕ) (v : ReadersView) (m w dead : ℕ) (ls : List ℕ) → IsSet v m ls → Turn n v w ls → Each (Fine n) v.links → sum_by (named (w - 1)) v.links ≤ 1 → dead ≡ sum_by (deads (w - 1)) v.links → dead ≢ 0 → (new : ℕ) → new ≡ front (behind (w - 1) ls)
    → has_word new ls × (next_live v.links (from_word new ls) ≡ next_live v.links (from_word w ls)) × (length (from_word new ls) < length (from_word w ls))
turn_dead n v m w dead ls set t fine once is d new e =
    let p : from_word new ls ≡ behind (w - 1) ls = ap (λ x. from_word x ls) e ∙ next_part (w - 1) ls (λ x. (set x).1) in
    let dead_one : 0 < sum_by (deads (w - 1)) v.links = omega (arith, d, is) in
    let off : sum_by (alive (w - 1)) v.links ≡ 0 = omega (arith, (all_whole n (w - 1) v.links fine).0, once, dead_one) in (
      e ∙ ap front (sym p),
      ap (next_live v.links) p ∙ (sym (passes v.links (w - 1) (behind (w - 1) ls) off) ∙ ap (next_live v.links) (sym t.part)),
      (let x = ap length p in let y = ap length t.part in omega (arith, x, y)),
    )

pub turn_settled : (n : ℕ) (v : ReadersView) (w : ℕ) (ls : List ℕ) → Turn n v w ls → Each (Fine n) v.links → 0 < sum_by (settled (w - 1)) v.links
turn_settled n v w ls t fine = let a = (all_whole n (w - 1) v.links fine).1 in let o = t.own in omega (arith, a, o)

-- the node of a link of the pass is known
pub node_known : (n l : ℕ) (ks : List LinkView) → Each (Fine n) ks → 0 < sum_by (named l) ks → (x : ℕ) × (node_in l ks ≡ Some x)
node_known n l [] f p = absurd (omega (arith, p))
node_known n l (k ∷ ks) f p = by (λ q. node_known n l ks f.1 q) (k.link == l) refl
  where
    by : (0 < sum_by (named l) ks → (x : ℕ) × (node_in l ks ≡ Some x)) → (b : Bool) → (k.link == l) ≡ b → (x : ℕ) × (cond b k.node (node_in l ks) ≡ Some x)
    by more true e = f.0.node
    by more false e = more (let s = sum_by-cons (named l) k ks in let z : named l k ≡ 0 = ap {B = ℕ} (λ b. cond b 1 0) e in omega (arith, s, z, p))

-- a chain that was learned is known
pub chain_learn : (m : ℕ) (ls : List ℕ) (es : List WalkView) → Member m (mods_of es) → chain_of m (map (learn m ls) es) ≡ Some ls
chain_learn m ls [] h = absurd h
chain_learn m ls (e ∷ es) h = by (λ r. chain_learn m ls es r) (e.of == m) refl h
  where
    by : (Member m (mods_of es) → chain_of m (map (learn m ls) es) ≡ Some ls) → (b : Bool) → (e.of == m) ≡ b → ((e.of ≡ m) ⊎ Member m (mods_of es)) → cond b (cond b (Some ls) e.chain) (chain_of m (map (learn m ls) es)) ≡ Some ls
    by more true e h = refl
    by more false q h = ⊎_elim (λ is. absurd (true≢false (sym (eq-eqb e.of m is) ∙ q))) (λ r. more r) h

-- a whole chain from its first word
pub word_whole : (n : ℕ) (ls : List ℕ) → n ≡ front ls → (has_word n ls) × (from_word n ls ≡ ls)
word_whole n ls e = let p : from_word n ls ≡ ls = ap (λ x. from_word x ls) e ∙ whole_list ls in (e ∙ ap front (sym p), p)

pub word_behind : (n l : ℕ) (ls : List ℕ) → ((x : ℕ) → times x ls ≤ 1) → n ≡ front (behind l ls) → (has_word n ls) × (from_word n ls ≡ behind l ls)
word_behind n l ls d e = let p : from_word n ls ≡ behind l ls = ap (λ x. from_word x ls) e ∙ next_part l ls d in (e ∙ ap front (sym p), p)

-- the first live link is one of them, and live
pub next_found : (ks : List LinkView) (ls : List ℕ) (l : ℕ) → next_live ks ls ≡ Some l → (0 < times l ls) × (0 < sum_by (alive l) ks)
next_found ks [] l e = absurd (none_some l e)
next_found ks (x ∷ ls) l e = by (λ q. next_found ks ls l q) (ltb 0 (sum_by (alive x) ks)) refl e
  where
    by : (next_live ks ls ≡ Some l → (0 < times l ls) × (0 < sum_by (alive l) ks)) → (b : Bool) → ltb 0 (sum_by (alive x) ks) ≡ b → cond b (Some x) (next_live ks ls) ≡ Some l → (0 < times l (x ∷ ls)) × (0 < sum_by (alive l) ks)
    by more true is q = let same = same_some x l q in let o = ap {B = ℕ} (λ b. cond b 1 0) (eq-eqb x l same) in (omega (arith, o), subst (λ y. 0 < sum_by (alive y) ks) same (ltb-true 0 (sum_by (alive x) ks) is))
    by more false is q = let r = more q in let a = r.0 in (omega (arith, a), r.1)

pub behind_on : (y l : ℕ) (ls : List ℕ) → 0 < times y (behind l ls) → 0 < times y ls
behind_on y l [] p = absurd (omega (arith, p))
behind_on y l (x ∷ ls) p = by (λ q. behind_on y l ls q) (x == l) p
  where
    by : (0 < times y (behind l ls) → 0 < times y ls) → (b : Bool) → 0 < times y (cond b ls (behind l ls)) → 0 < times y (x ∷ ls)
    by more true q = omega (arith, q)
    by more false q = let r = more q in omega (arith, r)

-- the set of a link that stands in one
pub set_is : (ks : List LinkView) (m l : ℕ) → 0 < sum_by (linked m l) ks → sum_by (named l) ks ≤ 1 → set_of l ks ≡ m
set_is [] m l p o = absurd (omega (arith, p))
set_is (k ∷ ks) m l p o = by (λ q r. set_is ks m l q r) (k.link == l) refl
  where
    mine : (b c : Bool) → (k.link == l) ≡ b → (k.of == m) ≡ c → 0 < cond b (cond c (in_set k.stage) 0) 0 → k.of ≡ m
    mine true true e f q = eqb-true k.of m f
    mine true false e f q = absurd (omega (arith, q))
    mine false c e f q = absurd (omega (arith, q))

    by : (0 < sum_by (linked m l) ks → sum_by (named l) ks ≤ 1 → set_of l ks ≡ m) → (b : Bool) → (k.link == l) ≡ b → cond b k.of (set_of l ks) ≡ m
    by more true e =
        let one : named l k ≡ 1 = ap {B = ℕ} (λ b. cond b 1 0) e in
        let u = sum_under (linked m l) (named l) (linked_named m l) ks in
        mine (k.link == l) (k.of == m) refl refl (let a = sum_by-cons (linked m l) k ks in let b = sum_by-cons (named l) k ks in omega (arith, a, b, p, o, one, u))
    by more false e =
        let none : named l k ≡ 0 = ap {B = ℕ} (λ b. cond b 1 0) e in
        let none2 : linked m l k ≡ 0 = let q = linked_named m l k in omega (arith, q, none) in
        more (let a = sum_by-cons (linked m l) k ks in omega (arith, a, p, none2)) (let b = sum_by-cons (named l) k ks in omega (arith, b, o))

found_some : (r : Option Link) (o : Option ℕ) → found r ≡ o → (P : ℕ → Type 0) → ((l : ℕ) → o ≡ Some l → P l) → IfSome r (λ l. P l.index)
found_some None o e P f = tt
found_some (Some l) o e P f = f l.index (sym e)

pub on_walk : (r : Option Link) (v : ReadersView) (m : ℕ) (ls part : List ℕ) → Walks v m ls → ((y : ℕ) → 0 < times y part → 0 < times y ls) → ((l : ℕ) → sum_by (named l) v.links ≤ 1) → found r ≡ next_live v.links part → IfSome r (λ l. OnWalk v m l.index)
on_walk r v m ls part w more once e = found_some r (next_live v.links part) e (OnWalk v m) (λ l q.
    let f = next_found v.links part l q in
    let on = more l f.0 in
    record { chain = ls; knows = w; on = on; live = f.1; set = set_is v.links m l (let a = (w.2 l).0 in omega (arith, a, on)) (once l) })
