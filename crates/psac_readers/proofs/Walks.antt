-- A whole walk lists the live links of its set.
use Rattle.psac_readers.proofs.Terms.{◌≡◌, ◌≢◌, ℕ, ◌+◌, ◌<◌, ◌≤◌, List, [], ◌∷◌, Bool, true, false, true≢false, cond, ltb, refl, sym, ap, ◌∙◌, subst, arith, Option, Some, none_some, same_some, sum_by, ◌==◌, sum_by-cons, eq-eqb, eqb-true, ne_eqb, Stage, LinkView, ReadersView, named, linked, alive, in_set, is_live, times, IsSet, behind, next_live, Answers, live_in, Walked}
use Rattle.psac_readers.proofs.Links.{each_stage, if_less, if_low, in_low, live_low, none_if, sum_under}

abbrev is_alive : List LinkView → ℕ → Bool
is_alive ks l = ltb 0 (sum_by (alive l) ks)

abbrev lives : List LinkView → List ℕ → List ℕ
lives ks [] = []
lives ks (l ∷ ls) = cond (is_alive ks l) (l ∷ lives ks ls) (lives ks ls)

-- from a part of the chain on, behind whose links the same follows as in the whole
walks : (ks : List LinkView) (chain rest : List ℕ) → ((x : ℕ) → times x rest ≤ 1) → ((x : ℕ) → 0 < times x rest → behind x chain ≡ behind x rest) → Answers ks chain (next_live ks rest) (lives ks rest)
walks ks chain [] d h = refl
walks ks chain (l ∷ rest) d h = by (λ e f. walks ks chain rest e f) (is_alive ks l)
  where
    same : times l (l ∷ rest) ≡ 1 + times l rest
    same = let o = ap {B = ℕ} (λ b. cond b 1 0) (eq-eqb l l refl) in omega (arith, o)

    apart : (x : ℕ) → 0 < times x rest → l ≢ x
    apart x p e = let a = d l in let b = ap (λ y. times y rest) e in omega (arith, a, b, p, same)

    more : (x : ℕ) → times x rest ≤ times x (l ∷ rest)
    more x = omega arith

    below : (x : ℕ) → times x rest ≤ 1
    below x = let a = d x in let b = more x in omega (arith, a, b)

    tail : (x : ℕ) → 0 < times x rest → behind x chain ≡ behind x rest
    tail x p = h x (let b = more x in omega (arith, b, p)) ∙ ap (λ b. cond b rest (behind x rest)) (ne_eqb l x (apart x p))

    here : behind l chain ≡ rest
    here = h l (omega (arith, same)) ∙ ap (λ b. cond b rest (behind l rest)) (eq-eqb l l refl)

    by : (((x : ℕ) → times x rest ≤ 1) → ((x : ℕ) → 0 < times x rest → behind x chain ≡ behind x rest) → Answers ks chain (next_live ks rest) (lives ks rest)) → (b : Bool) → Answers ks chain (cond b (Some l) (next_live ks rest)) (cond b (l ∷ lives ks rest) (lives ks rest))
    by on true = (refl, subst (λ r. Answers ks chain (next_live ks r) (lives ks rest)) (sym here) (on below tail))
    by on false = on below tail

one_walk : (ks : List LinkView) (chain : List ℕ) (o : Option ℕ) (xs ys : List ℕ) → Answers ks chain o xs → Answers ks chain o ys → xs ≡ ys
one_walk ks chain o [] [] a b = refl
one_walk ks chain o [] (y ∷ ys) a b = absurd (none_some y (sym a ∙ b.0))
one_walk ks chain o (x ∷ xs) [] a b = absurd (none_some x (sym b ∙ a.0))
one_walk ks chain o (x ∷ xs) (y ∷ ys) a b =
    let e = same_some x y (sym a.0 ∙ b.0) in
    let r = one_walk ks chain (next_live ks (behind x chain)) xs ys a.1 (subst (λ z. Answers ks chain (next_live ks (behind z chain)) ys) (sym e) b.1) in
    λ i. e i ∷ r i

times_lives : (ks : List LinkView) (l : ℕ) (ls : List ℕ) → times l (lives ks ls) ≡ cond (is_alive ks l) (times l ls) 0
times_lives ks l [] = sym (none_if (is_alive ks l))
times_lives ks l (x ∷ ls) = split (is_alive ks x) ∙ one (is_alive ks x) (x == l) (is_alive ks l) (times l (lives ks ls)) (times l ls) (λ e. ap (is_alive ks) (eqb-true x l e)) (times_lives ks l ls)
  where
    split : (b : Bool) → times l (cond b (x ∷ lives ks ls) (lives ks ls)) ≡ cond b (cond (x == l) 1 0 + times l (lives ks ls)) (times l (lives ks ls))
    split true = refl
    split false = refl

    one : (a b c : Bool) (n k : ℕ) → (b ≡ true → a ≡ c) → n ≡ cond c k 0 → cond a (cond b 1 0 + n) n ≡ cond c (cond b 1 0 + k) 0
    one true true true n k s e = omega (arith, e)
    one true true false n k s e = absurd (true≢false (s refl))
    one true false true n k s e = omega (arith, e)
    one true false false n k s e = omega (arith, e)
    one false true true n k s e = absurd (true≢false (sym (s refl)))
    one false true false n k s e = e
    one false false true n k s e = omega (arith, e)
    one false false false n k s e = e

-- at most as much as whether the link is named
below_named : (l : ℕ) (f : LinkView → ℕ) → ((k : LinkView) → f k ≤ 1) → (ks : List LinkView) → sum_by (λ k. cond (k.link == l) (f k) 0) ks ≤ sum_by (named l) ks
below_named l f p ks = sum_under (λ k. cond (k.link == l) (f k) 0) (named l) (λ k. if_less (k.link == l) (f k) 1 (p k)) ks

-- a link of the set is live in it where it is live
live_one : (m l : ℕ) (ks : List LinkView) → sum_by (named l) ks ≤ 1 → sum_by (live_in m l) ks ≡ cond (is_alive ks l) (sum_by (linked m l) ks) 0
live_one m l [] o = refl
live_one m l (k ∷ ks) o = by (λ p. live_one m l ks p) (k.link == l) refl
  where
    one : (b c : Bool) (s : Stage) → cond b (cond c (is_live s) 0) 0 ≡ cond (ltb 0 (cond b (is_live s) 0)) (cond b (cond c (in_set s) 0) 0) 0
    one false c s = refl
    one true true s = each_stage (λ s. is_live s ≡ cond (ltb 0 (is_live s)) (in_set s) 0) refl (λ n. refl) refl refl s
    one true false s = each_stage (λ s. 0 ≡ cond (ltb 0 (is_live s)) 0 0) refl (λ n. refl) refl refl s

    put : (a b c d e f : ℕ) → a ≡ d → b ≡ e → c ≡ f → d ≡ cond (ltb 0 e) f 0 → a ≡ cond (ltb 0 b) c 0
    put a b c d e f p q r h = p ∙ (h ∙ (λ i. cond (ltb 0 (sym q i)) (sym r i) 0))

    by : (sum_by (named l) ks ≤ 1 → sum_by (live_in m l) ks ≡ cond (is_alive ks l) (sum_by (linked m l) ks) 0) → (b : Bool) → (k.link == l) ≡ b → sum_by (live_in m l) (k ∷ ks) ≡ cond (is_alive (k ∷ ks) l) (sum_by (linked m l) (k ∷ ks)) 0
    by on true e =
        let here : named l k ≡ 1 = ap {B = ℕ} (λ b. cond b 1 0) e in
        let x = below_named l (λ k. cond (k.of == m) (is_live k.stage) 0) (λ k. if_low (k.of == m) (is_live k.stage) 1 (live_low k.stage)) ks in
        let y = below_named l (λ k. is_live k.stage) (λ k. live_low k.stage) ks in
        let z = below_named l (λ k. cond (k.of == m) (in_set k.stage) 0) (λ k. if_low (k.of == m) (in_set k.stage) 1 (in_low k.stage)) ks in
        let a = sum_by-cons (live_in m l) k ks in let b = sum_by-cons (alive l) k ks in let c = sum_by-cons (linked m l) k ks in let n = sum_by-cons (named l) k ks in
        put (sum_by (live_in m l) (k ∷ ks)) (sum_by (alive l) (k ∷ ks)) (sum_by (linked m l) (k ∷ ks)) (live_in m l k) (alive l k) (linked m l k) (omega (arith, a, n, here, o, x)) (omega (arith, b, n, here, o, y)) (omega (arith, c, n, here, o, z)) (one (k.link == l) (k.of == m) k.stage)
    by on false e =
        let p : live_in m l k ≡ 0 = ap {B = ℕ} (λ b. cond b (cond (k.of == m) (is_live k.stage) 0) 0) e in
        let q : alive l k ≡ 0 = ap {B = ℕ} (λ b. cond b (is_live k.stage) 0) e in
        let r : linked m l k ≡ 0 = ap {B = ℕ} (λ b. cond b (cond (k.of == m) (in_set k.stage) 0) 0) e in
        let a = sum_by-cons (live_in m l) k ks in let b = sum_by-cons (alive l) k ks in let c = sum_by-cons (linked m l) k ks in let n = sum_by-cons (named l) k ks in
        put (sum_by (live_in m l) (k ∷ ks)) (sum_by (alive l) (k ∷ ks)) (sum_by (linked m l) (k ∷ ks)) (sum_by (live_in m l) ks) (sum_by (alive l) ks) (sum_by (linked m l) ks) (omega (arith, a, p)) (omega (arith, b, q)) (omega (arith, c, r)) (on (omega (arith, n, o)))

pub whole_walk : (v : ReadersView) (m : ℕ) (chain : List ℕ) → IsSet v m chain → ((l : ℕ) → sum_by (named l) v.links ≤ 1) → Walked v m chain
whole_walk v m chain set once =
    let lists : (l : ℕ) → times l (lives v.links chain) ≡ sum_by (live_in m l) v.links = λ l. times_lives v.links l chain ∙ (ap (λ n. cond (is_alive v.links l) n 0) (set l).0 ∙ sym (live_one m l v.links (once l))) in
    let walk = walks v.links chain chain (λ x. (set x).1) (λ x p. refl) in
    record {
      links = lives v.links chain;
      walk = walk;
      lists = lists;
      once = λ l. under (is_alive v.links l) (times l (lives v.links chain)) (times l chain) (times_lives v.links l chain) (set l).1;
      only = λ ls w. one_walk v.links chain (next_live v.links chain) ls (lives v.links chain) w walk;
    }
  where
    under : (b : Bool) (n k : ℕ) → n ≡ cond b k 0 → k ≤ 1 → n ≤ 1
    under true n k e l = omega (arith, e, l)
    under false n k e l = omega (arith, e)
