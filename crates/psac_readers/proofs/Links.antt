-- Lists of links, and chains.
use Rattle.psac_readers.proofs.Terms.{◌≡◌, ◌≢◌, ℕ, zero, suc, ◌+◌, ◌<◌, ◌≤◌, List, [], ◌∷◌, ◌++◌, map, length, set, Bool, true, false, true≢false, cond, refl, sym, ap, ◌∙◌, subst, ⊎_elim, arith, Option, Some, at_less, slice_at, sum_by, filter, not, ◌==◌, slice_index, sum_by-cons, eq-eqb, eqb-true, cases_eq, some, some-ne-none, some-injective, get_elem?, set_else, Handle, sum_le, sum_none, sum_two, same_some, Stage, Claimed, UnderWay, In, Dead, LinkView, WalkView, Follows, in_set, is_live, is_dead, named, linked, alive, deads, times, Each, mods_of, next_at, node_at, Staged, Knows, Seen, new_link, forget, learn, front, behind, settled, is_settled, Fine, node_in, chain_of}
use Rattle.psac_slots.specs.Handles as handles
pub use Rattle.psac_slots.proofs.Tables.{sum_map}

module _ {A : Type 0} where
  pub each_imp : (P Q : A → Type 0) → ((x : A) → P x → Q x) → (xs : List A) → Each P xs → Each Q xs
  each_imp P Q f [] h = tt
  each_imp P Q f (x ∷ xs) h = (f x h.0, each_imp P Q f xs h.1)

  pub each_append : (P : A → Type 0) (xs ys : List A) → Each P xs → Each P ys → Each P (xs ++ ys)
  each_append P [] ys a b = b
  each_append P (x ∷ xs) ys a b = (a.0, each_append P xs ys a.1 b)

  each_one : (P : A → Type 0) (x : A) (xs : List A) (b : Bool) → P x → Each P xs → Each P (cond b (x ∷ xs) xs)
  each_one P x xs true p h = (p, h)
  each_one P x xs false p h = h

  pub each_filter : (P : A → Type 0) (f : A → Bool) (xs : List A) → Each P xs → Each P (filter f xs)
  each_filter P f [] h = tt
  each_filter P f (x ∷ xs) h = each_one P x (filter f xs) (f x) h.0 (each_filter P f xs h.1)

  pub each_tail : (P : A → Type 0) (x : A) (ys xs : List A) → ys ≡ x ∷ xs → Each P ys → P x × Each P xs
  each_tail P x ys xs e h = subst (Each P) e h

  pub sum_zero : (f : A → ℕ) (xs : List A) → ((x : A) → f x ≡ 0) → sum_by f xs ≡ 0
  sum_zero f [] h = refl
  sum_zero f (x ∷ xs) h = omega (arith, sum_by-cons f x xs, h x, sum_zero f xs h)

  pub sum_plus : (f g h : A → ℕ) → ((x : A) → h x ≡ f x + g x) → (xs : List A) → sum_by h xs ≡ sum_by f xs + sum_by g xs
  sum_plus f g h p [] = refl
  sum_plus f g h p (x ∷ xs) = omega (arith, sum_by-cons f x xs, sum_by-cons g x xs, sum_by-cons h x xs, p x, sum_plus f g h p xs)

  pub sum_under : (f g : A → ℕ) → ((x : A) → f x ≤ g x) → (xs : List A) → sum_by f xs ≤ sum_by g xs
  sum_under f g p xs = sum_le f g xs (λ i v e. p v)

  split_one : (f : A → ℕ) (t : A → Bool) (x : A) (ts fs : List A) (b : Bool) → sum_by f (cond b (x ∷ ts) ts) + sum_by f (cond (not b) (x ∷ fs) fs) ≡ f x + (sum_by f ts + sum_by f fs)
  split_one f t x ts fs true = omega (arith, sum_by-cons f x ts)
  split_one f t x ts fs false = omega (arith, sum_by-cons f x fs)

  -- what passes a test and what does not make the whole
  pub sum_split : (f : A → ℕ) (t : A → Bool) (xs : List A) → sum_by f (filter t xs) + sum_by f (filter (λ x. not (t x)) xs) ≡ sum_by f xs
  sum_split f t [] = refl
  sum_split f t (x ∷ xs) = omega (arith, split_one f t x (filter t xs) (filter (λ y. not (t y)) xs) (t x), sum_by-cons f x xs, sum_split f t xs)

  pub sum_same : (f g : A → ℕ) → ((x : A) → f x ≡ g x) → (xs : List A) → sum_by f xs ≡ sum_by g xs
  sum_same f g p [] = refl
  sum_same f g p (x ∷ xs) = omega (arith, sum_by-cons f x xs, sum_by-cons g x xs, p x, sum_same f g p xs)

  pub each_map : {B : Type 0} (P : A → Type 0) (Q : B → Type 0) (f : A → B) → ((x : A) → P x → Q (f x)) → (xs : List A) → Each P xs → Each Q (map f xs)
  each_map P Q f p [] h = tt
  each_map P Q f p (x ∷ xs) h = (p x h.0, each_map P Q f p xs h.1)

  pass_one : (P Q : A → Type 0) (t : A → Bool) → ((x : A) → t x ≡ true → P x → Q x) → (x : A) (xs : List A) (b : Bool) → t x ≡ b → P x → Each Q xs → Each Q (cond b (x ∷ xs) xs)
  pass_one P Q t p x xs true is h r = (p x is h, r)
  pass_one P Q t p x xs false is h r = r

  pub each_pass : (P Q : A → Type 0) (t : A → Bool) → ((x : A) → t x ≡ true → P x → Q x) → (xs : List A) → Each P xs → Each Q (filter t xs)
  each_pass P Q t p [] h = tt
  each_pass P Q t p (x ∷ xs) h = pass_one P Q t p x (filter t xs) (t x) refl h.0 (each_pass P Q t p xs h.1)

  pass_zero : (f : A → ℕ) (t : A → Bool) → ((x : A) → t x ≡ true → f x ≡ 0) → (x : A) (xs : List A) (b : Bool) → t x ≡ b → sum_by f xs ≡ 0 → sum_by f (cond b (x ∷ xs) xs) ≡ 0
  pass_zero f t p x xs true is r = omega (arith, sum_by-cons f x xs, p x is, r)
  pass_zero f t p x xs false is r = r

  pub sum_pass : (f : A → ℕ) (t : A → Bool) → ((x : A) → t x ≡ true → f x ≡ 0) → (xs : List A) → sum_by f (filter t xs) ≡ 0
  sum_pass f t p [] = refl
  sum_pass f t p (x ∷ xs) = pass_zero f t p x (filter t xs) (t x) refl (sum_pass f t p xs)

  pub each_zero : (P : A → Type 0) (f : A → ℕ) → ((x : A) → P x → f x ≡ 0) → (xs : List A) → Each P xs → sum_by f xs ≡ 0
  each_zero P f p [] h = refl
  each_zero P f p (x ∷ xs) h = omega (arith, sum_by-cons f x xs, p x h.0, each_zero P f p xs h.1)

  -- where all others have nothing
  pub sum_only : (f : A → ℕ) (xs : List A) (id : ℕ) (v : A) → get_elem? xs id ≡ some v → ((j : ℕ) (u : A) → j ≢ id → get_elem? xs j ≡ some u → f u ≡ 0) → sum_by f xs ≡ f v
  sum_only f [] id v e h = absurd (some-ne-none v (sym e))
  sum_only f (x ∷ xs) zero v e h = let a = ap f (some-injective x v e) in let b = sum_none f xs (λ j u d. h (suc j) u (λ q. absurd (omega (arith, q))) d) in omega (arith, sum_by-cons f x xs, a, b)
  sum_only f (x ∷ xs) (suc id) v e h = let a = h 0 x (λ q. absurd (omega (arith, q))) refl in let b = sum_only f xs id v e (λ j u n d. h (suc j) u (λ q. n (omega (arith, q))) d) in omega (arith, sum_by-cons f x xs, a, b)

  -- a part of what is at most one, and is there
  pub only_here : (g f : A → ℕ) → ((x : A) → g x ≤ f x) → (xs : List A) (id : ℕ) (v : A) → get_elem? xs id ≡ some v → sum_by f xs ≤ 1 → 0 < f v → sum_by g xs ≡ g v
  only_here g f le xs id v e one p = sum_only g xs id v e (λ j u n d. let a = sum_two f xs id j v u (λ q. n (sym q)) e d in let b = le u in omega (arith, a, b, one, p))

pub none_if : (b : Bool) → ◌≡◌ {A = ℕ} (cond b 0 0) 0
none_if true = refl
none_if false = refl

pub none_if_both : (a b : Bool) → ◌≡◌ {A = ℕ} (cond a (cond b 0 0) 0) 0
none_if_both true b = none_if b
none_if_both false b = refl

pub on_then : (b : Bool) → not b ≡ false → b ≡ true
on_then true e = refl
on_then false e = absurd (true≢false e)

pub if_less : (b : Bool) (n m : ℕ) → n ≤ m → cond b n 0 ≤ cond b m 0
if_less true n m l = l
if_less false n m l = omega arith

pub if_low : (b : Bool) (n m : ℕ) → n ≤ m → cond b n 0 ≤ m
if_low true n m l = l
if_low false n m l = omega arith

pub if_two : (b : Bool) (n m k : ℕ) → n + m ≤ k → cond b n 0 + cond b m 0 ≤ cond b k 0
if_two true n m k l = l
if_two false n m k l = omega arith

-- what holds of each stage
pub each_stage : (P : Stage → Type 0) → P Claimed → ((n : ℕ) → P (UnderWay n)) → P In → P Dead → (s : Stage) → P s
each_stage P c u i d Claimed = c
each_stage P c u i d (UnderWay n) = u n
each_stage P c u i d In = i
each_stage P c u i d Dead = d

pub in_low : (s : Stage) → in_set s ≤ 1
in_low = each_stage (λ s. in_set s ≤ 1) (omega arith) (λ n. omega arith) (omega arith) (omega arith)

pub live_low : (s : Stage) → is_live s ≤ 1
live_low = each_stage (λ s. is_live s ≤ 1) (omega arith) (λ n. omega arith) (omega arith) (omega arith)

-- the stage of the link l becomes another one
abbrev pub restaged : (Stage → Stage) → ℕ → LinkView → LinkView
restaged g l k = record k { stage = cond (k.link == l) (g k.stage) k.stage }

-- what holds of a stage and of itself, and of a stage and what becomes of it
pub stage_if : (g : Stage → Stage) (P : Stage → Stage → Type 0) → ((s : Stage) → P s s) → ((s : Stage) → P s (g s)) → (b : Bool) (s : Stage) → P s (cond b (g s) s)
stage_if g P same new true s = new s
stage_if g P same new false s = same s

-- it stands in a set where it stood in one
pub in_same : (g : Stage → Stage) → ((s : Stage) → in_set (g s) ≡ in_set s) → (b : Bool) (s : Stage) → in_set (cond b (g s) s) ≡ in_set s
in_same g same = stage_if g (λ s t. in_set t ≡ in_set s) (λ s. refl) same

pub linked_same : (g : Stage → Stage) → ((s : Stage) → in_set (g s) ≡ in_set s) → (l m x : ℕ) (k : LinkView) → linked m x (restaged g l k) ≡ linked m x k
linked_same g same l m x k = ap (λ (n : ℕ). cond (k.link == x) (cond (k.of == m) n 0) 0) (in_same g same (k.link == l) k.stage)

-- a settled link stays one
pub restaged_fine : (g : Stage → Stage) → ((s : Stage) → is_settled s ≡ 1 → is_settled (g s) ≡ 1) → (n l : ℕ) (k : LinkView) → Fine n k → Fine n (restaged g l k)
restaged_fine g f n l k p = record { low = p.low; settled = stage_if g (λ s t. is_settled s ≡ 1 → is_settled t ≡ 1) (λ s e. e) f (k.link == l) k.stage p.settled; node = p.node }

-- and another link's stage stays
pub stage_else : (g : Stage → Stage) (f : Stage → ℕ) (l x : ℕ) (k : LinkView) → x ≢ l → cond (k.link == x) (f (restaged g l k).stage) 0 ≡ cond (k.link == x) (f k.stage) 0
stage_else g f l x k n = by (k.link == l) (k.link == x) refl refl
  where
    by : (a b : Bool) → (k.link == l) ≡ a → (k.link == x) ≡ b → cond b (f (cond a (g k.stage) k.stage)) 0 ≡ cond b (f k.stage) 0
    by true true e d = absurd (n (sym (eqb-true k.link x d) ∙ eqb-true k.link l e))
    by true false e d = refl
    by false b e d = refl

pub new_named : (l : ℕ) (hs : List Handle) → sum_by (named l) (map new_link hs) ≡ handles.slot_times l hs
new_named l hs = sum_map new_link (named l) hs

pub new_linked : (m l : ℕ) (hs : List Handle) → sum_by (linked m l) (map new_link hs) ≡ 0
new_linked m l hs = sum_map new_link (linked m l) hs ∙ sum_zero (λ h. linked m l (new_link h)) hs (λ h. none_if_both (h.slot == l) (0 == m))

pub new_deads : (l : ℕ) (hs : List Handle) → sum_by (deads l) (map new_link hs) ≡ 0
new_deads l hs = sum_map new_link (deads l) hs ∙ sum_zero (λ h. deads l (new_link h)) hs (λ h. none_if (h.slot == l))

pub linked_named : (m l : ℕ) (k : LinkView) → linked m l k ≤ named l k
linked_named m l k = if_less (k.link == l) (cond (k.of == m) (in_set k.stage) 0) 1 (if_low (k.of == m) (in_set k.stage) 1 (in_low k.stage))

pub alive_deads : (l : ℕ) (k : LinkView) → alive l k + deads l k ≤ named l k
alive_deads l k = if_two (k.link == l) (is_live k.stage) (is_dead k.stage) 1 (each_stage (λ s. is_live s + is_dead s ≤ 1) (omega arith) (λ n. omega arith) (omega arith) (omega arith) k.stage)

-- another next at a link that isn't in the chain
pub follows_else : (next other : ℕ → ℕ) (l : ℕ) (w : ℕ) (ls : List ℕ) → times l ls ≡ 0 → ((x : ℕ) → x ≢ l → other x ≡ next x) → Follows next w ls → Follows other w ls
follows_else next other l w [] out same f = f
follows_else next other l w (x ∷ ls) out same f =
    let apart : x ≢ l = λ e. let t : cond (x == l) 1 0 ≡ 1 = ap {B = ℕ} (λ b. cond b 1 0) (eq-eqb x l e) in absurd (omega (arith, t, out)) in
    (f.0, subst (λ (y : ℕ). Follows other y ls) (sym (same x apart)) (follows_else next other l (next x) ls (omega (arith, out)) same f.1))

-- a fact of each link that isn't l
pub each_named : (P Q : LinkView → Type 0) (l : ℕ) → ((k : LinkView) → k.link ≢ l → P k → Q k) → (ks : List LinkView) → sum_by (named l) ks ≡ 0 → Each P ks → Each Q ks
each_named P Q l f [] none h = tt
each_named P Q l f (k ∷ ks) none h =
    let a = sum_by-cons (named l) k ks in
    let apart : k.link ≢ l = λ e. let t : named l k ≡ 1 = ap {B = ℕ} (λ b. cond b 1 0) (eq-eqb k.link l e) in absurd (omega (arith, t, a, none)) in
    (f k apart h.0, each_named P Q l f ks (omega (arith, a, none)) h.1)

module _ (links mods : ℕ) (words : List ℕ) where
  pub staged_set : (next other : ℕ → ℕ) (i w l : ℕ) → i ≢ next_at links mods l → other l ≡ next l → (s : Stage) → Staged links mods words next l s → Staged links mods (set words i w) other l s
  staged_set next other i w l n e Claimed h = tt
  staged_set next other i w l n e (UnderWay o) h = e ∙ h
  staged_set next other i w l n e In h = set_else words i (next_at links mods l) w (λ q. n (sym q)) ∙ (h ∙ ap some (sym e))
  staged_set next other i w l n e Dead h = set_else words i (next_at links mods l) w (λ q. n (sym q)) ∙ (h ∙ ap some (sym e))

  pub knows_set : (next other : ℕ → ℕ) (i w : ℕ) (k : LinkView) → i ≢ next_at links mods k.link → i ≢ node_at links mods k.link → other k.link ≡ next k.link → Knows links mods words next k → Knows links mods (set words i w) other k
  knows_set next other i w k n o e h = (staged_set next other i w k.link n e k.stage h.0, λ x is. set_else words i (node_at links mods k.link) w (λ q. o (sym q)) ∙ h.1 x is)

pub is_there : (words : List ℕ) (i w : ℕ) → get_elem? words i ≡ some w → (i < length words) × (slice_index words i ≡ w)
is_there words i w e = (at_less words i w e, slice_at words i w e)

-- the modifiables of a walk stay
pub mods_forget : (m : ℕ) (es : List WalkView) → mods_of (map (forget m) es) ≡ mods_of es
mods_forget m [] = refl
mods_forget m (e ∷ es) = ap (λ l. e.of ∷ l) (mods_forget m es)

pub mods_learn : (m : ℕ) (ls : List ℕ) (es : List WalkView) → mods_of (map (learn m ls) es) ≡ mods_of es
mods_learn m ls [] = refl
mods_learn m ls (e ∷ es) = ap (λ l. e.of ∷ l) (mods_learn m ls es)

filter_of : (f : ℕ → Bool) (e : WalkView) (es : List WalkView) (b : Bool) → mods_of (cond b (e ∷ es) es) ≡ cond b (e.of ∷ mods_of es) (mods_of es)
filter_of f e es true = refl
filter_of f e es false = refl

pub mods_filter : (f : ℕ → Bool) (es : List WalkView) → mods_of (filter (λ (e : WalkView). f e.of) es) ≡ filter f (mods_of es)
mods_filter f [] = refl
mods_filter f (e ∷ es) = filter_of f e (filter (λ (x : WalkView). f x.of) es) (f e.of) ∙ ap (λ l. cond (f e.of) (e.of ∷ l) l) (mods_filter f es)

pub front_is : (next : ℕ → ℕ) (w : ℕ) (ls : List ℕ) → Follows next w ls → w ≡ front ls
front_is next w [] f = f
front_is next w (l ∷ ls) f = f.0

behind_one : (next : ℕ → ℕ) (l x : ℕ) (xs : List ℕ) → Follows next (next x) xs → (0 < times l xs → next l ≡ front (behind l xs)) → 0 < times l (x ∷ xs) → (b : Bool) → (x == l) ≡ b → next l ≡ front (cond b xs (behind l xs))
behind_one next l x xs f more p true is = ap next (sym (eqb-true x l is)) ∙ front_is next (next x) xs f
behind_one next l x xs f more p false is = more (let o = ap {B = ℕ} (λ b. cond b 1 0) is in omega (arith, p, o))

-- the next of a link of a chain is the first of what comes behind
pub behind_is : (next : ℕ → ℕ) (w l : ℕ) (ls : List ℕ) → Follows next w ls → 0 < times l ls → next l ≡ front (behind l ls)
behind_is next w l [] f p = absurd (omega arith)
behind_is next w l (x ∷ xs) f p = behind_one next l x xs f.1 (λ q. behind_is next (next x) l xs f.1 q) p (x == l) refl

module _ (links mods : ℕ) (words : List ℕ) (next : ℕ → ℕ) where
  pub stage_word : (l : ℕ) (s : Stage) → 0 < is_settled s → Staged links mods words next l s → get_elem? words (next_at links mods l) ≡ some (next l)
  stage_word l Claimed p h = absurd (omega arith)
  stage_word l (UnderWay n) p h = absurd (omega arith)
  stage_word l In p h = h
  stage_word l Dead p h = h

  settled_one : (l : ℕ) (k : LinkView) → Knows links mods words next k → (b : Bool) → (k.link == l) ≡ b → 0 < cond b (is_settled k.stage) 0 → get_elem? words (next_at links mods l) ≡ some (next l)
  settled_one l k h true is p = subst (λ x. get_elem? words (next_at links mods x) ≡ some (next x)) (eqb-true k.link l is) (stage_word k.link k.stage p h.0)
  settled_one l k h false is p = absurd (omega (arith, p))

  pub next_word : (l : ℕ) (ks : List LinkView) → Each (Knows links mods words next) ks → 0 < sum_by (settled l) ks → get_elem? words (next_at links mods l) ≡ some (next l)
  next_word l [] h p = absurd (omega (arith, p))
  next_word l (k ∷ ks) h p = ⊎_elim
      (λ (z : settled l k ≡ 0). next_word l ks h.1 (omega (arith, sum_by-cons (settled l) k ks, p, z)))
      (λ (n : settled l k ≢ 0). settled_one l k h.0 (k.link == l) refl (omega (arith, n)))
      (cases_eq (settled l k) 0)

  node_one : (l x : ℕ) (k : LinkView) (more : Option ℕ) → Knows links mods words next k → (more ≡ Some x → get_elem? words (node_at links mods l) ≡ some x) → (b : Bool) → (k.link == l) ≡ b → cond b k.node more ≡ Some x → get_elem? words (node_at links mods l) ≡ some x
  node_one l x k more h f true is e = subst (λ z. get_elem? words (node_at links mods z) ≡ some x) (eqb-true k.link l is) (h.1 x e)
  node_one l x k more h f false is e = f e

  pub node_word : (l x : ℕ) (ks : List LinkView) → Each (Knows links mods words next) ks → node_in l ks ≡ Some x → get_elem? words (node_at links mods l) ≡ some x
  node_word l x [] h e = absurd (cc)
  node_word l x (k ∷ ks) h e = node_one l x k (node_in l ks) h.0 (λ q. node_word l x ks h.1 q) (k.link == l) refl e

  -- what is known of a link stays with its new stage
  pub restaged_known : (g : Stage → Stage) (l : ℕ) (k : LinkView) → ((s : Stage) → Staged links mods words next k.link s → Staged links mods words next k.link (g s)) → Knows links mods words next k → Knows links mods words next (restaged g l k)
  restaged_known g l k f h = (stage_if g (λ s t. Staged links mods words next k.link s → Staged links mods words next k.link t) (λ s p. p) f (k.link == l) k.stage h.0, h.1)

chain_one : (chain : ℕ → List ℕ) (m : ℕ) (e : WalkView) (more : Option (List ℕ)) (ls : List ℕ) → Seen chain e → (more ≡ Some ls → chain m ≡ ls) → (b : Bool) → (e.of == m) ≡ b → cond b e.chain more ≡ Some ls → chain m ≡ ls
chain_one chain m e more ls s f true is q = ap chain (sym (eqb-true e.of m is)) ∙ s ls q
chain_one chain m e more ls s f false is q = f q

pub chain_is : (chain : ℕ → List ℕ) (m : ℕ) (es : List WalkView) (ls : List ℕ) → Each (Seen chain) es → chain_of m es ≡ Some ls → chain m ≡ ls
chain_is chain m [] ls s q = absurd (cc)
chain_is chain m (e ∷ es) ls s q = chain_one chain m e (chain_of m es) ls s.0 (λ z. chain_is chain m es ls s.1 z) (e.of == m) refl q

learn_one : (chain : ℕ → List ℕ) (m : ℕ) (e : WalkView) → Seen chain e → (b : Bool) → (e.of == m) ≡ b → (ls : List ℕ) → cond b (Some (chain m)) e.chain ≡ Some ls → chain e.of ≡ ls
learn_one chain m e s true is ls q = ap chain (eqb-true e.of m is) ∙ same_some (chain m) ls q
learn_one chain m e s false is ls q = s ls q

pub seen_learn : (chain : ℕ → List ℕ) (m : ℕ) (es : List WalkView) → Each (Seen chain) es → Each (Seen chain) (map (learn m (chain m)) es)
seen_learn chain m [] s = tt
seen_learn chain m (e ∷ es) s = (λ ls q. learn_one chain m e s.0 (e.of == m) refl ls q, seen_learn chain m es s.1)
