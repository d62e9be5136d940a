-- Lists that are filtered, one slot after another.
use Rattle.psac_slots.proofs.Terms.{◌≡◌, ◌≢◌, ℕ, suc, ◌<◌, ◌≤◌, ◌+◌, List, [], ◌∷◌, map, Bool, true, false, cond, ltb, refl, sym, ap, ◌∙◌, inl, inr, ⊎_elim, arith, filter, not, ◌==◌, ◌&&◌, eq-eqb, ne_eqb, lt-ltb, le-ltb, cases_lt, cases_eq, Handle, Member, slot_times, IsDistinct, removed, only, sum_by-cons}
use Rattle.psac_slots.proofs.Removed.{member_times}
use Rattle.psac_slots.proofs.Sums.{bit}

module _ {A : Type 0} where
  kept_one : (p q : A → Bool) (x : A) (l m n : List A) → filter p l ≡ n → (a b : Bool) → q x ≡ a → p x ≡ b → filter p (cond a (x ∷ l) l) ≡ cond (a && b) (x ∷ n) n
  kept_one p q x l m n e true b qx px = (λ i. cond (px i) (x ∷ e i) (e i))
  kept_one p q x l m n e false b qx px = e

  -- two filters are one
  pub filter_twice : (p q r : A → Bool) (l : List A) → ((x : A) → (q x && p x) ≡ r x) → filter p (filter q l) ≡ filter r l
  filter_twice p q r [] h = refl
  filter_twice p q r (x ∷ l) h = kept_one p q x (filter q l) l (filter r l) (filter_twice p q r l h) (q x) (p x) refl refl ∙ ap (λ b. cond b (x ∷ filter r l) (filter r l)) (h x)

  pub filter_all : (p : A → Bool) (l : List A) → ((x : A) → Member x l → p x ≡ true) → filter p l ≡ l
  filter_all p [] h = refl
  filter_all p (x ∷ l) h = λ i. cond (h x (inl refl) i) (x ∷ filter_all p l (λ y m. h y (inr m)) i) (filter_all p l (λ y m. h y (inr m)) i)

  pub filter_none : (p : A → Bool) (l : List A) → ((x : A) → Member x l → p x ≡ false) → filter p l ≡ []
  filter_none p [] h = refl
  filter_none p (x ∷ l) h = λ i. cond (h x (inl refl) i) (x ∷ filter_none p l (λ y m. h y (inr m)) i) (filter_none p l (λ y m. h y (inr m)) i)

  pub filter_same : (p q : A → Bool) (l : List A) → ((x : A) → Member x l → p x ≡ q x) → filter p l ≡ filter q l
  filter_same p q [] h = refl
  filter_same p q (x ∷ l) h = λ i. cond (h x (inl refl) i) (x ∷ filter_same p q l (λ y m. h y (inr m)) i) (filter_same p q l (λ y m. h y (inr m)) i)

-- the slots from n on, one after another
pub from_next : (s n : ℕ) → (not (ltb s n) && not (s == n)) ≡ not (ltb s (suc n))
from_next s n = ⊎_elim
    (λ (l : s < n). rw (lt-ltb s n l) (rw (lt-ltb s (suc n) (omega (arith, l))) refl))
    (λ (g : n ≤ s). rw (le-ltb s n g) (⊎_elim
    (λ (e : s ≡ n). rw (eq-eqb s n e) (rw (lt-ltb s (suc n) (omega (arith, e))) refl))
    (λ (d : s ≢ n). rw (ne_eqb s n d) (rw (le-ltb s (suc n) (⊎_elim (λ (x : s < suc n). absurd (d (omega (arith, x, g)))) (λ (x : suc n ≤ s). x) (cases_lt s (suc n)))) refl))
    (cases_eq s n)))
    (cases_lt s n)

pub from_here : (s n : ℕ) → (not (ltb s n) && (s == n)) ≡ (s == n)
from_here s n = ⊎_elim
    (λ (e : s ≡ n). rw (eq-eqb s n e) (rw (le-ltb s n (omega (arith, e))) refl))
    (λ (d : s ≢ n). rw (ne_eqb s n d) (none (not (ltb s n))))
    (cases_eq s n)
  where
    none : (b : Bool) → (b && false) ≡ false
    none true = refl
    none false = refl

-- a slot that stands nowhere is not among the list's
pub only_none : (s : ℕ) (hs : List Handle) → slot_times s hs ≡ 0 → only s hs ≡ []
only_none s hs e = filter_none (λ (h : Handle). h.slot == s) hs (λ x m. ne_eqb x.slot s (λ q. let a = member_times x hs m in let b = ap (λ k. slot_times k hs) q in omega (arith, a, b, e)))

pub removed_none : (s : ℕ) (hs : List Handle) → slot_times s hs ≡ 0 → removed s hs ≡ hs
removed_none s hs e = filter_all (λ (h : Handle). not (h.slot == s)) hs (λ x m. ap not (ne_eqb x.slot s (λ q. let a = member_times x hs m in let b = ap (λ k. slot_times k hs) q in omega (arith, a, b, e))))

only_here : (s : ℕ) (h x : Handle) (hs : List Handle) → x.slot ≡ s → (h ≡ x) → slot_times s hs ≡ 0 → only s (h ∷ hs) ≡ x ∷ []
only_here s h x hs is e none = λ i. cond (eq-eqb h.slot s (ap (λ (k : Handle). k.slot) e ∙ is) i) (e i ∷ only_none s hs none i) (only s hs)

-- a slot that stands once is the only one
pub only_one : (x : Handle) (hs : List Handle) → IsDistinct hs → Member x hs → only x.slot hs ≡ x ∷ []
only_one x [] d m = absurd m
only_one x (h ∷ hs) d m =
    let c : (s : ℕ) → slot_times s (h ∷ hs) ≡ bit (h.slot == s) + slot_times s hs = λ s. sum_by-cons (λ (k : Handle). cond (k.slot == s) 1 0) h hs in
    ⊎_elim
    (λ (e : h ≡ x). let t : bit (h.slot == x.slot) ≡ 1 = ap bit (eq-eqb h.slot x.slot (ap (λ (k : Handle). k.slot) e)) in let o = d x.slot in let k = c x.slot in only_here x.slot h x hs refl e (omega (arith, t, o, k)))
    (λ (r : Member x hs).
    let a = member_times x hs r in
    let n : h.slot ≢ x.slot = λ q. let t : bit (h.slot == x.slot) ≡ 1 = ap bit (eq-eqb h.slot x.slot q) in let o = d x.slot in let k = c x.slot in omega (arith, t, o, k, a) in
    ap (λ b. cond b (h ∷ only x.slot hs) (only x.slot hs)) (ne_eqb h.slot x.slot n) ∙ only_one x hs (λ s. let o = d s in let k = c s in omega (arith, o, k)) r)
    m

head_of : (x y : Handle) → x ∷ [] ≡ y ∷ [] → x ≡ y
head_of x y e = cc

-- where no slot stands twice, a slot names its handle
pub same_slot : (hs : List Handle) (x y : Handle) → IsDistinct hs → Member x hs → Member y hs → x.slot ≡ y.slot → x ≡ y
same_slot hs x y d mx my e = head_of x y (sym (only_one x hs d mx) ∙ (ap (λ s. only s hs) e ∙ only_one y hs d my))

module _ {A : Type 0} (of : A → Handle) where
  filtered_one : (s : ℕ) (t : A) (ts : List A) → map of (filter (λ x. not ((of x).slot == s)) ts) ≡ removed s (map of ts) → (b : Bool) → ((of t).slot == s) ≡ b
      → map of (cond (not b) (t ∷ filter (λ x. not ((of x).slot == s)) ts) (filter (λ x. not ((of x).slot == s)) ts)) ≡ cond (not b) (of t ∷ removed s (map of ts)) (removed s (map of ts))
  filtered_one s t ts r true e = r
  filtered_one s t ts r false e = ap (λ l. of t ∷ l) r

  -- the handles of what is left without a slot
  pub filtered : (s : ℕ) (ts : List A) → map of (filter (λ x. not ((of x).slot == s)) ts) ≡ removed s (map of ts)
  filtered s [] = refl
  filtered s (t ∷ ts) = filtered_one s t ts (filtered s ts) ((of t).slot == s) refl

-- the slots from n on
abbrev pub held_from : ℕ → Handle → Bool
held_from n h = not (ltb h.slot n)
