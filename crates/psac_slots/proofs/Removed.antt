-- Lists of handles from which a slot is taken, and words of handles.
use Rattle.psac_slots.proofs.Terms.{◌≡◌, ◌≢◌, ℕ, zero, suc, ◌+◌, ◌/◌, ◌%◌, ◌<◌, ◌≤◌, List, [], ◌∷◌, length, Bool, true, false, cond, ltb, refl, sym, ap, ◌∙◌, inl, inr, ⊎_elim, arith, length-append, ◌==◌, not, All, sum_by-cons, sum_by_push, eq-eqb, eqb-true, ne_eqb, le-ltb, mod-mul-add, div-mul-add, All-push, some, get_elem?, Handle, Member, word_of, IsHandle, fresh, slot_times, removed, once_below, entry}
use Rattle.psac_slots.proofs.Sums.{bit, once_below_more}

pub member_times : (x : Handle) (hs : List Handle) → Member x hs → 1 ≤ slot_times x.slot hs
member_times x [] m = absurd m
member_times x (h ∷ hs) m =
    let c = sum_by-cons (λ (y : Handle). cond (y.slot == x.slot) 1 0) h hs in
    ⊎_elim
    (λ (e : h ≡ x). let t : bit (h.slot == x.slot) ≡ 1 = ap bit (eq-eqb h.slot x.slot (ap (λ (y : Handle). y.slot) e)) in omega (arith, c, t))
    (λ r. let q = member_times x hs r in omega (arith, c, q))
    m

gone_one : (s : ℕ) (h : Handle) (hs : List Handle) → slot_times s (removed s hs) ≡ 0 → (b : Bool) → (h.slot == s) ≡ b → slot_times s (cond (not b) (h ∷ removed s hs) (removed s hs)) ≡ 0
gone_one s h hs r true e = r
gone_one s h hs r false e = let c = sum_by-cons (λ (y : Handle). cond (y.slot == s) 1 0) h (removed s hs) in let t : bit (h.slot == s) ≡ 0 = ap bit e in omega (arith, c, t, r)

pub removed_gone : (s : ℕ) (hs : List Handle) → slot_times s (removed s hs) ≡ 0
removed_gone s [] = refl
removed_gone s (h ∷ hs) = gone_one s h hs (removed_gone s hs) (h.slot == s) refl

other_one : (z s : ℕ) (h : Handle) (hs : List Handle) → z ≢ s → slot_times z (removed s hs) ≡ slot_times z hs → (b : Bool) → (h.slot == s) ≡ b → slot_times z (cond (not b) (h ∷ removed s hs) (removed s hs)) ≡ slot_times z (h ∷ hs)
other_one z s h hs n r true e = let c = sum_by-cons (λ (y : Handle). cond (y.slot == z) 1 0) h hs in
    let t : bit (h.slot == z) ≡ 0 = ap bit (ne_eqb h.slot z (λ q. n (sym q ∙ eqb-true h.slot s e))) in omega (arith, c, t, r)
other_one z s h hs n r false e = let c = sum_by-cons (λ (y : Handle). cond (y.slot == z) 1 0) h hs in let d = sum_by-cons (λ (y : Handle). cond (y.slot == z) 1 0) h (removed s hs) in omega (arith, c, d, r)

pub removed_else : (z s : ℕ) (hs : List Handle) → z ≢ s → slot_times z (removed s hs) ≡ slot_times z hs
removed_else z s [] n = refl
removed_else z s (h ∷ hs) n = other_one z s h hs n (removed_else z s hs n) (h.slot == s) refl

length_one : (s : ℕ) (h : Handle) (hs : List Handle) → length hs ≡ slot_times s hs + length (removed s hs) → (b : Bool) → (h.slot == s) ≡ b → suc (length hs) ≡ slot_times s (h ∷ hs) + length (cond (not b) (h ∷ removed s hs) (removed s hs))
length_one s h hs r true e = let c = sum_by-cons (λ (y : Handle). cond (y.slot == s) 1 0) h hs in let t : bit (h.slot == s) ≡ 1 = ap bit e in omega (arith, c, t, r)
length_one s h hs r false e = let c = sum_by-cons (λ (y : Handle). cond (y.slot == s) 1 0) h hs in let t : bit (h.slot == s) ≡ 0 = ap bit e in omega (arith, c, t, r)

pub removed_length : (s : ℕ) (hs : List Handle) → length hs ≡ slot_times s hs + length (removed s hs)
removed_length s [] = refl
removed_length s (h ∷ hs) = length_one s h hs (removed_length s hs) (h.slot == s) refl

some_at : (list : List Handle) (k : ℕ) → k < length list → (h : Handle) × (get_elem? list k ≡ some h) × (entry list k ≡ h ∷ [])
some_at [] k l = absurd (omega arith)
some_at (x ∷ list) zero l = (x, refl, refl)
some_at (x ∷ list) (suc k) l = some_at list k (omega arith)

pub decoded : (h : Handle) (n : ℕ) → IsHandle h → n ≡ word_of h → h ≡ record { slot = n % 4294967296; generation = n / 4294967296 }
decoded h n fits is = λ i. record {
  slot = sym (ap (λ (k : ℕ). k % 4294967296) is ∙ mod-mul-add h.generation 4294967296 h.slot fits.0) i;
  generation = sym (ap (λ (k : ℕ). k / 4294967296) is ∙ div-mul-add h.generation 4294967296 h.slot fits.0) i;
}

-- two handles with one word are one
pub one_word : (g h : Handle) → IsHandle g → IsHandle h → word_of g ≡ word_of h → g ≡ h
one_word g h fg fh e = decoded g (word_of g) fg refl ∙ sym (decoded h (word_of g) fh e)

-- what was loaded is the entry
pub claimed_entry : (list : List Handle) (k word : ℕ) → k < length list → ((h : Handle) → get_elem? list k ≡ some h → (word ≡ word_of h) × IsHandle h) → entry list k ≡ record { slot = word % 4294967296; generation = word / 4294967296 } ∷ []
claimed_entry list k word l read = let h = some_at list k l in let r = read h.0 h.1 in h.2 ∙ ap (λ (x : Handle). x ∷ []) (decoded h.0 word r.1 r.0)

pub at_most_once : (k n : ℕ) → once_below k n ≤ 1
at_most_once k n = below (ltb k n)
  where
    below : (b : Bool) → cond b 1 0 ≤ 1
    below true = omega arith
    below false = omega arith

pub length-fresh : (n : ℕ) → length (fresh n) ≡ n
length-fresh zero = refl
length-fresh (suc n) = omega (arith, length-append (fresh n) (record { slot = n; generation = 1 } ∷ []), length-fresh n)

pub sized-fresh : (n : ℕ) → n ≤ 4294967296 → All IsHandle (fresh n)
sized-fresh zero l = λ k d b. absurd (omega arith)
sized-fresh (suc n) l = All-push IsHandle (fresh n) (record { slot = n; generation = 1 }) (sized-fresh n (omega arith)) (omega arith, omega arith)

pub slots-fresh : (n s : ℕ) → slot_times s (fresh n) ≡ once_below s n
slots-fresh zero s = sym (ap (λ (b : Bool). cond b 1 0) (le-ltb s 0 (omega arith)))
slots-fresh (suc n) s = let p = sum_by_push (λ (h : Handle). cond (h.slot == s) 1 0) (fresh n) (record { slot = n; generation = 1 }) in let o = once_below_more s n in omega (arith, p, o, slots-fresh n s)

found_one : (s : ℕ) (h : Handle) (hs : List Handle) → (0 < slot_times s hs → (x : Handle) × Member x hs × (x.slot ≡ s)) → (b : Bool) → (h.slot == s) ≡ b → 0 < slot_times s (h ∷ hs) → (x : Handle) × Member x (h ∷ hs) × (x.slot ≡ s)
found_one s h hs more true e p = (h, inl refl, eqb-true h.slot s e)
found_one s h hs more false e p = let c = sum_by-cons (λ (y : Handle). cond (y.slot == s) 1 0) h hs in let t : bit (h.slot == s) ≡ 0 = ap bit e in let q = more (omega (arith, c, t, p)) in (q.0, inr q.1, q.2)

-- a slot that stands in a list is one of its entries'
pub found : (s : ℕ) (hs : List Handle) → 0 < slot_times s hs → (x : Handle) × Member x hs × (x.slot ≡ s)
found s [] p = absurd (omega (arith, p))
found s (h ∷ hs) p = found_one s h hs (λ q. found s hs q) (h.slot == s) refl p
