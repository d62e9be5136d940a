-- What a live pass of a table finds in the words of its claims.
use Rattle.psac_slots.proofs.Terms.{◌≡◌, ℕ, zero, suc, ◌+◌, ◌<◌, List, [], ◌∷◌, ◌++◌, sym, ap, ◌∙◌, subst, arith, Option, Some, true, slice_index, IfSome, All, some, some-ne-none, some-injective, get_elem?, ClaimView, Handle, Member, word_of, IsHandle, IsDistinct, later, slot_times, place, Claimed, IsSole, Accounted, rewound}
use Rattle.psac_slots.proofs.Sums.{sum_at}
use Rattle.psac_slots.proofs.Removed.{at_most_once, one_word}
use Rattle.psac_slots.proofs.Rewinds.{accounted, gives_at}

pub slice_at : (words : List ℕ) (i w : ℕ) → get_elem? words i ≡ some w → slice_index words i ≡ w
slice_at [] i w e = absurd (some-ne-none w (sym e))
slice_at (x ∷ xs) zero w e = some-injective x w e
slice_at (x ∷ xs) (suc i) w e = slice_at xs i w e

pub sole_parts : (o : Option ℕ) (c k : ℕ) (u : ClaimView) → o ≡ Some k → IfSome o (λ n. (n ≡ c) × (u.live ≡ true) × (u.branch ≡ [])) → (k ≡ c) × (u.live ≡ true) × (u.branch ≡ [])
sole_parts o c k u e h = subst (λ z. IfSome z (λ n. (n ≡ c) × (u.live ≡ true) × (u.branch ≡ []))) e h

at_all : (l : List Handle) (k : ℕ) (x : Handle) → get_elem? l k ≡ some x → All IsHandle l → IsHandle x
at_all [] k x e a = absurd (some-ne-none x (sym e))
at_all (y ∷ l) zero x e a = subst IsHandle (some-injective y x e) (a 0 y (omega arith))
at_all (y ∷ l) (suc k) x e a = at_all l k x e (λ j d b. a (suc j) d (omega arith))

last_all : (l : List Handle) (x : Handle) → All IsHandle (l ++ x ∷ []) → IsHandle x
last_all [] x a = a 0 x (omega arith)
last_all (y ∷ l) x a = last_all l x (λ j d b. a (suc j) d (omega arith))

-- what the word n at the place i tells
pub record Told (v : ClaimView) (i n : ℕ) : Type 0 where
  pub entry : (k : ℕ) → i ≡ place v.count (v.head + k) → (h : Handle) → get_elem? v.list k ≡ some h → (n ≡ word_of h) × IsHandle h
  pub counter : (c : ℕ) → i ≡ 0 → v.counter ≡ Some c → n ≡ c
  pub once : IsDistinct v.held
  -- to a sole pass, each slot that isn't still to be drawn is its own
  pub whole : IsSole v → Accounted (rewound v)

module _ (count c head : ℕ) (list : List Handle) (words : List ℕ) (views : List ClaimView) (h : Claimed count c head list words views) (id : ℕ) (v : ClaimView) (at : get_elem? views id ≡ some v) where
  pub tells : v.live ≡ true → (i : ℕ) → Told v i (slice_index words i)
  tells live i =
      let f = h.each id v at in
      record {
        entry = λ k is x e.
            let there : get_elem? list k ≡ some x = ap (λ (l : List Handle). get_elem? l k) (sym (f.list_is live)) ∙ e in
            let spot : i ≡ place count (head + k) = is ∙ (λ j. place (f.count_is live j) (f.head_is live j + k)) in
            (slice_at words i (word_of x) (ap (get_elem? words) spot ∙ h.stored k x there), at_all list k x there h.sized);
        counter = λ k is e. slice_at words i k (ap (get_elem? words) is ∙ (h.counter_is ∙ ap some (sym (sole_parts v.counter c k v e f.sole).0)));
        once = λ x. let a = sum_at (λ (u : ClaimView). slot_times x u.held) views id v at in let b = at_most_once x count in let o = h.slots x in omega (arith, a, b, o);
        whole = λ knows. let p = sole_parts v.counter c knows.0 v knows.1 f.sole in accounted count c head list words views h id v at p.1 p.2 (knows.1 ∙ ap Some p.0);
      }

  -- two slots that could go back with the same word are one
  pub one_given : v.live ≡ true → v.branch ≡ [] → c ≡ 0 → (x y : Handle) → Member x v.held → Member y v.held → x.generation < 4294967295 → y.generation < 4294967295 → word_of (later x) ≡ word_of (later y) → later x ≡ later y
  one_given live empty none x y mx my lx ly =
      let sized : (z : Handle) → Member z v.held → z.generation < 4294967295 → IsHandle (later z) = λ z m l. last_all list (later z) (gives_at count c head list words views h id v at live empty none z m l).sized in
      one_word (later x) (later y) (sized x mx lx) (sized y my ly)
