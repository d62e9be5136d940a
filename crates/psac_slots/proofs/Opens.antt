-- The words at the start meet the rule of claims.
use Rattle.psac_slots.proofs.Terms.{◌≡◌, ℕ, zero, suc, ◌+◌, ◌%◌, ◌<◌, List, [], ◌∷◌, ◌++◌, map, Bool, true, false, true≢false, cond, refl, sym, ap, ◌∙◌, subst, arith, length-append, le-ltb, length-map, mod-eq_of_lt, some, some-ne-none, some-injective, get_elem?, at_map, at_longer, ClaimView, Handle, word_of, fresh, Fits, Claimed, first_view}
use Rattle.psac_slots.proofs.Sums.{at_less}
use Rattle.psac_slots.proofs.Removed.{length-fresh, sized-fresh, slots-fresh}

stored-fresh : (n k : ℕ) (x : Handle) (rest : List ℕ) → get_elem? (fresh n) k ≡ some x → (k < n) × (get_elem? (map word_of (fresh n) ++ rest) k ≡ some (word_of x))
stored-fresh n k x rest e = (let a = at_less (fresh n) k x e in let b = length-fresh n in omega (arith, a, b), at_longer (map word_of (fresh n)) rest k (word_of x) (at_map word_of (fresh n) k x e))

pub only : {A : Type 0} (x : A) (id : ℕ) (v : A) → get_elem? (x ∷ []) id ≡ some v → (id ≡ 0) × (x ≡ v)
only x zero v e = (refl, some-injective x v e)
only x (suc id) v e = absurd (some-ne-none v (sym e))

-- the counter at 0, the list of all slots, and then any words
pub opens : (count : ℕ) (rest : List ℕ) → count < 4294967296 → Claimed count 0 0 (fresh count) (0 ∷ (map word_of (fresh count) ++ rest)) (first_view count ∷ [])
opens count rest fits =
    let one : (id : ℕ) (v : ClaimView) → get_elem? (first_view count ∷ []) id ≡ some v → (id ≡ 0) × (first_view count ≡ v) = only (first_view count) in
    record {
      long = (let a = length-append (map word_of (fresh count)) rest in let b = length-map (fresh count) word_of in let c = length-fresh count in omega (arith, a, b, c));
      head_low = omega arith;
      counter_is = refl;
      stored = λ k x e. let r = stored-fresh count k x rest e in ap (λ (i : ℕ). get_elem? (0 ∷ (map word_of (fresh count) ++ rest)) (suc i)) ((let z : 0 + k ≡ k = omega arith in ap (λ (i : ℕ). i % count) z) ∙ mod-eq_of_lt r.0) ∙ r.1;
      sized = sized-fresh count (omega arith);
      room = (let l = length-fresh count in omega (arith, l), fits);
      weights = refl;
      over = omega arith;
      drawn = λ k. sym (ap (λ (b : Bool). cond b 1 0) (le-ltb k 0 (omega arith)));
      slots = λ s. let e = slots-fresh count s in omega (arith, e);
      all = let e = length-fresh count in omega (arith, e);
      each = λ id v e. subst (Fits count 0 0 (fresh count)) (one id v e).1 (record { over = omega arith; count_is = λ _. refl; head_is = λ _. refl; list_is = λ _. refl; short = λ _. omega arith; gone = λ (z : true ≡ false). absurd (true≢false z); sole = (refl, refl, refl) });
      apart = λ i j v w ei ej n lv lw. absurd (n ((one i v ei).0 ∙ sym (one j w ej).0));
    }
