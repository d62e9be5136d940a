-- How long lists are whose sums are known.
use Rattle.std.proofs.Common.{◌≡◌, ◌≢◌, ℕ, zero, suc, ◌+◌, ◌<◌, ◌≤◌, List, [], ◌∷◌, map, length, Bool, true, false, cond, refl, sym, ap, ◌∙◌, subst, inl, inr, ⊎_elim, arith}
use Rattle.std.specs.Prelude.{sum_by, ◌==◌}
use Rattle.std.proofs.lemmas.List.{length-map}
use Rattle.std.proofs.lemmas.List.Sums.{sum_by-cons}
use Rattle.std.proofs.lemmas.Bool.{cases_eq, le-ltb, eq-eqb}
use Rattle.psac_ops.specs.declared.plain.Handle.{Handle}
use Rattle.psac_slots.specs.Handles.{slot_times, removed, once_below}
use Rattle.psac_slots.specs.Claiming.{Accounted, times}
use Rattle.psac_slots.specs.declared.view.ClaimView.{ClaimView}
use Rattle.psac_slots.proofs.Removed.{removed_length, removed_gone, removed_else}
use Rattle.psac_readers.specs.declared.view.LinkView.{LinkView}
use Rattle.psac_readers.specs.declared.view.ReadersView.{ReadersView}
use Rattle.psac_readers.specs.Chained.{named}
use Rattle.psac_readers.specs.Steps as readers
use Rattle.psac_readers.proofs.Links.{sum_map}

pub sum_ones : {A : Type 0} (xs : List A) → sum_by (λ x. 1) xs ≡ length xs
sum_ones [] = refl
sum_ones (x ∷ xs) = let c = sum_by-cons (λ y. 1) x xs in let r = sum_ones xs in omega (arith, c, r)

no_slot : (xs : List Handle) → ((s : ℕ) → slot_times s xs ≡ 0) → length xs ≡ 0
no_slot [] z = refl
no_slot (x ∷ xs) z =
    let c = sum_by-cons (λ (y : Handle). cond (y.slot == x.slot) 1 0) x xs in
    let t : ◌≡◌ {A = ℕ} (cond (x.slot == x.slot) 1 0) 1 = ap {B = ℕ} (λ b. cond b 1 0) (eq-eqb x.slot x.slot refl) in
    let n = z x.slot in
    absurd (omega (arith, c, t, n))

-- where each slot stands in both equally often, and none from n on
same_length : (n : ℕ) (xs ys : List Handle) → ((s : ℕ) → n ≤ s → slot_times s xs ≡ 0) → ((s : ℕ) → slot_times s xs ≡ slot_times s ys)
    → length xs ≡ length ys
same_length zero xs ys low h = no_slot xs (λ s. low s (omega arith)) ∙ sym (no_slot ys (λ s. sym (h s) ∙ low s (omega arith)))
same_length (suc n) xs ys low h =
    let r = same_length n (removed n xs) (removed n ys) low_still same_still in
    let a = removed_length n xs in
    let b = removed_length n ys in
    let e = h n in
    omega (arith, r, a, b, e)
  where
    low_still : (s : ℕ) → n ≤ s → slot_times s (removed n xs) ≡ 0
    low_still s l = ⊎_elim
        (λ (e : s ≡ n). subst (λ k. slot_times k (removed n xs) ≡ 0) (sym e) (removed_gone n xs))
        (λ (d : s ≢ n). removed_else s n xs d ∙ low s (beyond d))
        (cases_eq s n)
      where
        beyond : (s ≢ n) → suc n ≤ s
        beyond d = let k : s ≡ n → ⊥ = d in omega (arith, l, k)

    same_still : (s : ℕ) → slot_times s (removed n xs) ≡ slot_times s (removed n ys)
    same_still s = ⊎_elim
        (λ (e : s ≡ n). subst (λ k. slot_times k (removed n xs) ≡ slot_times k (removed n ys)) (sym e) (removed_gone n xs ∙ sym (removed_gone n ys)))
        (λ (d : s ≢ n). removed_else s n xs d ∙ h s ∙ sym (removed_else s n ys d))
        (cases_eq s n)

-- a link as a handle
as_handle : LinkView → Handle
as_handle k = record { slot = k.link; generation = 1 }

links_slots : (l : ℕ) (ks : List LinkView) → slot_times l (map as_handle ks) ≡ sum_by (named l) ks
unfolding as_handle
links_slots l ks = sum_map as_handle (λ (h : Handle). cond (h.slot == l) 1 0) ks

-- as many slots are out as the pass has links
pub links_out : (v : ReadersView) → readers.Holds v → Accounted v.claims → length v.claims.held ≡ length v.links
links_out v h a =
    same_length v.claims.count v.claims.held (map as_handle v.links) high (λ s. sym (links_slots s v.links ∙ h.held s))
    ∙ length-map v.links as_handle
  where
    high : (s : ℕ) → v.claims.count ≤ s → slot_times s v.claims.held ≡ 0
    high s l =
        let e = a.slots s in
        let z : once_below s v.claims.count ≡ 0 = ap {B = ℕ} (λ b. cond b 1 0) (le-ltb s v.claims.count l) in
        omega (arith, e, z)

-- a list in which nothing stands
pub none_in : (xs : List ℕ) → ((x : ℕ) → 0 < times x xs → ⊥) → xs ≡ []
none_in [] n = refl
none_in (x ∷ xs) n =
    let c = sum_by-cons (λ y. cond (y == x) 1 0) x xs in
    let t : ◌≡◌ {A = ℕ} (cond (x == x) 1 0) 1 = ap {B = ℕ} (λ b. cond b 1 0) (eq-eqb x x refl) in
    absurd (n x (omega (arith, c, t)))
