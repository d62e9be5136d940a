-- How often a node stands in a list.
use Rattle.psac_marks.proofs.Terms.{◌≡◌, ◌⊎◌, ℕ, ◌+◌, ◌<◌, ◌≤◌, List, [], ◌∷◌, ◌++◌, Bool, true, false, refl, ap, inl, inr, ⊎_elim, arith, cond, ◌==◌, sum_by-cons, sum_by-append, eq-eqb, eqb-true, Member, times, bit}
pub use Rattle.psac_marks.proofs.Parts.{times_in, times_out}

pub times_both : (x : ℕ) (xs ys : List ℕ) → times x (xs ++ ys) ≡ times x xs + times x ys
times_both x xs ys = sum_by-append (λ (z : ℕ). cond (z == x) 1 0) xs ys

pub times_member : (x : ℕ) (xs : List ℕ) → Member x xs → 1 ≤ times x xs
times_member x [] m = absurd m
times_member x (y ∷ ys) m =
    let c = sum_by-cons (λ (z : ℕ). cond (z == x) 1 0) y ys in
    ⊎_elim (λ (e : y ≡ x). let t : bit (y == x) ≡ 1 = ap bit (eq-eqb y x e) in omega (arith, c, t)) (λ r. let q = times_member x ys r in omega (arith, c, q)) m

found_one : (x y : ℕ) (ys : List ℕ) → (0 < times x ys → Member x ys) → (b : Bool) → (y == x) ≡ b → 0 < times x (y ∷ ys) → (y ≡ x) ⊎ Member x ys
found_one x y ys more true e p = inl (eqb-true y x e)
found_one x y ys more false e p = let c = sum_by-cons (λ (z : ℕ). cond (z == x) 1 0) y ys in let t : bit (y == x) ≡ 0 = ap bit e in inr (more (omega (arith, c, t, p)))

pub times_found : (x : ℕ) (xs : List ℕ) → 0 < times x xs → Member x xs
times_found x [] p = absurd (omega (arith, p))
times_found x (y ∷ ys) p = found_one x y ys (λ q. times_found x ys q) (y == x) refl p
