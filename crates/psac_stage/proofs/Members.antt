-- What stands in a list, by how often it does.
use Rattle.std.proofs.Common.{◌≡◌, ℕ, ◌<◌, ◌==◌, Bool, true, cond, List, [], ◌∷◌, refl, ap, ◌∙◌, inl, inr, arith}
use Rattle.std.specs.Prelude.{count_by}
use Rattle.std.proofs.lemmas.List.Sums.{sum_by-cons}
use Rattle.psac_slots.specs.Handles.{Member}
use Rattle.psac_values.specs.declared.view.OwnedView.{OwnedView}
use Rattle.psac_laws.proofs.Places.{nat_is, test_or}
use Rattle.psac_stage.specs.Holding.{entries}

-- what is counted stands there
pub counted_in : {A : Type 0} (p : A → Bool) (xs : List A) → 0 < count_by p xs → (x : A) × Member x xs × (p x ≡ true)
counted_in p [] h = absurd (omega arith)
counted_in p (x ∷ xs) h =
    elim (test_or (p x)) [
      | inl t ↦ (x, inl refl, t)
      | inr t ↦
          (let c = sum_by-cons (λ y. cond (p y) 1 0) x xs in
          let z : ◌≡◌ {A = ℕ} (cond (p x) 1 0) 0 = ap (λ b. cond b 1 0) t in
          let r = counted_in p xs (omega (arith, c, z, h)) in
          (r.0, inr r.1, r.2))
    ]

pub in_counted : {A : Type 0} (p : A → Bool) (xs : List A) (x : A) → Member x xs → p x ≡ true → 0 < count_by p xs
in_counted p [] x i t = absurd i
in_counted p (y ∷ xs) x (inl e) t =
    let c = sum_by-cons (λ z. cond (p z) 1 0) y xs in
    let o : ◌≡◌ {A = ℕ} (cond (p y) 1 0) 1 = ap (λ z. cond (p z) 1 0) e ∙ ap (λ b. cond b 1 0) t in
    omega (arith, c, o)
in_counted p (y ∷ xs) x (inr i) t =
    let c = sum_by-cons (λ z. cond (p z) 1 0) y xs in
    let r = in_counted p xs x i t in
    omega (arith, c, r)

pub entry_of : (s : ℕ) (mine : List OwnedView) → entries s mine ≡ 1 → (o : OwnedView) × Member o mine × (o.of.slot ≡ s)
entry_of s mine h =
    let r = counted_in (λ (o : OwnedView). o.of.slot == s) mine (omega (arith, h)) in
    (r.0, r.1, nat_is r.0.of.slot s r.2)
