-- What an environment with one more name binds.
use Rattle.std.proofs.Common.{◌≡◌, ℕ, ◌==◌, true, false, if◌then◌else◌, [], ◌∷◌, Some, refl, ap, sym, ◌∙◌, subst, inl, inr}
use Rattle.psac_ops.specs.declared.plain.Handle.{Handle}
use Rattle.psac_ops.specs.Value.{Value}
use Rattle.psac_model.specs.Names.{Env, bound, bind}
use Rattle.psac_laws.proofs.Places.{nat_is, test_or}

pub bound_push : (x y : ℕ) (v : Value Handle) (env : Env Handle) → bound y (bind x v env) ≡ (if x == y then Some v else bound y env)
bound_push x y v [] = refl
bound_push x y v (b ∷ more) =
    elim (test_or (b.0 == x)) [
      | inl t ↦
          elim (test_or (x == y)) [
            | inl q ↦ rw (t, q) refl
            | inr q ↦ (let d : (b.0 == y) ≡ false = subst (λ z. (z == y) ≡ false) (sym (nat_is b.0 x t)) q in rw (t, q, d) refl)
          ]
      | inr t ↦
          elim (test_or (x == y)) [
            | inl q ↦
                (let d : (b.0 == y) ≡ false = subst (λ z. (b.0 == z) ≡ false) (nat_is x y q) t in
                rw (t, d) (bound_push x y v more))
            | inr q ↦ rw (t, q) (ap (λ z. if b.0 == y then Some b.1 else z) (bound_push x y v more ∙ rw q refl))
          ]
    ]

pub bound_old : (x y : ℕ) (v : Value Handle) (env : Env Handle) → (x == y) ≡ false → bound y (bind x v env) ≡ bound y env
bound_old x y v env e = bound_push x y v env ∙ rw e refl

pub bound_new : (x y : ℕ) (v : Value Handle) (env : Env Handle) → (x == y) ≡ true → bound y (bind x v env) ≡ Some v
bound_new x y v env e = bound_push x y v env ∙ rw e refl
