-- What looking leaves.
use Rattle.std.proofs.Common.{◌≡◌, ℕ, ◌+◌, sym, subst, refl, ap, arith}
use Rattle.psac_ops.specs.declared.plain.Handle.{Handle}
use Rattle.psac_ops.specs.Value.{Value}
use Rattle.psac_values.specs.declared.view.ValueView.{ValueView}
use Rattle.psac_trace.specs.Rights.{Sees}
use Rattle.psac_trace.specs.Asking.{Looked, looked_by}

pub looked_same : (v : ValueView) → Looked v v
looked_same v = (v.looks, refl)

pub looked_is : (v u : ValueView) (n : ℕ) → u ≡ looked_by n v → Looked v u
looked_is v u n e = (v.looks + n, e)

pub looked_none : (v : ValueView) → v ≡ looked_by 0 v
looked_none v = let e : v.looks ≡ v.looks + 0 = omega arith in ap (λ (n : ℕ). record v { looks = n }) e

pub looked_more : (v : ValueView) (n : ℕ) → looked_by 1 (looked_by n v) ≡ looked_by (n + 1) v
looked_more v n = let e : (v.looks + n) + 1 ≡ v.looks + (n + 1) = omega arith in ap (λ (k : ℕ). record v { looks = k }) e

-- what is known doesn't depend on the looks
pub sees_looked : (v u : ValueView) (m : Handle) (x : Value Handle) → Looked v u → Sees v m x → Sees u m x
sees_looked v u m x l s = subst (λ z. Sees z m x) (sym l.1) s
