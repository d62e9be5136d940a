-- What follows a step, where the step passes and where it fails.
use Rattle.std.proofs.Common.{◌≡◌, ℕ, Option, Some, None, Result, Ok, Err, IfSome, refl, ap, sym, ◌∙◌, subst}
use Rattle.psac_ops.specs.Table.{◌>>=◌}
use Rattle.psac_model.specs.Series.{Breach, Fault, so}
use Rattle.psac_check.specs.declared.fault.CheckFault.{CheckFault}
use Rattle.psac_check.specs.Faults.{fault_of}
use Rattle.psac_check.specs.Follows.{Fails}

pub so_passes : {A : Type 0} (wrong : Option Breach) (line : ℕ) (done : Unit {0}) (given : Result A Fault) → so wrong line (Ok tt) ≡ Ok done → so wrong line given ≡ given
so_passes None line done given h = refl
so_passes (Some b) line done given h = cc

fault_stays : {A : Type 0} (o : Option Fault) (wrong : Option Breach) (line : ℕ) (given : Result A Fault) → IfSome o (λ f. so {A = Unit {0}} wrong line (Ok tt) ≡ Err f) → IfSome o (λ f. so wrong line given ≡ Err f)
fault_stays None wrong line given h = h
fault_stays (Some f) None line given h = absurd cc
fault_stays {A} (Some f) (Some b) line given h =
    let e : Err (b, line) ≡ Err f = h in
    let i : (b, line) ≡ f = cc in
    ap (λ z. Err z) i

-- a fault that was found is the first one, whatever follows
pub so_fails : {A : Type 0} (e : CheckFault) (wrong : Option Breach) (line : ℕ) (given : Result A Fault) → Fails {A = Unit {0}} e (so wrong line (Ok tt)) → Fails e (so wrong line given)
so_fails e wrong line given h = fault_stays (fault_of e) wrong line given h

fault_goes : {A B : Type 0} (o : Option Fault) (r : Result A Fault) (more : A → Result B Fault) → IfSome o (λ f. r ≡ Err f) → IfSome o (λ f. (r >>= more) ≡ Err f)
fault_goes None r more h = h
fault_goes (Some f) r more h = ap (λ z. z >>= more) h

pub then_fails : {A B : Type 0} (e : CheckFault) (r : Result A Fault) (more : A → Result B Fault) → Fails e r → Fails e (r >>= more)
then_fails e r more h = fault_goes (fault_of e) r more h

pub fails_same : {A : Type 0} (e : CheckFault) (r s : Result A Fault) → r ≡ s → Fails e r → Fails e s
fails_same e r s p h = subst (λ z. Fails e z) p h
