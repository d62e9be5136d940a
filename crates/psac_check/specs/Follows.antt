-- What a call of the checker leaves, against what the series rule gives.
use Rattle.std.specs.Prelude.{◌≡◌, Result, Ok, Err, IfSome}
use Rattle.psac_model.specs.Series.{Fault, Scope}
use Rattle.psac_check.specs.declared.fault.CheckFault.{CheckFault}
use Rattle.psac_check.specs.Faults.{fault_of}

-- the rule gives this very fault, unless memory ran out
abbrev pub Fails : {A : Type 0} → CheckFault → Result A Fault → Type 0
Fails e given = IfSome (fault_of e) (λ fault. given ≡ Err fault)

-- what came back is what the rule gives
abbrev pub Gives : {X A : Type 0} → (X → A) → Result X CheckFault → Result A Fault → Type 0
Gives view (Ok x) given = given ≡ Ok (view x)
Gives view (Err e) given = Fails e given

-- a body leaves the scope as it was
abbrev pub Leaves : {X : Type 0} → Result X CheckFault → Scope → Scope → Type 0
Leaves (Ok x) before after = after ≡ before
Leaves (Err e) before after = Unit {0}
