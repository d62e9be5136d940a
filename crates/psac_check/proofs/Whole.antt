-- The rounds of the series rule.
use Rattle.std.proofs.Common.{◌≡◌, ℕ, suc, ◌==◌, Bool, true, false, List, [], ◌∷◌, length, Option, Some, None, Result, Ok, Err, IfSome, IsSome, refl, sym, ◌∙◌, arith, rules}
use Rattle.std.proofs.lemmas.Bool.Decides.{nat_tests}
use Rattle.psac_ops.specs.Table.{◌>>=◌}
use Rattle.psac_syntax.specs.declared.program.Func.{Func}
use Rattle.psac_syntax.specs.declared.program.Program.{Program}
use Rattle.psac_model.specs.Fresh.{main_of}
use Rattle.psac_model.specs.Series.{Breach, Fault, NoMain, unless, so, headers, main_meets, bodies, meets}
use Rattle.psac_check.specs.declared.fault.CheckFault.{CheckFault}
use Rattle.psac_check.specs.Follows.{Fails}
use Rattle.psac_check.proofs.Follow.{then_fails}

then_ok : {A B : Type 0} (r : Result A Fault) (more : A → Result B Fault) (b : B) → (r >>= more) ≡ Ok b → (a : A) × (r ≡ Ok a) × (more a ≡ Ok b)
then_ok (Ok a) more b h = (a, refl, h)
then_ok (Err e) more b h = absurd cc

none_long : (xs : List ℕ) → (length xs == 0) ≡ true → xs ≡ []
none_long [] h = refl
none_long (x ∷ xs) h = absurd (grind (arith, nat_tests))

-- a main that takes no values
pub record Begins (main : Option Func) : Type 0 where
  pub there : IsSome main
  pub bare : IfSome main (λ f. f.values ≡ [])

no_values : (b : Bool) (line : ℕ) (done : Unit {0}) → so (unless b NoMain) line (Ok tt) ≡ Ok done → b ≡ true
no_values true line done h = refl
no_values false line done h = absurd cc

begins : (main : Option Func) (done : Unit {0}) → main_meets main ≡ Ok done → Begins main
begins None done h = absurd cc
begins (Some f) done h =
    record { there = search rules; bare = none_long f.values (no_values (length f.values == 0) f.line done h) }

-- a program that meets the rule has a main, which takes no values
pub met_main : (p : Program) → meets p ≡ Ok tt → Begins (main_of p)
unfolding meets
met_main p h =
    let a = then_ok (headers [] p.funcs) _ tt h in
    let b = then_ok (main_meets (main_of p)) _ tt a.2 in
    begins (main_of p) b.0 b.1

-- ---- the rounds, one after another

pub headers_fail : (p : Program) (e : CheckFault) → Fails e (headers [] p.funcs) → Fails e (meets p)
unfolding meets
headers_fail p e h = then_fails e (headers [] p.funcs) _ h

pub begin_fails : (p : Program) (e : CheckFault) (named : Unit {0}) → headers [] p.funcs ≡ Ok named → Fails e (main_meets (main_of p)) → Fails e (meets p)
unfolding meets
begin_fails p e named a h = rw a (then_fails e (main_meets (main_of p)) _ h)

pub bodies_fail : (p : Program) (e : CheckFault) (named begun : Unit {0}) → headers [] p.funcs ≡ Ok named → main_meets (main_of p) ≡ Ok begun → Fails e (bodies p.funcs p.funcs) → Fails e (meets p)
unfolding meets
bodies_fail p e named begun a b h = rw (a, b) h

pub all_meet : (p : Program) (named begun done : Unit {0}) → headers [] p.funcs ≡ Ok named → main_meets (main_of p) ≡ Ok begun → bodies p.funcs p.funcs ≡ Ok done → meets p ≡ Ok tt
unfolding meets
all_meet p named begun done a b c = rw (a, b) c
