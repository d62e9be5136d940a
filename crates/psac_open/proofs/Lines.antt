-- The lines of refusals.
use Rattle.std.proofs.Common.{◌≡◌, ◌⊎◌, inl, inr, ℕ, List, [], Option, Some, None, Result, Ok, Err, Vec, Global, IfOk, MatchResult, IfSome, MatchOption, subst, sym, refl}
use Rattle.psac_base.specs.declared.fault.NoMemory.{NoMemory}
use Rattle.psac_syntax.specs.declared.program.Program.{Program}
use Rattle.psac_grammar.specs.Language.{IsProgram}
use Rattle.psac_model.specs.Series.{Fault, meets}
use Rattle.psac_report.specs.Refused.{breach_line}
use Rattle.psac_check.specs.declared.fault.CheckFault.{CheckFault}
use Rattle.psac_check.specs.declared.fault.CheckFault.TheVariants as faults
use Rattle.psac_check.specs.Faults.{fault_of}
use Rattle.psac_open.specs.declared.refusal.Refusal.{Refusal}
use Rattle.psac_open.specs.declared.refusal.Refusal.TheVariants as refusal
use Rattle.psac_lang.specs.declared.fault.ParseFault.{ParseFault}
use Rattle.psac_lang.specs.declared.fault.ParseFault.TheVariants as parse_faults
use Rattle.psac_open.specs.Accept.{IsNone, MeansLine, Refuses, Breach}

-- what the parser answers to a program
abbrev Only : List ℕ → Result Program ParseFault → Type 0
Only bytes r = (p : Program) → IsProgram bytes p → (r ≡ Ok p) ⊎ (r ≡ Err parse_faults.NoMemory)

-- where the parser names a fault there is no program
pub no_syntax : (bytes : List ℕ) (r : Result Program ParseFault) (line column : ℕ) → r ≡ Err (parse_faults.Syntax line column) → Only bytes r → IsNone bytes
no_syntax bytes r line column is only p program = by (only p program)
  where
    by : (r ≡ Ok p) ⊎ (r ≡ Err parse_faults.NoMemory) → ⊥
    by (inl ok) = absurd cc
    by (inr none) = absurd cc

pub no_limit : (bytes : List ℕ) (r : Result Program ParseFault) (which line : ℕ) → r ≡ Err (parse_faults.Limit which line) → Only bytes r → IsNone bytes
no_limit bytes r which line is only p program = by (only p program)
  where
    by : (r ≡ Ok p) ⊎ (r ≡ Err parse_faults.NoMemory) → ⊥
    by (inl ok) = absurd cc
    by (inr none) = absurd cc

pub line_means : (P : List ℕ → Type 0) (text : List ℕ) (line : Result (Vec ℕ Global) NoMemory) (r : Refusal)
    → IfOk line (λ t. t.items ≡ text) → MatchResult line (λ t. r ≡ refusal.Line t) (λ e. r ≡ refusal.NoMemory) → P text → MeansLine P r
line_means P text (Ok t) r is told means = rw told (subst P (sym is) means)
line_means P text (Err e) r is told means = rw told tt

-- a fault that isn't want of memory is one of the rule
is_fault : (f : CheckFault) → (f ≡ faults.NoMemory → ⊥) → (first : Fault) × (fault_of f ≡ Some first)
is_fault (faults.UnknownName line) other = (_, refl)
is_fault (faults.Rebound line) other = (_, refl)
is_fault (faults.ReadBeforeWrite line) other = (_, refl)
is_fault (faults.WrittenTwice line) other = (_, refl)
is_fault (faults.NotWritten line) other = (_, refl)
is_fault (faults.BranchesDiffer line) other = (_, refl)
is_fault (faults.WrittenInBothSides line) other = (_, refl)
is_fault (faults.UnknownFunction line) other = (_, refl)
is_fault (faults.Arity line) other = (_, refl)
is_fault (faults.NoMain line) other = (_, refl)
is_fault (faults.WrongSort line) other = (_, refl)
is_fault faults.NoMemory other = absurd (other refl)

pub breached_means : (fault : CheckFault) (line : Result (Vec ℕ Global) NoMemory) (r : Refusal) → (fault ≡ faults.NoMemory → ⊥)
    → IfOk line (λ t. MatchOption (fault_of fault) (t.items ≡ []) (λ first. t.items ≡ breach_line first.0 first.1))
    → MatchResult line (λ t. r ≡ refusal.Line t) (λ e. r ≡ refusal.NoMemory)
    → MatchOption (fault_of fault) (r ≡ refusal.NoMemory) (λ first. MeansLine (λ text. text ≡ breach_line first.0 first.1) r)
breached_means fault line r other text told =
    let first = is_fault fault other in
    rw first.1 (line_means (λ text. text ≡ breach_line first.0.0 first.0.1) (breach_line first.0.0 first.0.1) line r (rw first.1 at text) told refl)

by_line : (bytes : List ℕ) (p : Program) (first : Fault) (r : Refusal) → IsProgram bytes p → meets p ≡ Err first
    → MeansLine (λ text. text ≡ breach_line first.0 first.1) r → MeansLine (Refuses bytes) r
by_line bytes p first (refusal.Line text) is at line = Breach p first is at line
by_line bytes p first refusal.NoMemory is at line = tt

pub breach_means : (bytes : List ℕ) (p : Program) (found : Option Fault) (r : Refusal) → IsProgram bytes p → IfSome found (λ first. meets p ≡ Err first)
    → MatchOption found (r ≡ refusal.NoMemory) (λ first. MeansLine (λ text. text ≡ breach_line first.0 first.1) r) → MeansLine (Refuses bytes) r
breach_means bytes p None r is at told = rw told tt
breach_means bytes p (Some first) r is at told = by_line bytes p first r is at told
