-- What the call that runs main's body told, by its result.
use Rattle.std.proofs.Common.{◌≡◌, List, Ok, Err, Result, refl, sym, subst}
use Rattle.psac_ops.specs.declared.plain.TextId.{TextId}
use Rattle.psac_syntax.specs.declared.program.Func.{Func}
use Rattle.psac_inputs.specs.Grid.{Grid}
use Rattle.psac_fork.specs.declared.tables.Pass.{Pass}
use Rattle.psac_fork.specs.declared.tables.Tables.{Tables}
use Rattle.psac_record.specs.declared.record.Record.{Record}
use Rattle.psac_record.specs.Kept.{Kept}
use Rattle.psac_record.specs.Shown.{kept_of}
use Rattle.psac_trace.specs.declared.halt.Halt.{Halt}
use Rattle.psac_trace.specs.declared.halt.Halt.TheVariants as halt
use Rattle.psac_trace.specs.Told.{Ended, Good, ended_of, halted}
use Rattle.psac_engine.specs.Answering.{answer_to}
use Rattle.psac_engine.specs.Tracing.{MainBegins, MainLeaves}
use Rattle.psac_engine.proofs.Ends.{answer_of}

module _ (g : Grid) (texts : List TextId) (funcs all : List Func) (main : Func) (t : Tables) (p : Pass) (same : funcs ≡ all) where
  pub begins_call : MainBegins g texts all main t p → MainBegins g texts funcs main t p
  begins_call b = subst (λ fs. MainBegins g texts fs main t p) (sym same) b

  module _ (q : Pass) (k : Kept) where
    pub leaves_call : (e : Ended Kept) → MainLeaves g texts funcs main t p q e → MainLeaves g texts all main t p q e
    leaves_call e l = subst (λ fs. MainLeaves g texts fs main t p q e) same l

    pub leaves_ok : (told : Result Record Halt) (r : Record) → told ≡ Ok r → MainLeaves g texts funcs main t p q (ended_of k told) → MainLeaves g texts all main t p q (Good (kept_of r))
    leaves_ok told r is l = leaves_call (Good (kept_of r)) (subst (λ x. MainLeaves g texts funcs main t p q (ended_of k x)) is l)

    pub leaves_err : (told : Result Record Halt) (h : Halt) → told ≡ Err h → MainLeaves g texts funcs main t p q (ended_of k told) → MainLeaves g texts all main t p q (halted k h)
    leaves_err told h is l = leaves_call (halted k h) (subst (λ x. MainLeaves g texts funcs main t p q (ended_of k x)) is l)

pub answer_halted : (k : Kept) (h : Halt) → answer_of (halted k h) ≡ Err (answer_to h)
answer_halted k (halt.Fault why line) = refl
answer_halted k (halt.Full which at) = refl
answer_halted k halt.NoMemory = refl
