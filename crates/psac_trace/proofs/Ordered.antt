-- What a read block asks for, by what was read.
use Rattle.std.proofs.Common.{◌≡◌, ℕ, List, [], map, Option, Some, None, Result, Ok, Err, IfOk, ◌+◌, arith, ap, sym, subst}
use Rattle.psac_ops.specs.declared.plain.Handle.{Handle}
use Rattle.psac_ops.specs.Table.{◌>>=◌}
use Rattle.psac_ops.specs.Value.{Value}
use Rattle.psac_syntax.specs.declared.program.ReadItem.{ReadItem}
use Rattle.psac_syntax.specs.declared.program.Stmt.{Stmt}
use Rattle.psac_syntax.specs.declared.program.Stmt.TheOpen.{Stmt-F}
use Rattle.psac_syntax.specs.declared.program.Func.{Func}
use Rattle.psac_model.specs.Tree.{Reads}
use Rattle.psac_model.specs.Run.{Action, Block, action_of, read_of, with_reads, call_of, bound_to}
use Rattle.psac_traced.specs.Traced.{listed}
use Rattle.psac_values.specs.declared.view.ValueView.{ValueView}
use Rattle.psac_model.specs.declared.ends.FaultKind.{FaultKind}
use Rattle.psac_model.specs.Names.{Env}
use Rattle.psac_model.specs.Expression.{Setting, in_order}
use Rattle.psac_laws.proofs.Results.{ok_is, ok_then}
use Rattle.psac_plain.specs.declared.halt.Halt.{Halt}
use Rattle.psac_plain.specs.declared.halt.Halt.TheVariants as halt
use Rattle.psac_plain.specs.declared.ask.Action.{Action as Asked}
use Rattle.psac_plain.specs.Slots.{Halts, Gives}
use Rattle.psac_plain.specs.Running.{action_view}
use Rattle.psac_trace.specs.Rights.{Heap}
use Rattle.psac_trace.specs.Asking.{AllSought, Readable, looks_for}

pub asked_read : (w : Setting Handle) (funcs : List Func) (env : Env Handle) (v : ValueView) (heap : Heap) (f : Stmt-F Stmt) (line block : ℕ) (items : List ReadItem) (body : List Stmt) (rs : Reads Handle) → f ≡ Stmt-F.Read line block items body → (AllSought w env v heap items → in_order (map (read_of (listed w) w env heap) items) ≡ Ok rs) → Readable w env v heap f → action_of (listed w) w funcs env heap f ≡ Ok (Block block rs body (with_reads env items rs))
asked_read w funcs env v heap f line block items body rs e told =
    subst (λ (z : Stmt-F Stmt). Readable w env v heap z → action_of (listed w) w funcs env heap z ≡ Ok (Block block rs body (with_reads env items rs))) (sym e)
    (λ r. ap (λ (o : Result (Reads Handle) FaultKind). o >>= λ reads. Ok (Block block reads body (with_reads env items reads))) (told r))

halted_by : {A B : Type 0} (h : Halt) (o : Result A FaultKind) (f : A → Result B FaultKind) → Halts h o → Halts h (o >>= f)
halted_by halt.NoMemory o f e = tt
halted_by (halt.Fault k) o f e = ap (λ z. z >>= f) e

pub asked_halt : (w : Setting Handle) (funcs : List Func) (env : Env Handle) (v : ValueView) (heap : Heap) (f : Stmt-F Stmt) (line block : ℕ) (items : List ReadItem) (body : List Stmt) (h : Halt) → f ≡ Stmt-F.Read line block items body → (AllSought w env v heap items → Halts h (in_order (map (read_of (listed w) w env heap) items))) → Readable w env v heap f → Halts h (action_of (listed w) w funcs env heap f)
asked_halt w funcs env v heap f line block items body h e told =
    subst (λ (z : Stmt-F Stmt). Readable w env v heap z → Halts h (action_of (listed w) w funcs env heap z)) (sym e)
    (λ r. halted_by h (in_order (map (read_of (listed w) w env heap) items)) _ (told r))

-- a call reads nothing by itself
called_looks : (o : Option Func) (vs ds : List (Value Handle)) (a : Action Handle) → call_of o vs ds ≡ Ok a → looks_for a ≡ 0
called_looks None vs ds a e = absurd cc
called_looks (Some g) vs ds a e =
    let p = ok_then (bound_to g.values vs []) _ a e in
    let q = ok_then (bound_to g.dests ds p.0) _ a p.2 in
    ap looks_for (sym (ok_is q.2))

pub called_for : (env : Env Handle) (o : Option Func) (vs ds : List (Value Handle)) (r : Result Asked Halt) → Gives (action_view env) r (call_of o vs ds) → IfOk r (λ a. looks_for (action_view env a) ≡ 0)
called_for env o vs ds (Ok a) h = called_looks o vs ds (action_view env a) h
called_for env o vs ds (Err e) h = tt

pub no_looks : (env : Env Handle) (n : ℕ) (r : Result Asked Halt) → IfOk r (λ a. looks_for (action_view env a) ≡ 0) → IfOk r (λ a. n ≡ n + looks_for (action_view env a))
no_looks env n (Ok a) z = omega (arith, z)
no_looks env n (Err e) z = tt
