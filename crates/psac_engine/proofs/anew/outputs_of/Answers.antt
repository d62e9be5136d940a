use Rattle.std.proofs.Common.{◌≡◌, ◌∙◌, ap, sym, length, [], Some, List, ℕ, arith}
use Rattle.psac_syntax.specs.declared.program.Func.{Func}
use Rattle.psac_model.specs.Fresh.{main_of}
use Rattle.psac_engine.proofs.Worlds.{main_is, few_dests}
use Rattle.psac_engine.proofs.anew.outputs_of.Goals as goal

pub returns-clause-many : goal.returns-clause-many
returns-clause-many c =
    let f = c.in-Some.main.now in
    let e : main_of c.args.program.now ≡ Some f = ap main_of (sym c.program.ensures.same) ∙ sym c.in-Some.ensures in
    ap (λ (xs : List ℕ). length xs) c.as_slice.ensures ∙ ap (λ (z : Func). length z.dests) (sym (main_is c.args.program.now [] f e))

pub returns-clause-few : goal.returns-clause-few
returns-clause-few c =
    let f = c.in-Some.main.now in
    let e : main_of c.program.result.now ≡ Some f = sym c.in-Some.ensures in
    let few = few_dests c.program.result.now f c.program.ensures.parsed e in
    let long = ap (λ (xs : List ℕ). length xs) c.as_slice.ensures in
    omega (arith, few, long)

pub overflow_cast-result : goal.overflow_cast-result
overflow_cast-result c =
    let f = c.in-Some.main.now in
    let e : main_of c.program.result.now ≡ Some f = sym c.in-Some.ensures in
    let few = few_dests c.program.result.now f c.program.ensures.parsed e in
    let long = ap (λ (xs : List ℕ). length xs) c.as_slice.ensures in
    omega (arith, few, long)
