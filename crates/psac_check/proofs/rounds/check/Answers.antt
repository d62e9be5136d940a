use Rattle.std.proofs.lemmas.Result.{err_from_is_err_and}
use Rattle.psac_check.proofs.Whole.{headers_fail, begin_fails, bodies_fail, all_meet}
use Rattle.psac_check.proofs.rounds.check.Goals as goal

pub returns-in_err-all_headers-clause-fault : goal.returns-in_err-all_headers-clause-fault
returns-in_err-all_headers-clause-fault c =
    let p = err_from_is_err_and c.from_residual.result c.from_residual.ensures.1 in
    rw (p.1, p.2) (headers_fail c.args.program _ (rw c.as_slice-funcs.ensures at c.in_err-all_headers.ensures))

pub returns-in_err-begins-clause-fault : goal.returns-in_err-begins-clause-fault
returns-in_err-begins-clause-fault c =
    let p = err_from_is_err_and c.from_residual-in_err-begins.result c.from_residual-in_err-begins.ensures.1 in
    rw (p.1, p.2) (begin_fails c.args.program _ c.in_ok-all_headers.field-0 (rw c.as_slice-funcs.ensures at c.in_ok-all_headers.ensures) c.in_err-begins.ensures)

pub returns-in_err-all_bodies-clause-fault : goal.returns-in_err-all_bodies-clause-fault
returns-in_err-all_bodies-clause-fault c =
    let p = err_from_is_err_and c.from_residual-in_err-all_bodies.result c.from_residual-in_err-all_bodies.ensures.1 in
    rw (p.1, p.2) (bodies_fail c.args.program _ c.in_ok-all_headers.field-0 c.in_ok-begins.field-0 (rw c.as_slice-funcs.ensures at c.in_ok-all_headers.ensures) c.in_ok-begins.ensures (rw c.as_slice-funcs.ensures at c.in_err-all_bodies.ensures))

pub of-requires-clause-met : goal.of-requires-clause-met
of-requires-clause-met c =
    all_meet c.args.program c.in_ok-all_headers.field-0 c.in_ok-begins.field-0 c.in_ok-all_bodies.field-0 (rw c.as_slice-funcs.ensures at c.in_ok-all_headers.ensures) c.in_ok-begins.ensures (rw c.as_slice-funcs.ensures at c.in_ok-all_bodies.ensures)
