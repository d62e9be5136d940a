use Rattle.std.proofs.Common.{◌≡◌, map, sym, ap, ◌∙◌, subst, arith, rules}
use Rattle.std.proofs.lemmas.Result.{err_from_is_err_and}
use Rattle.psac_model.specs.Series.{rule_of}
use Rattle.psac_check.proofs.Layers.{rule_let, rule_new, rule_write, rule_call}
use Rattle.psac_check.proofs.Walks.{all_grow, grown_dests, left_scope, left_items, body_fails, body_leaves}
use Rattle.psac_check.proofs.Compound.{if_wrong, if_first, if_second, par_first, par_second, par_done, read_done, read_as}
use Rattle.psac_check.proofs.body.+body.Goals as goal

pub body-all_written-requires : goal.body-all_written-requires
body-all_written-requires t c =
    let g = all_grow c.args.funcs.now c.args.stmts.now c.args.scope.now c.args.written.items _ c.in_ok-statements.ensures in
    omega (arith, grown_dests g, c.mark-outside.ensures.dests)

pub body-returns-in_err-all_written-clause-left : goal.body-returns-in_err-all_written-clause-left
body-returns-in_err-all_written-clause-left t c =
    let p = err_from_is_err_and c.from_residual-in_err-all_written.result c.from_residual-in_err-all_written.ensures.1 in
    rw (p.1, p.2) (body_fails (map (rule_of c.args.funcs.now) c.args.stmts.now) c.args.scope.now c.args.written.items _ _ c.in_ok-statements.ensures _ c.mark-outside.ensures.dests _ (rw c.deref.ensures.value at c.in_err-all_written.ensures))

pub body-returns-clause-scope : goal.body-returns-clause-scope
body-returns-clause-scope t c =
    left_scope c.args.scope.now c.statements.new.scope c.leave.new.self _ _ (all_grow c.args.funcs.now c.args.stmts.now c.args.scope.now c.args.written.items _ c.in_ok-statements.ensures) c.mark-outside.ensures.values c.mark-outside.ensures.dests c.leave.ensures

pub body-returns-clause-left : goal.body-returns-clause-left
body-returns-clause-left t c =
    let back = left_scope c.args.scope.now c.statements.new.scope c.leave.new.self _ _ (all_grow c.args.funcs.now c.args.stmts.now c.args.scope.now c.args.written.items _ c.in_ok-statements.ensures) c.mark-outside.ensures.values c.mark-outside.ensures.dests c.leave.ensures in
    body_leaves (map (rule_of c.args.funcs.now) c.args.stmts.now) c.args.scope.now c.args.written.items _ _ c.in_ok-statements.ensures _ c.mark-outside.ensures.dests _ c.leave.new.self c.cut.new.written.items (rw c.deref.ensures.value at c.in_ok-all_written.ensures) back c.cut.ensures

pub read_statement-returns : goal.read_statement-returns
read_statement-returns t c =
    let begun = rw c.deref.ensures.value at c.read_items.ensures in
    let back = left_items c.args.items.now c.args.scope.now c.body.new.scope c.leave.new.self _ _ (c.in_ok-written.ensures.scope ∙ c.in_ok-bind_items.ensures) c.mark-outside.ensures.values c.mark-outside.ensures.dests c.leave.ensures in
    read_done c.args.line c.args.scope.now c.bind_items.new.scope c.leave.new.self c.args.written.now.items c.in_ok-written.field-0.items _ c.args.items.now (map (rule_of c.args.funcs.now) c.args.stmts.now) c.in_ok-at_line.field-0 begun c.in_ok-at_line.ensures c.in_ok-bind_items.ensures (rw c.replace-before.ensures.value at c.in_ok-written.ensures.left) back

pub second_side-returns : goal.second_side-returns
second_side-returns t c =
    let ran = rw (c.in_ok-before.ensures.items, c.deref.ensures.value) at c.in_ok-second.ensures.left in
    let apart = rw (c.deref-2.ensures.value, c.deref-3.ensures.value, c.deref-4.ensures.value) at c.apart_sides.ensures in
    par_done c.args.line c.args.scope.now c.body.new.scope c.args.written.now.items c.args.first.items c.in_ok-second.second.items c.in_ok-written.field-0.items _ _ c.in_ok-at_line.field-0 (ran) apart c.in_ok-at_line.ensures c.in_ok-second.ensures.scope c.in_ok-written.ensures

pub statement-returns-in-Let : goal.statement-returns-in-Let
statement-returns-in-Let t c = search (rules, rule_let)

pub statement-returns-in-New : goal.statement-returns-in-New
statement-returns-in-New t c = search (rules, rule_new)

pub statement-returns-in-Write : goal.statement-returns-in-Write
statement-returns-in-Write t c = search (rules, rule_write)

pub statement-returns-in-Read : goal.statement-returns-in-Read
statement-returns-in-Read t c =
    rw (read_as c.args.funcs.now c.in-Read.line c.in-Read.block c.in-Read.items c.as_slice.result.now c.in-Read.body c.as_slice-in-Read.result.now c.args.stmt.now c.args.scope.now c.args.written.now.items c.in-Read.is c.as_slice.ensures c.as_slice-in-Read.ensures) c.read_statement.ensures

pub statement-returns-in-Call : goal.statement-returns-in-Call
statement-returns-in-Call t c = search (rules, rule_call)

pub statement-returns-in_err-at_line-in-If : goal.statement-returns-in_err-at_line-in-If
statement-returns-in_err-at_line-in-If t c =
    let p = err_from_is_err_and c.from_residual.result c.from_residual.ensures.1 in
    let found = rw (c.expression.ensures, c.deref-in-If.ensures.value) at c.in_err-at_line-in-If.ensures in
    rw (p.1, p.2, c.in-If.is) (if_wrong c.args.funcs.now c.in-If.line c.in-If.yes c.in-If.no c.args.scope.now c.args.written.now.items c.in-If.cond _ found)

pub statement-returns-in_err-first-in-If : goal.statement-returns-in_err-first-in-If
statement-returns-in_err-first-in-If t c =
    let p = err_from_is_err_and c.from_residual-in_err-first-in-If.result c.from_residual-in_err-first-in-If.ensures.1 in
    let found = rw (c.expression.ensures, c.deref-in-If.ensures.value) at c.in_ok-at_line-in-If.ensures in
    let ran = rw (c.in_ok-before-in-If.ensures.items, c.deref-in-If-2.ensures.value, c.as_slice-in-If.ensures) at c.in_err-first-in-If.ensures.left in
    rw (p.1, p.2, c.in-If.is) (if_first c.args.funcs.now c.in-If.line c.in-If.yes c.in-If.no c.args.scope.now c.args.written.now.items c.in-If.cond _ c.in_ok-at_line-in-If.field-0 found ran)

pub statement-returns-in_err-first-in-Par : goal.statement-returns-in_err-first-in-Par
statement-returns-in_err-first-in-Par t c =
    let p = err_from_is_err_and c.from_residual-in_err-first-in-Par.result c.from_residual-in_err-first-in-Par.ensures.1 in
    let ran = rw (c.in_ok-before-in-Par.ensures.items, c.deref-in-Par.ensures.value, c.as_slice-in-Par.ensures) at c.in_err-first-in-Par.ensures.left in
    rw (p.1, p.2, c.in-Par.is) (par_first c.args.funcs.now c.in-Par.line c.in-Par.left c.in-Par.right c.args.scope.now c.args.written.now.items _ ran)

pub statement-returns-in_ok-first-in-If : goal.statement-returns-in_ok-first-in-If
statement-returns-in_ok-first-in-If t c =
    let found = rw (c.expression.ensures, c.deref-in-If.ensures.value) at c.in_ok-at_line-in-If.ensures in
    let ran = rw (c.in_ok-before-in-If.ensures.items, c.deref-in-If-2.ensures.value, c.as_slice-in-If.ensures) at c.in_ok-first-in-If.ensures.left in
    rw (if_second c.args.funcs.now c.in-If.line c.in-If.yes c.in-If.no c.args.scope.now c.args.written.now.items c.in-If.cond c.args.stmt.now c.body.new.scope c.as_slice-in-If-2.result.now c.in_ok-at_line-in-If.field-0 c.in_ok-first-in-If.first.items c.in-If.is c.in_ok-first-in-If.ensures.scope c.as_slice-in-If-2.ensures found ran) c.second_branch.ensures

pub statement-returns-in_ok-first-in-Par : goal.statement-returns-in_ok-first-in-Par
statement-returns-in_ok-first-in-Par t c =
    let ran = rw (c.in_ok-before-in-Par.ensures.items, c.deref-in-Par.ensures.value, c.as_slice-in-Par.ensures) at c.in_ok-first-in-Par.ensures.left in
    rw (par_second c.args.funcs.now c.in-Par.line c.in-Par.left c.in-Par.right c.args.scope.now c.args.written.now.items c.args.stmt.now c.body-in-Par.new.scope c.as_slice-in-Par-2.result.now c.in_ok-first-in-Par.first.items c.in-Par.is c.in_ok-first-in-Par.ensures.scope c.as_slice-in-Par-2.ensures ran) c.second_side.ensures
