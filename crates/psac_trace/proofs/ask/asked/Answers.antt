use Rattle.std.proofs.Common.{rules, ◌≡◌}
use Rattle.psac_syntax.specs.declared.program.Stmt.{out-Stmt, the_lemmas}
use Rattle.psac_syntax.specs.declared.program.Stmt.TheOpen.{Stmt-F}
use Rattle.psac_plain.specs.Slots.{env_of}
use Rattle.psac_plain.specs.Running.{reads_view}
use Rattle.psac_trace.specs.Asking.{setting_on}
use Rattle.psac_trace.proofs.Ordered.{asked_read, asked_halt, no_looks}
use Rattle.psac_trace.proofs.ask.asked.Goals as goal

pub returns-in-Ok-clause-asked : goal.returns-in-Ok-clause-asked
returns-in-Ok-clause-asked c = λ heap s.
    let w = setting_on c.args.ground.now c.args.texts.now in
    let env = env_of c.args.env.now in
    let e : out-Stmt c.args.s.now ≡ Stmt-F.Read c.in-Read.line c.in-Read.block c.in-Read.items c.in-Read.body = rw c.in-Read.is (search (rules, the_lemmas)) in
    rw (c.as_slice-in-Ok.ensures, c.as_slice-in-Ok-2.ensures)
    (asked_read w c.args.funcs.now env c.args.pass.now.knows heap (out-Stmt c.args.s.now) c.in-Read.line c.in-Read.block c.in-Read.items c.in-Read.body (reads_view c.in-Ok.seen.items) e (rw c.as_slice.ensures at (c.in-Ok.ensures.seen heap)) s)

pub returns-in-Err-clause-asked : goal.returns-in-Err-clause-asked
returns-in-Err-clause-asked c = λ heap s.
    let w = setting_on c.args.ground.now c.args.texts.now in
    let env = env_of c.args.env.now in
    let e : out-Stmt c.args.s.now ≡ Stmt-F.Read c.in-Read.line c.in-Read.block c.in-Read.items c.in-Read.body = rw c.in-Read.is (search (rules, the_lemmas)) in
    asked_halt w c.args.funcs.now env c.args.pass.now.knows heap (out-Stmt c.args.s.now) c.in-Read.line c.in-Read.block c.in-Read.items c.in-Read.body c.in-Err.halt e (rw c.as_slice.ensures at (c.in-Err.ensures.seen heap)) s

pub returns-in_ok-ds-in-Call-clause-asked : goal.returns-in_ok-ds-in-Call-clause-asked
returns-in_ok-ds-in-Call-clause-asked c = λ heap s.
    let e = c.called_by.ensures.called (env_of c.args.env.now) in
    search (rules, the_lemmas, e)

pub returns-in_ok-ds-in-Call-clause-looks : goal.returns-in_ok-ds-in-Call-clause-looks
returns-in_ok-ds-in-Call-clause-looks c =
    no_looks (env_of c.args.env.now) c.args.pass.now.knows.looks c.called_by.result (c.called_by.ensures.looks (env_of c.args.env.now))
