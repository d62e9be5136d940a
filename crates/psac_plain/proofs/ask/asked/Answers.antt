use Rattle.std.proofs.Common.{rules}
use Rattle.psac_syntax.specs.declared.program.Stmt.{the_lemmas}
use Rattle.psac_plain.specs.Slots.{env_of}
use Rattle.psac_plain.proofs.ask.asked.Goals as goal

pub returns-in-Par : goal.returns-in-Par
returns-in-Par c = rw (c.as_slice-in-Par.ensures, c.as_slice-in-Par-2.ensures, c.in-Par.is) (search (rules, the_lemmas))

pub returns-in_ok-ds-in-Call : goal.returns-in_ok-ds-in-Call
returns-in_ok-ds-in-Call c =
    let e = c.called.ensures (env_of c.args.env.now) in
    search (rules, the_lemmas, e)
