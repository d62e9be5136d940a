use Rattle.std.proofs.Common.{arith}
use Rattle.std.proofs.Common.{subst, ◌<◌}
use Rattle.psac_readers.specs.Chained.{mods_of}
use Rattle.psac_stage.proofs.Begins.{time_in}
use Rattle.psac_stage.proofs.Clears.{rested, cleared, has_all}
use Rattle.psac_stage.proofs.Storing.{inside}
use Rattle.psac_stage.proofs.settle.cleared.Goals as goal

pub reset-requires-clause-sole : goal.reset-requires-clause-sole
reset-requires-clause-sole c = let r = c.requires.rested in ((0, r.mods.counter), (0, r.links.counter), (0, r.nodes.counter))

pub reset-requires-clause-next_values : goal.reset-requires-clause-next_values
reset-requires-clause-next_values c h i =
    let a = c.requires.all in
    let y = a.4.young_mods.out h i in
    let low = a.5 in
    omega (arith, y, low)

pub reset-requires-clause-next_marks : goal.reset-requires-clause-next_marks
reset-requires-clause-next_marks c h i =
    let a = c.requires.all in
    let y = a.4.young_nodes.out h i in
    let low = a.5 in
    omega (arith, y, low)

pub reset-requires-clause-sets : goal.reset-requires-clause-sets
reset-requires-clause-sets c m low =
    let s = c.requires.all.4.sets in
    time_in m (mods_of c.args.pass.readers.knows.walk) (s.all m (subst (λ n. m < n) s.mods_is low))

pub returns-clause-all : goal.returns-clause-all
returns-clause-all c g outs caps age ok all =
    has_all g outs caps age c.args.pass c.reset.result all c.reset.ensures.values c.reset.ensures.readers c.reset.ensures.marks (inside g ok outs)

pub returns-clause-rested : goal.returns-clause-rested
returns-clause-rested c =
    let a = c.requires.all in
    rested a.0 a.1 a.2 a.3 c.args.pass c.reset.result a.4 c.reset.ensures.values c.reset.ensures.readers c.reset.ensures.marks

pub returns-clause-clear : goal.returns-clause-clear
returns-clause-clear c g outs caps age all =
    cleared g outs caps age c.args.pass c.reset.result all c.reset.ensures.values c.reset.ensures.readers c.reset.ensures.marks
