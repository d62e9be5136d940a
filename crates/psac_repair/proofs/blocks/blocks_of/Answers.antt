use Rattle.std.proofs.Common.{[], flat_map}
use Rattle.psac_syntax.specs.declared.program.Func.{Func}
use Rattle.psac_traced.specs.Blocks.{blocks_in}
use Rattle.psac_repair.proofs.Indexed.{one_more, all_put, are_indexed}
use Rattle.psac_repair.proofs.blocks.blocks_of.Goals as goal

pub loop-func-preserved : goal.loop-func-preserved
loop-func-preserved c =
    let loop = c.loop-func in
    let h = c.in_ok-put_all.ensures in
    let e = c.as_slice.ensures in
    let i = c.func-item.is in
    one_more (λ (f : Func). flat_map blocks_in f.body) c.args.funcs.now loop.func-index [] loop.blocks.items loop.invariant
    c.func-item.result c.loop-func-test.true i c.put_all.new.blocks.items (rw e at h)

pub returns : goal.returns
returns c =
    let loop = c.loop-func in
    let all = all_put (λ (f : Func). flat_map blocks_in f.body) c.args.funcs.now loop.func-index [] loop.blocks.items loop.invariant in
    are_indexed c.args.funcs.now loop.blocks.items c.requires.distinct (all c.loop-func-test.false)
