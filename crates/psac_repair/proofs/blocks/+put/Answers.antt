use Rattle.std.proofs.lemmas.Result.{on_ok_weaker}
use Rattle.psac_traced.specs.Blocks.{blocks_in}
use Rattle.psac_repair.proofs.Indexed.{one_more, all_put}
use Rattle.psac_repair.proofs.Blocking.{let_put, new_put, write_put, call_put, read_put, if_put, par_put}
use Rattle.psac_repair.proofs.blocks.+put.Goals as goal

pub put_all-loop-stmt-preserved : goal.put_all-loop-stmt-preserved
put_all-loop-stmt-preserved t c =
    let loop = c.loop-stmt in
    let i = c.stmt-item.is in
    one_more blocks_in c.args.stmts.now loop.stmt-index c.args.blocks.now.items loop.blocks.items loop.invariant
    c.stmt-item.result c.loop-stmt-test.true i c.put_blocks.new.blocks.items c.in_ok-put_blocks.ensures

pub put_all-returns : goal.put_all-returns
put_all-returns t c =
    let loop = c.loop-stmt in
    all_put blocks_in c.args.stmts.now loop.stmt-index c.args.blocks.now.items loop.blocks.items loop.invariant c.loop-stmt-test.false

pub put_blocks-returns-in-Let : goal.put_blocks-returns-in-Let
put_blocks-returns-in-Let t c = let_put c.args.stmt.now c.args.blocks.now.items c.in-Let.line c.in-Let.name c.in-Let.value c.in-Let.is

pub put_blocks-returns-in-New : goal.put_blocks-returns-in-New
put_blocks-returns-in-New t c = new_put c.args.stmt.now c.args.blocks.now.items c.in-New.line c.in-New.name c.in-New.is

pub put_blocks-returns-in-Write : goal.put_blocks-returns-in-Write
put_blocks-returns-in-Write t c =
    let arm = c.in-Write in
    write_put c.args.stmt.now c.args.blocks.now.items arm.line arm.dest arm.value arm.is

pub put_blocks-returns-in-Call : goal.put_blocks-returns-in-Call
put_blocks-returns-in-Call t c =
    let arm = c.in-Call in
    call_put c.args.stmt.now c.args.blocks.now.items arm.line arm.func arm.values arm.dests arm.is

pub put_blocks-returns-in_ok-put-in-Read : goal.put_blocks-returns-in_ok-put-in-Read
put_blocks-returns-in_ok-put-in-Read t c =
    let arm = c.in-Read in
    let e = c.as_slice-items.ensures in
    let f = c.as_slice-body.ensures in
    on_ok_weaker c.put_all.result
    (read_put c.args.stmt.now c.args.blocks.now.items c.put.new.blocks.items c.put_all.new.blocks.items
    arm.line arm.block arm.items c.as_slice-items.result.now arm.body c.as_slice-body.result.now e f arm.is c.in_ok-put-in-Read.ensures)
    c.put_all.ensures

pub put_blocks-returns-in_ok-put_all-in-If : goal.put_blocks-returns-in_ok-put_all-in-If
put_blocks-returns-in_ok-put_all-in-If t c =
    let arm = c.in-If in
    let e = c.as_slice.ensures in
    let f = c.as_slice-in-If.ensures in
    on_ok_weaker c.put_all-in-If-2.result
    (if_put c.args.stmt.now c.args.blocks.now.items c.put_all-in-If.new.blocks.items c.put_all-in-If-2.new.blocks.items
    arm.line arm.yes arm.no c.as_slice.result.now c.as_slice-in-If.result.now e f arm.cond arm.is c.in_ok-put_all-in-If.ensures)
    c.put_all-in-If-2.ensures

pub put_blocks-returns-in_ok-put_all-in-Par : goal.put_blocks-returns-in_ok-put_all-in-Par
put_blocks-returns-in_ok-put_all-in-Par t c =
    let arm = c.in-Par in
    let e = c.as_slice-in-Par.ensures in
    let f = c.as_slice-in-Par-2.ensures in
    on_ok_weaker c.put_all-in-Par-2.result
    (par_put c.args.stmt.now c.args.blocks.now.items c.put_all-in-Par.new.blocks.items c.put_all-in-Par-2.new.blocks.items
    arm.line arm.left arm.right c.as_slice-in-Par.result.now c.as_slice-in-Par-2.result.now e f arm.is c.in_ok-put_all-in-Par.ensures)
    c.put_all-in-Par-2.ensures
