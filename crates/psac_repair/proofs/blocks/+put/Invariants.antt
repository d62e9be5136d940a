use Rattle.std.proofs.Common.{flat_map, take}
use Rattle.psac_traced.specs.Blocks.{blocks_in}
use Rattle.psac_repair.specs.Indexed.{ArePut}
use Rattle.psac_repair.proofs.blocks.+put.Given as goal

abbrev pub invariant-put_all-loop-stmt : goal.invariant-put_all-loop-stmt
invariant-put_all-loop-stmt l = ArePut (flat_map blocks_in (take l.stmt-index l.stmts)) l.initial.blocks.items l.blocks.items
