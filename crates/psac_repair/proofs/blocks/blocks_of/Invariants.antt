use Rattle.std.proofs.Common.{[], flat_map, take}
use Rattle.psac_syntax.specs.declared.program.Func.{Func}
use Rattle.psac_traced.specs.Blocks.{blocks_in}
use Rattle.psac_repair.specs.Indexed.{ArePut}
use Rattle.psac_repair.proofs.blocks.blocks_of.Given as goal

abbrev pub invariant-loop-func : goal.invariant-loop-func
invariant-loop-func l = ArePut (flat_map (λ (f : Func). flat_map blocks_in f.body) (take l.func-index l.funcs)) [] l.blocks.items
