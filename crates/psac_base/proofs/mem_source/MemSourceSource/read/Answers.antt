use Rattle.std.proofs.Common.{rules}
use Rattle.psac_base.proofs.ReadSteps.{reads}
use Rattle.psac_base.proofs.mem_source.MemSourceSource.read.Goals as goal

pub returns-clause-bytes : goal.returns-clause-bytes
returns-clause-bytes c =
    reads c.args.self.now.bytes.items c.args.into.now c.copy_from_slice.new.self c.args.self.now.at c.min-count.result c.args.self.now.piece
    (search rules) (search rules) c.requires (search rules) (search rules)
