use Rattle.std.proofs.Common.{rules}
use Rattle.psac_base.proofs.ReadBack.{appended_reads_back}
use Rattle.psac_base.proofs.number.push_int.Goals as goal

pub returns-clause-back : goal.returns-clause-back
returns-clause-back c = appended_reads_back c.args.text.now.items c.extend_from_slice.new.self.items c.args.value (search rules) (search rules)
