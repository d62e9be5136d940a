use Rattle.std.proofs.Common.{length}
use Rattle.psac_repair.proofs.entry.+bind_reads.Given as goal

abbrev pub decreases-bind_reads : goal.decreases-bind_reads
decreases-bind_reads l = length l.items.now
