use Rattle.std.proofs.Common.{◌≡◌, drop}
use Rattle.psac_base.specs.Files.{named, names_differ}
use Rattle.psac_base.proofs.mem_shelf.MemShelf.names_differ.Given as goal

abbrev pub invariant-loop-i : goal.invariant-loop-i
invariant-loop-i l = names_differ (named l.files) ≡ names_differ (named (drop l.i l.files))
