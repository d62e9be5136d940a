use Rattle.std.proofs.Common.{◌≡◌, drop}
use Rattle.psac_base.specs.Files.{named}
use Rattle.psac_base.specs.Outside.{file_of}
use Rattle.psac_base.proofs.mem_shelf.find.Given as goal

abbrev pub invariant-loop-file : goal.invariant-loop-file
invariant-loop-file l = file_of (named l.files) l.name ≡ file_of (named (drop l.file-index l.files)) l.name
