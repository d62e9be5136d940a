use Rattle.std.proofs.Common.{suc, ◌+◌}
use Rattle.psac_record.specs.Kept.{parts}
use Rattle.psac_record.specs.Shown.{kept_of}
use Rattle.psac_cert.proofs.names.+note.Given as goal

abbrev pub decreases-note_all : goal.decreases-note_all
decreases-note_all a = parts (kept_of a.tree.now) + parts (kept_of a.tree.now)

abbrev pub decreases-note_below : goal.decreases-note_below
decreases-note_below a = suc (parts (kept_of a.tree.now) + parts (kept_of a.tree.now))
