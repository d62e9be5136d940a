-- The lines of a dump, as they are written.
use Rattle.std.specs.Prelude.{ℕ, List, ◌++◌, flat_map, reverse, codes}
use Rattle.std.specs.Fmt.{decimal}
use Rattle.std.specs.Borrow.{Bor}
use Rattle.psac_ops.specs.declared.plain.Handle.{Handle}
use Rattle.psac_ops.specs.declared.plain.Plain.{Plain}
use Rattle.psac_ops.specs.Named.{value_of, renamed}
use Rattle.psac_model.specs.Names.{Name}
use Rattle.psac_traced.specs.Rec.{tree_of}
use Rattle.psac_traced.specs.Renamed.{rec_named, env_named, reads_named}
use Rattle.psac_record.specs.declared.parts.Reading.{Reading}
use Rattle.psac_record.specs.declared.record.Record.{Record}
use Rattle.psac_record.specs.Kept.{Kept, bare, env_of, reads_of}
use Rattle.psac_record.specs.Shown.{kept_of}
use Rattle.psac_report.specs.Printed.{line_of}
use Rattle.psac_report.specs.Dump.{bound_text, name_text, named_text, parts, read_text}
use Rattle.psac_cert.specs.declared.dictionary.Dictionary.{Dictionary}
use Rattle.psac_cert.specs.Named.{name_at}

abbrev pub named : Dictionary → Handle → Name
named d = name_at d.names

abbrev pub value_named : Dictionary → Plain → List ℕ
value_named d v = named_text d.texts.now (renamed (named d) (value_of v))

abbrev pub write_line : Dictionary → Handle → Plain → List ℕ
write_line d h v = line_of (codes "W " ++ name_text (named d h) ++ codes " " ++ value_named d v)

abbrev pub block_line : Dictionary → Reading → List ℕ
block_line d r =
    line_of (codes "R " ++ decimal r.block ++ flat_map (bound_text d.program.now.names d.texts.now) (env_named (named d) (env_of r.env)) ++ codes " |"
    ++ flat_map (read_text d.program.now.names d.texts.now) (reads_named (named d) (reads_of r.reads)))

-- the lines of a record
abbrev pub lines_of : Dictionary → Kept → List ℕ
lines_of d k = parts d.program.now.names d.texts.now (tree_of (rec_named (named d) (bare k)))

-- the lines of the records that are left, the last of them first
abbrev pub lines_left : Dictionary → List (Bor Record) → List ℕ
lines_left d left = flat_map (λ r. lines_of d (kept_of r.now)) (reverse left)
