-- The code's marks as the grammar's.
use Rattle.std.specs.Prelude.{Bool, true, false}
use Rattle.psac_grammar.specs.Marked as grammar
use Rattle.psac_lang.specs.declared.marks.Mark.{Mark}
use Rattle.psac_lang.specs.declared.marks.Mark.TheVariants.{Fine, Over, Late}

abbrev pub mark_of : Mark → grammar.Mark
mark_of Fine = grammar.fine
mark_of (Over which) = grammar.over which
mark_of (Late which) = grammar.late which

abbrev pub is_over : Mark → Bool
is_over (Over which) = true
is_over _ = false
