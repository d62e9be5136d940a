-- Programs that are the same but for their lines, and texts that are read back as a program.
use Rattle.std.specs.Prelude.{◌≡◌, ℕ, List, map}
use Rattle.psac_syntax.specs.declared.program.Stmt.{Stmt}
use Rattle.psac_syntax.specs.declared.program.Stmt.TheOpen.{Stmt-F}
use Rattle.psac_syntax.specs.declared.program.Stmt.TheVariants as stmt
use Rattle.psac_syntax.specs.declared.program.Func.{Func}
use Rattle.psac_syntax.specs.declared.program.Program.{Program}
use Rattle.psac_syntax.specs.Folds.{stmt_fold}
use Rattle.psac_grammar.specs.Language.{IsProgram}

abbrev pub unlined_step : Stmt-F Stmt → Stmt
unlined_step (Stmt-F.Let line name e) = stmt.Let 0 name e
unlined_step (Stmt-F.New line name) = stmt.New 0 name
unlined_step (Stmt-F.Write line dest e) = stmt.Write 0 dest e
unlined_step (Stmt-F.Read line block items body) = stmt.Read 0 block items body
unlined_step (Stmt-F.If line cond first second) = stmt.If 0 cond first second
unlined_step (Stmt-F.Par line left right) = stmt.Par 0 left right
unlined_step (Stmt-F.Call line func values dests) = stmt.Call 0 func values dests

-- a statement, 0 put for each line
unfoldable pub unlined : Stmt → Stmt
unlined s = stmt_fold Stmt unlined_step s

abbrev pub func_unlined : Func → Func
func_unlined f = record { name = f.name; values = f.values; dests = f.dests; body = map unlined f.body; line = 0 }

abbrev pub program_unlined : Program → Program
program_unlined p = record { names = p.names; texts = p.texts; funcs = map func_unlined p.funcs; blocks = p.blocks }

-- the text is a program, and the same one but for its lines
pub record ReadsBack (p : Program) (text : List ℕ) : Type 0 where
  pub program : Program
  pub is : IsProgram text program
  pub same : program_unlined program ≡ program_unlined p
