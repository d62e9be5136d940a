-- A run of main's body over a grid, on a pass.
use Rattle.std.specs.Prelude.{List, [], length, None}
use Rattle.psac_ops.specs.declared.plain.Handle.{Handle}
use Rattle.psac_ops.specs.declared.plain.TextId.{TextId}
use Rattle.psac_syntax.specs.declared.program.Func.{Func}
use Rattle.psac_inputs.specs.Grid.{Grid}
use Rattle.psac_fork.specs.declared.tables.Pass.{Pass}
use Rattle.psac_fork.specs.declared.tables.Tables.{Tables}
use Rattle.psac_model.specs.Expression.{Setting}
use Rattle.psac_model.specs.Names.{Env}
use Rattle.psac_model.specs.Fresh.{levels}
use Rattle.psac_plain.specs.Opened.{first_output, output_env, setting_over}
use Rattle.psac_traced.specs.Traced.{traced}
use Rattle.psac_cut.specs.CutShort.{cut_short}
use Rattle.psac_record.specs.Kept.{Kept}
use Rattle.psac_trace.specs.Told.{Ended}
use Rattle.psac_trace.specs.Running.{Begins, Leaves}

-- what expressions read, and main's destinations
abbrev pub main_setting : Grid → List TextId → Func → Setting Handle
main_setting g texts main = setting_over g texts (length main.dests)

abbrev pub main_places : Grid → Func → Env Handle
main_places g main = output_env (first_output g) main.dests []

abbrev pub MainBegins : Grid → List TextId → List Func → Func → Tables → Pass → Type 0
MainBegins g texts funcs main t p = Begins (main_setting g texts main) funcs [] t main.body (main_places g main) None p

abbrev pub MainLeaves : Grid → List TextId → List Func → Func → Tables → Pass → Pass → Ended Kept → Type 0
MainLeaves g texts funcs main t p q e =
    Leaves (main_setting g texts main) (traced (main_setting g texts main) funcs levels) (cut_short (main_setting g texts main) funcs levels) [] t main.body (main_places g main) None p q e
