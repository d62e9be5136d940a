-- The read blocks of a program, with their numbers.
use Rattle.std.specs.Prelude.{ℕ, List, [], ◌∷◌, ◌++◌, map, flat_map}
use Rattle.psac_syntax.specs.declared.program.Stmt.{Stmt, roll-Stmt, map-Stmt}
use Rattle.psac_syntax.specs.declared.program.Stmt.TheOpen.{Stmt-F}
use Rattle.psac_syntax.specs.declared.program.ReadItem.{ReadItem}
use Rattle.psac_syntax.specs.declared.program.Func.{Func}
use Rattle.psac_syntax.specs.Folds.{stmt_fold}

-- a number, what is read, and the body
abbrev pub Block : Type 0
Block = ℕ × List ReadItem × List Stmt

-- a statement with the blocks in it
abbrev pub Found : Type 0
Found = Stmt × List Block

abbrev pub all_found : List Found → List Block
all_found = flat_map (λ (a : Found). a.1)

abbrev pub found : Stmt-F Found → List Block
found (Stmt-F.Read line number items body) = (number, items, map (λ (a : Found). a.0) body) ∷ all_found body
found (Stmt-F.If line e first second) = all_found first ++ all_found second
found (Stmt-F.Par line left right) = all_found left ++ all_found right
found _ = []

abbrev pub found_step : Stmt-F Found → Found
found_step y = (roll-Stmt (map-Stmt Found Stmt (λ a. a.0) y), found y)

unfoldable pub found_in : Stmt → Found
found_in s = stmt_fold Found found_step s

abbrev pub blocks_in : Stmt → List Block
blocks_in s = (found_in s).1

-- of functions, each from its start
abbrev pub blocks_of : List Func → List Block
blocks_of funcs = flat_map (λ (f : Func). flat_map blocks_in f.body) funcs

abbrev pub numbers_of : List Func → List ℕ
numbers_of funcs = map (λ (b : Block). b.0) (blocks_of funcs)
