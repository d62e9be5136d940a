-- How a par divides what a pass may write: by the statements and the environment.
use Rattle.std.specs.Prelude.{ℕ, Bool, true, false, not, ◌==◌, ◌&&◌, ◌||◌, List, [], ◌∷◌, ◌++◌, map, Option, Some}
use Rattle.psac_ops.specs.declared.plain.Handle.{Handle}
use Rattle.psac_ops.specs.Value.{Value, ref}
use Rattle.psac_syntax.specs.declared.program.Stmt.{Stmt}
use Rattle.psac_syntax.specs.declared.program.Stmt.TheOpen.{Stmt-F}
use Rattle.psac_syntax.specs.Folds.{stmt_fold}
use Rattle.psac_model.specs.Names.{Env, bound}
use Rattle.psac_model.specs.Series.{without}
use Rattle.psac_values.specs.declared.view.ValueView.{ValueView}
use Rattle.psac_trace.specs.Fit.{is_spare}

-- the names that a statement writes and those that it makes
pub record Marks : Type 0 where
  pub writes : List ℕ
  pub makes : List ℕ

-- the names from outside that a body writes
abbrev pub outer : List Marks → List ℕ
outer [] = []
outer (m ∷ ms) = m.writes ++ without m.makes (outer ms)

abbrev pub only_writes : List ℕ → Marks
only_writes xs = record { writes = xs; makes = [] }

abbrev pub marks_step : Stmt-F Marks → Marks
marks_step (Stmt-F.Let line x e) = only_writes []
marks_step (Stmt-F.New line d) = record { writes = []; makes = d ∷ [] }
marks_step (Stmt-F.Write line d e) = only_writes (d ∷ [])
marks_step (Stmt-F.Read line block items body) = only_writes (outer body)
marks_step (Stmt-F.If line e first second) = only_writes (outer first)
marks_step (Stmt-F.Par line left right) = only_writes (outer left ++ outer right)
marks_step (Stmt-F.Call line f values dests) = only_writes dests

unfoldable pub marks_of : Stmt → Marks
marks_of s = stmt_fold Marks marks_step s

abbrev pub written_by : List Stmt → List ℕ
written_by body = outer (map marks_of body)

-- the value is a reference to a modifiable in the slot
abbrev pub refers : ℕ → Option (Value Handle) → Bool
refers s (Some (ref m)) = m.slot == s
refers s _ = false

abbrev pub any_of : List Bool → Bool
any_of [] = false
any_of (true ∷ bs) = true
any_of (false ∷ bs) = any_of bs

-- the body writes the destination in the slot
abbrev pub writes_slot : List Stmt → Env Handle → ℕ → Bool
writes_slot body env s = any_of (map (λ x. refers s (bound x env)) (written_by body))

-- the slots that both sides know from the fork on: those that neither writes
abbrev pub neither : List Stmt → List Stmt → Env Handle → ℕ → Bool
neither left right env s = not (writes_slot left env s) && not (writes_slot right env s)

-- the sets that both sides may enter: of those slots, and of those that a claim may give. Any other goes with its modifiable
abbrev pub sets_shared : List Stmt → List Stmt → Env Handle → ValueView → ℕ → Bool
sets_shared left right env v s = neither left right env s || is_spare v.fixed v.claims.list s
