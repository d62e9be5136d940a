-- How a run may look names up, order the sides of its pars and tell of their stops.
use Rattle.std.specs.Prelude.{◌≡◌, ℕ, zero, suc, Bool, true, false, List, [], ◌∷◌, ◌++◌, map, Some, Result, Ok, Err}
use Rattle.psac_ops.specs.Value.{Value}
use Rattle.psac_ops.specs.Table.{◌>>=◌}
use Rattle.psac_syntax.specs.declared.program.Stmt.{Stmt, out-Stmt}
use Rattle.psac_syntax.specs.declared.program.Stmt.TheOpen.{Stmt-F}
use Rattle.psac_syntax.specs.declared.program.ReadItem.{ReadItem}
use Rattle.psac_syntax.specs.declared.program.Func.{Func}
use Rattle.psac_inputs.specs.Grid.{Grid}
use Rattle.psac_model.specs.declared.ends.FaultKind.{FaultKind}
use Rattle.psac_model.specs.declared.ends.FaultKind.TheVariants.{TooDeep}
use Rattle.psac_model.specs.declared.ends.End.{End}
use Rattle.psac_model.specs.declared.ends.End.TheVariants.{Done}
use Rattle.psac_model.specs.Names.{Path, Name, Env, Heap, held}
use Rattle.psac_model.specs.Expression.{Setting, value_of, or_kind, in_order}
use Rattle.psac_model.specs.Tree.{E, P}
use Rattle.psac_model.specs.Run.{Ran, Deeper, Action, Block, Sides, by_path, target, with_reads, first_stop, sequence, stopped, act, action_of, line_of}
use Rattle.psac_model.specs.Fresh.{World, setting, levels, main_env, grid_heap}

pub record Way : Type 0 where
  -- what a look at a name gives: a value, or a fault
  pub look : Heap → Name → Result (Value Name) FaultKind
  -- whether the left side of the par at a path is run first
  pub left_first : Path → Bool
  -- whether the left side's stop is told where both sides of the par at a path stop
  pub left_told : Path → Bool

-- what the heap has is found; a look at another name may give any value and any fault
abbrev pub FindsHeld : Way → Type 0
FindsHeld a = (h : Heap) (m : Name) (v : Value Name) → held h m ≡ Some v → a.look h m ≡ Ok v

-- the definition's own way: a missing name is the fault Kind, and the left side goes first and is told first
abbrev pub plain_way : Way
plain_way = record { look = λ h m. or_kind (held h m); left_first = λ path. true; left_told = λ path. true }

-- one of the stops of two sides
abbrev pub told_stop : Bool → End → End → End
told_stop true l r = first_stop l r
told_stop false l r = first_stop r l

-- both sides, with the heap that the later one left
abbrev pub joined : Bool → Ran Name Heap → Ran Name Heap → Heap → Ran Name Heap
joined told l r after = record { tree = P l.tree r.tree; heap = after; end = told_stop told l.end r.end }

abbrev pub right_is_last : Bool → Ran Name Heap → Ran Name Heap → Ran Name Heap
right_is_last told l r = joined told l r r.heap

abbrev pub left_is_last : Bool → Ran Name Heap → Ran Name Heap → Ran Name Heap
left_is_last told l r = joined told l r l.heap

abbrev pub then_right : Bool → Ran Name Heap → (Heap → Ran Name Heap) → Ran Name Heap
then_right told l right = right_is_last told l (right l.heap)

abbrev pub then_left : Bool → (Heap → Ran Name Heap) → Ran Name Heap → Ran Name Heap
then_left told left r = left_is_last told (left r.heap) r

-- both sides of a par, also where the first one stops
abbrev pub sides_by : Bool → Bool → (Heap → Ran Name Heap) → (Heap → Ran Name Heap) → Heap → Ran Name Heap
sides_by true told left right heap = then_right told (left heap) right
sides_by false told left right heap = then_left told left (right heap)

module _ (a : Way) where
  -- a statement that has no fault, and the rest of its body
  abbrev pub act_by : Deeper Name Heap → Action Name → List Stmt → Env Name → Heap → Path → Ran Name Heap
  act_by deeper (Sides left right) rest env heap path =
      sequence
      (sides_by (a.left_first path) (a.left_told path) (λ before. deeper left env before (path ++ 0 ∷ 0 ∷ []))
      (λ before. deeper right env before (path ++ 0 ∷ 1 ∷ [])) heap)
      (λ after. deeper rest env after (path ++ 1 ∷ []))
  act_by deeper other rest env heap path = act by_path deeper other rest env heap path

  abbrev pub act_or_stop_by : Deeper Name Heap → Result (Action Name) FaultKind → ℕ → List Stmt → Env Name → Heap
      → Path → Ran Name Heap
  act_or_stop_by deeper (Ok asked) line rest env heap path = act_by deeper asked rest env heap path
  act_or_stop_by deeper (Err k) line rest env heap path = stopped heap k line

  module _ (w : Setting Name) where
    -- one read: the name and what the look at it gives
    abbrev pub read_by : Env Name → Heap → ReadItem → Result (Name × Value Name) FaultKind
    read_by env heap item = do
      v ← value_of w env item.from
      m ← target v
      x ← a.look heap m
      Ok (m, x)

    module _ (funcs : List Func) where
      -- what a statement asks for; reads alone look names up
      abbrev pub action_by : Env Name → Heap → Stmt-F Stmt → Result (Action Name) FaultKind
      action_by env heap (Stmt-F.Read line block items body) = do
        reads ← in_order (map (read_by env heap) items)
        Ok (Block block reads body (with_reads env items reads))
      action_by env heap other = action_of by_path w funcs env heap other

      -- a run of statements that may go so many levels deeper
      unfoldable pub run_by : ℕ → Deeper Name Heap
      run_by room [] env heap path = record { tree = E; heap = heap; end = Done }
      run_by zero (s ∷ rest) env heap path = stopped heap TooDeep (line_of (out-Stmt s))
      run_by (suc room) (s ∷ rest) env heap path =
          act_or_stop_by (run_by room) (action_by env heap (out-Stmt s)) (line_of (out-Stmt s)) rest env heap path

-- the run of the whole program in a way
unfoldable pub fresh_by : Way → World → Grid → Ran Name Heap
fresh_by a w g = run_by a (setting w.texts g) w.program.funcs levels w.main.body (main_env 0 w.main.dests [])
    (grid_heap g) []
