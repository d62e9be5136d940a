-- A run of statements, the whole program one after another.
use Rattle.std.specs.Prelude.{◌≡◌, refl, ℕ, zero, suc, Bool, true, false, ◌==◌, if◌then◌else◌, List, [], ◌∷◌, ◌++◌, map, Option, Some, None, Result, Ok, Err}
use Rattle.psac_ops.specs.Value.{Value, bool, ref}
use Rattle.psac_syntax.specs.declared.program.Stmt.{Stmt, out-Stmt}
use Rattle.psac_syntax.specs.declared.program.Stmt.TheOpen.{Stmt-F}
use Rattle.psac_syntax.specs.declared.program.ReadItem.{ReadItem}
use Rattle.psac_syntax.specs.declared.program.Func.{Func}
use Rattle.psac_model.specs.declared.ends.FaultKind.{FaultKind}
use Rattle.psac_model.specs.declared.ends.FaultKind.TheVariants.{Kind, TooDeep}
use Rattle.psac_model.specs.declared.ends.End.{End}
use Rattle.psac_model.specs.declared.ends.End.TheVariants.{Done, Stop}
use Rattle.psac_model.specs.Names.{Path, Name, Made, Env, bound, bind, Heap, held}
use Rattle.psac_ops.specs.Table.{◌>>=◌}
use Rattle.psac_model.specs.Expression.{Setting, value_of, or_kind, in_order}
use Rattle.psac_model.specs.Tree.{Tree, E, A, W, S, P, R, Reads}

-- how a store of modifiables is kept, and which side of a par is run first
pub record Store (N H : Type 0) : Type 0 where
  -- the modifiable that a `new` at a path makes
  pub fresh : Path → H → N
  pub opened : H → N → H
  pub get : H → N → Option (Value N)
  pub put : H → N → Value N → H
  -- whether the left side of the par at a path is run first
  pub left_first : Path → Bool

-- what a statement asks for once its expressions are evaluated
pub data Action (N : Type 0) : Type 0 where
  Bind : (x : ℕ) (v : Value N) → Action N
  Make : (d : ℕ) → Action N
  Put : (m : N) (v : Value N) → Action N
  -- an if or a call: a body, under an environment
  Body : (body : List Stmt) (env : Env N) → Action N
  Block : (block : ℕ) (reads : Reads N) (body : List Stmt) (env : Env N) → Action N
  Sides : (left right : List Stmt) → Action N

abbrev pub line_of : Stmt-F Stmt → ℕ
line_of (Stmt-F.Let line x e) = line
line_of (Stmt-F.New line d) = line
line_of (Stmt-F.Write line d e) = line
line_of (Stmt-F.Read line block items body) = line
line_of (Stmt-F.If line e first second) = line
line_of (Stmt-F.Par line left right) = line
line_of (Stmt-F.Call line f values dests) = line

-- the modifiable that a reference names
abbrev pub target : {N : Type 0} → Value N → Result N FaultKind
target (ref m) = Ok m
target _ = Err Kind

abbrev pub as_bool : {N : Type 0} → Value N → Result Bool FaultKind
as_bool (bool b) = Ok b
as_bool _ = Err Kind

-- a name that is bound to a reference
abbrev pub destination : {N : Type 0} → Env N → ℕ → Result N FaultKind
destination env d = or_kind (bound d env) >>= target

-- the same, as a value
abbrev pub reference : {N : Type 0} → Env N → ℕ → Result (Value N) FaultKind
reference env d = do
  m ← destination env d
  Ok (ref m)

-- names with the values of reads
abbrev pub with_reads : {N : Type 0} → Env N → List ReadItem → Reads N → Env N
with_reads env (item ∷ items) (r ∷ rs) = with_reads (bind item.bound r.1 env) items rs
with_reads env _ _ = env

abbrev pub func_named : ℕ → List Func → Option Func
func_named f [] = None
func_named f (g ∷ gs) = if g.name == f then Some g else func_named f gs

-- parameters bound to their values, where there are as many
abbrev pub bound_to : {N : Type 0} → List ℕ → List (Value N) → Env N → Result (Env N) FaultKind
bound_to [] [] env = Ok env
bound_to (x ∷ xs) (v ∷ vs) env = bound_to xs vs (bind x v env)
bound_to _ _ env = Err Kind

-- what a function is called with: the values first, then the destinations
abbrev pub call_of : {N : Type 0} → Option Func → List (Value N) → List (Value N) → Result (Action N) FaultKind
call_of None values dests = Err Kind
call_of (Some f) values dests = do
  first ← bound_to f.values values []
  env ← bound_to f.dests dests first
  Ok (Body f.body env)

-- the left side's stop, and else the end of the right side
abbrev pub first_stop : End → End → End
first_stop Done e = e
first_stop (Stop k line) e = Stop k line

-- what a run gives: its tree, the modifiables after it, and how it ends
pub record Ran (N H : Type 0) : Type 0 where
  pub tree : Tree N
  pub heap : H
  pub end : End

-- a run of deeper statements: the statements, the environment, the modifiables and the path
abbrev pub Deeper : Type 0 → Type 0 → Type 0
Deeper N H = List Stmt → Env N → H → Path → Ran N H

module _ {N H : Type 0} where
  -- the parts that stand before the rest of a body
  abbrev pub under : (Tree N → Tree N) → Ran N H → Ran N H
  under f r = record { tree = f r.tree; heap = r.heap; end = r.end }

  -- a compound statement, and then the rest where it is done
  abbrev pub sequence_by : End → Ran N H → (H → Ran N H) → Ran N H
  sequence_by Done t rest = under (S t.tree) (rest t.heap)
  sequence_by (Stop k line) t rest = record { tree = S t.tree E; heap = t.heap; end = Stop k line }

  abbrev pub sequence : Ran N H → (H → Ran N H) → Ran N H
  sequence t rest = sequence_by t.end t rest

  abbrev pub beside : Ran N H → Ran N H → Ran N H
  beside l r = record { tree = P l.tree r.tree; heap = r.heap; end = first_stop l.end r.end }

  -- both sides, also where the left one stops
  abbrev pub both : Ran N H → (H → Ran N H) → Ran N H
  both l right = beside l (right l.heap)

  -- the same tree and end, where the right side was run first
  abbrev pub after_right : Ran N H → Ran N H → Ran N H
  after_right l r = record { tree = P l.tree r.tree; heap = l.heap; end = first_stop l.end r.end }

  abbrev pub right_first : (H → Ran N H) → Ran N H → Ran N H
  right_first left r = after_right (left r.heap) r

  abbrev pub sides : Bool → (H → Ran N H) → (H → Ran N H) → H → Ran N H
  sides true left right heap = both (left heap) right
  sides false left right heap = right_first left (right heap)

  abbrev pub stopped : H → FaultKind → ℕ → Ran N H
  stopped heap k line = record { tree = E; heap = heap; end = Stop k line }

module _ {N H : Type 0} (st : Store N H) where
  abbrev pub made : Deeper N H → ℕ → N → List Stmt → Env N → H → Path → Ran N H
  made deeper d m rest env heap path = under A (deeper rest (bind d (ref m) env) (st.opened heap m) (path ++ 3 ∷ []))

  -- a statement that has no fault, and the rest of its body
  abbrev pub act : Deeper N H → Action N → List Stmt → Env N → H → Path → Ran N H
  act deeper (Bind x v) rest env heap path = deeper rest (bind x v env) heap path
  act deeper (Make d) rest env heap path = made deeper d (st.fresh path heap) rest env heap path
  act deeper (Put m v) rest env heap path =
      under (W m v) (deeper rest env (st.put heap m v) (path ++ 3 ∷ []))
  act deeper (Body body inner) rest env heap path =
      sequence (deeper body inner heap (path ++ 0 ∷ [])) (λ after. deeper rest env after (path ++ 1 ∷ []))
  act deeper (Block block reads body inner) rest env heap path =
      sequence (under (R block env reads) (deeper body inner heap (path ++ 0 ∷ 2 ∷ []))) (λ after. deeper rest env after (path ++ 1 ∷ []))
  act deeper (Sides left right) rest env heap path =
      sequence
      (sides (st.left_first path) (λ before. deeper left env before (path ++ 0 ∷ 0 ∷ [])) (λ before. deeper right env before (path ++ 0 ∷ 1 ∷ [])) heap)
      (λ after. deeper rest env after (path ++ 1 ∷ []))

  abbrev pub act_or_stop : Deeper N H → Result (Action N) FaultKind → ℕ → List Stmt → Env N → H → Path → Ran N H
  act_or_stop deeper (Ok a) line rest env heap path = act deeper a rest env heap path
  act_or_stop deeper (Err k) line rest env heap path = stopped heap k line

module _ {N H : Type 0} (st : Store N H) (w : Setting N) where
  -- one read: the modifiable and its value
  abbrev pub read_of : Env N → H → ReadItem → Result (N × Value N) FaultKind
  read_of env heap item = do
    v ← value_of w env item.from
    m ← target v
    x ← or_kind (st.get heap m)
    Ok (m, x)

module _ {N H : Type 0} (st : Store N H) (w : Setting N) (funcs : List Func) where
  -- what a statement asks for: its expressions are evaluated in order, and the first fault decides
  abbrev pub action_of : Env N → H → Stmt-F Stmt → Result (Action N) FaultKind
  action_of env heap (Stmt-F.Let line x e) = do
    v ← value_of w env e
    Ok (Bind x v)
  action_of env heap (Stmt-F.New line d) = Ok (Make d)
  action_of env heap (Stmt-F.Write line d e) = do
    v ← value_of w env e
    m ← destination env d
    Ok (Put m v)
  action_of env heap (Stmt-F.Read line block items body) = do
    reads ← in_order (map (read_of st w env heap) items)
    Ok (Block block reads body (with_reads env items reads))
  action_of env heap (Stmt-F.If line e first second) = do
    v ← value_of w env e
    b ← as_bool v
    Ok (Body (if b then first else second) env)
  action_of env heap (Stmt-F.Par line left right) = Ok (Sides left right)
  action_of env heap (Stmt-F.Call line f values dests) = do
    vs ← in_order (map (value_of w env) values)
    ds ← in_order (map (reference env) dests)
    call_of (func_named f funcs) vs ds

  -- one statement, and the rest of its body
  abbrev pub step : Deeper N H → Stmt-F Stmt → List Stmt → Env N → H → Path → Ran N H
  step deeper s rest env heap path = act_or_stop st deeper (action_of env heap s) (line_of s) rest env heap path

  -- a run of statements that may go so many levels deeper
  unfoldable pub run : ℕ → Deeper N H
  run room [] env heap path = record { tree = E; heap = heap; end = Done }
  run zero (s ∷ rest) env heap path = stopped heap TooDeep (line_of (out-Stmt s))
  run (suc room) (s ∷ rest) env heap path = step (run room) (out-Stmt s) rest env heap path

  pub run_none : (room : ℕ) (env : Env N) (heap : H) (path : Path) → run room [] env heap path ≡ record { tree = E; heap = heap; end = Done }
  unfolding run
  run_none zero env heap path = refl
  run_none (suc room) env heap path = refl

  pub run_full : (s : Stmt) (rest : List Stmt) (env : Env N) (heap : H) (path : Path) → run 0 (s ∷ rest) env heap path ≡ stopped heap TooDeep (line_of (out-Stmt s))
  unfolding run
  run_full s rest env heap path = refl

  pub run_more : (room : ℕ) (s : Stmt) (rest : List Stmt) (env : Env N) (heap : H) (path : Path) → run (suc room) (s ∷ rest) env heap path ≡ step (run room) (out-Stmt s) rest env heap path
  unfolding run
  run_more room s rest env heap path = refl

-- how names are read, and which side of each par is run first
pub record Manner : Type 0 where
  pub get : Heap → Name → Option (Value Name)
  pub left_first : Path → Bool

-- names by paths, in a manner
abbrev pub by_path_in : Manner → Store Name Heap
by_path_in a =
    record { fresh = λ path heap. Made path; opened = λ heap m. heap; get = a.get; put = λ heap m v. (m, v) ∷ heap; left_first = a.left_first }

-- as the heap has it, and the left side first
abbrev pub plainly : Manner
plainly = record { get = held; left_first = λ path. true }

-- the names of the definition: by paths
abbrev pub by_path : Store Name Heap
by_path = by_path_in plainly
