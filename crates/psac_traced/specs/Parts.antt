-- A record that a run left, opened part by part: what each part is a record of, and what may stand in its place.
use Rattle.std.specs.Prelude.{◌≡◌, ℕ, List, ◌∷◌, ◌++◌, map, Some, Ok}
use Rattle.psac_syntax.specs.declared.program.Stmt.{Stmt, out-Stmt}
use Rattle.psac_syntax.specs.declared.program.Stmt.TheOpen.{Stmt-F}
use Rattle.psac_syntax.specs.declared.program.ReadItem.{ReadItem}
use Rattle.psac_syntax.specs.declared.program.Func.{Func}
use Rattle.psac_model.specs.declared.ends.End.{End}
use Rattle.psac_model.specs.declared.ends.End.TheVariants.{Done}
use Rattle.psac_model.specs.Names.{Env}
use Rattle.psac_model.specs.Expression.{Setting, in_order}
use Rattle.psac_model.specs.Tree.{Reads}
use Rattle.psac_model.specs.Run.{read_of, with_reads, first_stop, func_named}
use Rattle.psac_traced.specs.Rec.{Rec, S, P, R, HeapOf, writes}
use Rattle.psac_traced.specs.Traced.{listed, goes_on, traced}

-- what is so of statements is so of those inside them and behind them
pub record IsClosed (funcs : List Func) (Q : List Stmt → Type 0) : Type 0 where
  pub tail : (s : Stmt) (rest : List Stmt) → Q (s ∷ rest) → Q rest
  pub block : (s : Stmt) (rest : List Stmt) (line number : ℕ) (items : List ReadItem) (body : List Stmt) → out-Stmt s ≡ Stmt-F.Read line number items body → Q (s ∷ rest) → Q body
  pub first : (s : Stmt) (rest : List Stmt) (line : ℕ) (e : _) (one other : List Stmt) → out-Stmt s ≡ Stmt-F.If line e one other → Q (s ∷ rest) → Q one
  pub second : (s : Stmt) (rest : List Stmt) (line : ℕ) (e : _) (one other : List Stmt) → out-Stmt s ≡ Stmt-F.If line e one other → Q (s ∷ rest) → Q other
  pub left : (s : Stmt) (rest : List Stmt) (line : ℕ) (one other : List Stmt) → out-Stmt s ≡ Stmt-F.Par line one other → Q (s ∷ rest) → Q one
  pub right : (s : Stmt) (rest : List Stmt) (line : ℕ) (one other : List Stmt) → out-Stmt s ≡ Stmt-F.Par line one other → Q (s ∷ rest) → Q other
  pub called : (f : ℕ) (g : Func) → func_named f funcs ≡ Some g → Q g.body

module _ {N : Type 0} (w : Setting N) (funcs : List Func) (Q : List Stmt → Type 0) (room : ℕ) (body : List Stmt) (env : Env N) (heap : HeapOf N) where
  -- a part that stands before the rest of a body, A or W
  pub record Onward (push : HeapOf N → HeapOf N) (wrap : Rec N → Rec N) (r : Rec N) : Type 0 where
    pub inner : ℕ
    pub rest : List Stmt
    pub here : Env N
    pub more_so : Q rest
    pub more : traced w funcs inner rest here (push heap) r Done
    pub back : (other : HeapOf N) (s : Rec N) (end : End) → traced w funcs inner rest here (push other) s end → traced w funcs room body env other (wrap s) end

  -- an if or a call, and the rest
  pub record Within (t r : Rec N) : Type 0 where
    pub inner : ℕ
    pub first : List Stmt
    pub there : Env N
    pub rest : List Stmt
    pub here : Env N
    pub one_so : Q first
    pub more_so : Q rest
    pub one : traced w funcs inner first there heap t Done
    pub more : traced w funcs inner rest here (writes t ++ heap) r Done
    pub back : (other : HeapOf N) (u : Rec N) (e : End) (s : Rec N) (end : End) → traced w funcs inner first there other u e → goes_on e (traced w funcs inner) rest here (writes u ++ other) s end → traced w funcs room body env other (S u s) end

  -- a read block, and the rest: the block may read other values of the same modifiables
  pub record Reader (inner number : ℕ) (saved : Env N) (reads : Reads N) (t r : Rec N) : Type 0 where
    pub stmt : Stmt
    pub line : ℕ
    pub items : List ReadItem
    pub first : List Stmt
    pub rest : List Stmt
    pub is : out-Stmt stmt ≡ Stmt-F.Read line number items first
    pub so : Q (stmt ∷ rest)
    pub seen : in_order (map (read_of (listed w) w saved heap) items) ≡ Ok reads
    pub one : traced w funcs inner first (with_reads saved items reads) heap t Done
    pub more : traced w funcs inner rest saved (writes t ++ heap) r Done
    pub back : (other : HeapOf N) (again : Reads N) (u : Rec N) (e : End) (s : Rec N) (end : End) → in_order (map (read_of (listed w) w saved other) items) ≡ Ok again → traced w funcs inner first (with_reads saved items again) other u e → goes_on e (traced w funcs inner) rest saved (writes u ++ other) s end → traced w funcs room body env other (S (R inner number saved again u) s) end

  -- both sides of a par, and the rest
  pub record Pair (l k r : Rec N) : Type 0 where
    pub inner : ℕ
    pub left : List Stmt
    pub right : List Stmt
    pub rest : List Stmt
    pub here : Env N
    pub left_so : Q left
    pub right_so : Q right
    pub more_so : Q rest
    pub one : traced w funcs inner left here heap l Done
    pub other : traced w funcs inner right here (writes l ++ heap) k Done
    pub more : traced w funcs inner rest here (writes k ++ (writes l ++ heap)) r Done
    pub back : (before : HeapOf N) (t u : Rec N) (e f : End) (s : Rec N) (end : End) → traced w funcs inner left here before t e → traced w funcs inner right here (writes t ++ before) u f → goes_on (first_stop e f) (traced w funcs inner) rest here (writes u ++ (writes t ++ before)) s end → traced w funcs room body env before (S (P t u) s) end

-- a record of statements: it begins with no P and no R
abbrev pub IsBody : {N : Type 0} → Rec N → Type 0
IsBody (P l r) = ⊥
IsBody (R room block env reads t) = ⊥
IsBody _ = Unit {0}
