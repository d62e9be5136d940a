-- The grammar: which lists of tokens are an expression, statements or a program, and what they are.
use Rattle.std.specs.Prelude.{◌≡◌, ℕ, zero, suc, ◌+◌, ◌<◌, max, Bool, true, false, List, [], ◌∷◌, ◌++◌, length, Option, Some, None}
use Rattle.psac_ops.specs.declared.op.Op.{Op}
use Rattle.psac_ops.specs.declared.op.Op.TheVariants as op
use Rattle.psac_syntax.specs.declared.program.Expr.{Expr}
use Rattle.psac_syntax.specs.declared.program.Expr.TheVariants as expr
use Rattle.psac_syntax.specs.declared.program.Stmt.{Stmt}
use Rattle.psac_syntax.specs.declared.program.Stmt.TheVariants as stmt
use Rattle.psac_syntax.specs.declared.program.ReadItem.{ReadItem}
use Rattle.psac_syntax.specs.declared.program.Func.{Func}
use Rattle.psac_tokens.specs.declared.token.Kind.{Kind}
use Rattle.psac_tokens.specs.declared.token.Kind.TheVariants as k
use Rattle.psac_tokens.specs.declared.token.Token.{Token}
use Rattle.psac_grammar.specs.Marked.{Mark, Marked, token, by_size, by_name, by_names, by_dests, by_values, by_parens, by_bodies, by_statements, by_funcs, is_deep, ends_deep, begins_with}

-- the loosest level of operators
abbrev pub top : ℕ
top = 5

-- operators of a level stand in a chain; but of comparisons, the level 3, no two stand side by side
abbrev pub is_chain : ℕ → Bool
is_chain (suc (suc (suc zero))) = false
is_chain _ = true

abbrev pub product_of : Kind → Option Op
product_of k.Star = Some op.Mul
product_of k.Slash = Some op.Div
product_of k.Percent = Some op.Rem
product_of _ = None

abbrev pub sum_of : Kind → Option Op
sum_of k.Plus = Some op.Add
sum_of k.Minus = Some op.Sub
sum_of _ = None

abbrev pub comparison_of : Kind → Option Op
comparison_of k.Equal = Some op.Eq
comparison_of k.Unequal = Some op.Ne
comparison_of k.Less = Some op.Lt
comparison_of k.AtMost = Some op.Le
comparison_of k.Greater = Some op.Gt
comparison_of k.AtLeast = Some op.Ge
comparison_of _ = None

abbrev pub and_of : Kind → Option Op
and_of k.And = Some op.And
and_of _ = None

abbrev pub or_of : Kind → Option Op
or_of k.Or = Some op.Or
or_of _ = None

-- the operator that a token is between operands of a level
unfoldable pub operator_at : ℕ → Kind → Option Op
operator_at zero k = None
operator_at (suc zero) k = product_of k
operator_at (suc (suc zero)) k = sum_of k
operator_at (suc (suc (suc zero))) k = comparison_of k
operator_at (suc (suc (suc (suc zero)))) k = and_of k
operator_at (suc (suc (suc (suc (suc zero))))) k = or_of k
operator_at (suc (suc (suc (suc (suc (suc n)))))) k = None

abbrev pub apply_one : Op → Expr → Expr
apply_one o a = expr.Apply o (a ∷ [])

abbrev pub apply_two : Op → Expr → Expr → Expr
apply_two o a b = expr.Apply o (a ∷ b ∷ [])

-- what an operand begins with
pub data Start : Type 0 where
  -- it is this expression, and whole
  constant : (e : Expr) → Start
  -- a word that stands before one argument in parentheses, and what it makes of it
  one : (f : Expr → Expr) → Start
  -- before two arguments
  two : (f : Expr → Expr → Expr) → Start
  inner : Start
  -- the number of rows, or the modifiable that holds it
  row_word : Start
  no_start : Start

abbrev pub start_of : Kind → Token → Start
start_of k.Int t = constant (expr.Int t.number)
start_of k.Name t = constant (expr.Name t.index)
start_of k.Text t = constant (expr.Text t.index)
start_of k.True t = constant (expr.Bool true)
start_of k.False t = constant (expr.Bool false)
start_of k.Nil t = constant expr.Nil
start_of k.Rows t = row_word
start_of k.Cols t = constant expr.Cols
start_of k.Not t = one (apply_one op.Not)
start_of k.Neg t = one (apply_one op.Neg)
start_of k.Abs t = one (apply_one op.Abs)
start_of k.Len t = one (apply_one op.Len)
start_of k.Fst t = one (apply_one op.Fst)
start_of k.Snd t = one (apply_one op.Snd)
start_of k.Cell t = two expr.Cell
start_of k.Min t = two (apply_two op.Min)
start_of k.Max t = two (apply_two op.Max)
start_of k.Pair t = two (apply_two op.Pair)
start_of k.LeftParen t = inner
start_of _ t = no_start

-- IsExpr n p d ms e: inside p parentheses the tokens are the expression e, of depth d, with operators up to level n.
pub data IsExpr : ℕ → ℕ → ℕ → List Marked → Expr → Type 0 where
  whole : (p : ℕ) (t : Token) (e : Expr) → start_of t.kind t ≡ constant e → IsExpr 0 p 1 ((t, by_size t) ∷ []) e
  rows : (p : ℕ) (w : Token) → start_of w.kind w ≡ row_word → IsExpr 0 p 1 (token w ∷ []) expr.Rows
  row_count : (p : ℕ) (w a b : Token) → start_of w.kind w ≡ row_word → a.kind ≡ k.LeftParen → b.kind ≡ k.RightParen
      → IsExpr 0 p 1 (token w ∷ (a, by_parens p) ∷ token b ∷ []) expr.RowCount
  parenthesized : (p d : ℕ) (a b : Token) (ms : List Marked) (e : Expr) → start_of a.kind a ≡ inner → IsExpr top (p + 1) d ms e → b.kind ≡ k.RightParen
      → IsExpr 0 p d ((a, by_parens p) ∷ ms ++ token b ∷ []) e
  with_one : (p d : ℕ) (w a b : Token) (f : Expr → Expr) (ms : List Marked) (e : Expr)
      → start_of w.kind w ≡ one f → a.kind ≡ k.LeftParen → IsExpr top (p + 1) d ms e → b.kind ≡ k.RightParen
      → IsExpr 0 p (d + 1) (token w ∷ (a, by_parens p) ∷ ms ++ ends_deep (is_deep (d + 1)) (token b ∷ [])) (f e)
  with_two : (p d g : ℕ) (w a b c : Token) (f : Expr → Expr → Expr) (ms ns : List Marked) (x y : Expr)
      → start_of w.kind w ≡ two f → a.kind ≡ k.LeftParen → IsExpr top (p + 1) d ms x → b.kind ≡ k.Comma → IsExpr top (p + 1) g ns y → c.kind ≡ k.RightParen
      → IsExpr 0 p (max d g + 1) (token w ∷ (a, by_parens p) ∷ ms ++ (token b ∷ ns ++ ends_deep (is_deep (max d g + 1)) (token c ∷ []))) (f x y)
  alone : (n p d : ℕ) (ms : List Marked) (e : Expr) → IsExpr n p d ms e → IsExpr (suc n) p d ms e
  chain : (n p d g : ℕ) (t : Token) (o : Op) (ms ns : List Marked) (a b : Expr)
      → is_chain (suc n) ≡ true → IsExpr (suc n) p d ms a → operator_at (suc n) t.kind ≡ Some o → IsExpr n p g ns b
      → IsExpr (suc n) p (max d g + 1) (ms ++ token t ∷ ends_deep (is_deep (max d g + 1)) ns) (apply_two o a b)
  compare : (n p d g : ℕ) (t : Token) (o : Op) (ms ns : List Marked) (a b : Expr)
      → is_chain (suc n) ≡ false → IsExpr n p d ms a → operator_at (suc n) t.kind ≡ Some o → IsExpr n p g ns b
      → IsExpr (suc n) p (max d g + 1) (ms ++ token t ∷ ends_deep (is_deep (max d g + 1)) ns) (apply_two o a b)

-- the lists of names: those of a header bind, and those of a call are its destinations
pub data NameList : Type 0 where
  header_values : NameList
  header_dests : NameList
  call_dests : NameList

-- the limit on a NAME of a list; in a header the number is of the names in scope
abbrev pub by_list : NameList → ℕ → Token → Mark
by_list call_dests = by_dests
by_list _ = by_names

-- IsMoreNames l n ms xs: behind n names the tokens are the further names xs.
pub data IsMoreNames : NameList → ℕ → List Marked → List ℕ → Type 0 where
  none : (l : NameList) (n : ℕ) → IsMoreNames l n [] []
  more : (l : NameList) (n : ℕ) (c t : Token) (ms : List Marked) (xs : List ℕ) → c.kind ≡ k.Comma → t.kind ≡ k.Name → IsMoreNames l (n + 1) ms xs
      → IsMoreNames l n (token c ∷ (t, by_list l n t) ∷ ms) (t.index ∷ xs)

pub data IsNames : NameList → ℕ → List Marked → List ℕ → Type 0 where
  none : (l : NameList) (n : ℕ) → IsNames l n [] []
  some : (l : NameList) (n : ℕ) (t : Token) (ms : List Marked) (xs : List ℕ) → t.kind ≡ k.Name → IsMoreNames l (n + 1) ms xs
      → IsNames l n ((t, by_list l n t) ∷ ms) (t.index ∷ xs)

-- IsMoreValues n ms es: behind n values of a call the tokens are the further values es.
pub data IsMoreValues : ℕ → List Marked → List Expr → Type 0 where
  none : (n : ℕ) → IsMoreValues n [] []
  more : (n d : ℕ) (c : Token) (ms ns : List Marked) (e : Expr) (es : List Expr) → c.kind ≡ k.Comma → IsExpr top 0 d ms e → IsMoreValues (n + 1) ns es
      → IsMoreValues n (token c ∷ begins_with (by_values n) ms ++ ns) (e ∷ es)

pub data IsValues : List Marked → List Expr → Type 0 where
  none : IsValues [] []
  some : (d : ℕ) (ms ns : List Marked) (e : Expr) (es : List Expr) → IsExpr top 0 d ms e → IsMoreValues 1 ns es → IsValues (ms ++ ns) (e ∷ es)

abbrev pub most_items : ℕ
most_items = 4

abbrev pub item : Expr → ℕ → ReadItem
item e x = record { from = e; bound = x }

-- IsMoreItems n count ms is: beside n names in scope and behind so many items the tokens are what a `read` reads further.
pub data IsMoreItems : ℕ → ℕ → List Marked → List ReadItem → Type 0 where
  none : (n count : ℕ) → IsMoreItems n count [] []
  more : (n count d : ℕ) (c w t : Token) (ms ns : List Marked) (e : Expr) (items : List ReadItem)
      → count < most_items → c.kind ≡ k.Comma → IsExpr top 0 d ms e → w.kind ≡ k.As → t.kind ≡ k.Name → IsMoreItems n (count + 1) ns items
      → IsMoreItems n count (token c ∷ ms ++ (token w ∷ (t, by_names (n + count) t) ∷ ns)) (item e t.index ∷ items)

pub data IsItems : ℕ → List Marked → List ReadItem → Type 0 where
  items : (n d : ℕ) (w t : Token) (ms ns : List Marked) (e : Expr) (items : List ReadItem)
      → IsExpr top 0 d ms e → w.kind ≡ k.As → t.kind ≡ k.Name → IsMoreItems n 1 ns items
      → IsItems n (ms ++ (token w ∷ (t, by_names n t) ∷ ns)) (item e t.index ∷ items)

-- IsStmts b n c ms ss: inside b bodies, beside n names in scope and behind c statements of the body, the tokens are the statements ss.
pub data IsStmts : ℕ → ℕ → ℕ → List Marked → List Stmt → Type 0 where
  none : (b n c : ℕ) → IsStmts b n c [] []
  bind : (b n c d : ℕ) (w t a s : Token) (ms ns : List Marked) (e : Expr) (ss : List Stmt)
      → w.kind ≡ k.Let → t.kind ≡ k.Name → a.kind ≡ k.Assign → IsExpr top 0 d ms e → s.kind ≡ k.Semicolon → IsStmts b (n + 1) (c + 1) ns ss
      → IsStmts b n c ((w, by_statements c) ∷ (t, by_names n t) ∷ token a ∷ ms ++ token s ∷ ns) (stmt.Let w.line t.index e ∷ ss)
  make : (b n c : ℕ) (w t s : Token) (ns : List Marked) (ss : List Stmt)
      → w.kind ≡ k.New → t.kind ≡ k.Name → s.kind ≡ k.Semicolon → IsStmts b (n + 1) (c + 1) ns ss
      → IsStmts b n c ((w, by_statements c) ∷ (t, by_names n t) ∷ token s ∷ ns) (stmt.New w.line t.index ∷ ss)
  write : (b n c d : ℕ) (w t a s : Token) (ms ns : List Marked) (e : Expr) (ss : List Stmt)
      → w.kind ≡ k.Write → t.kind ≡ k.Name → a.kind ≡ k.Assign → IsExpr top 0 d ms e → s.kind ≡ k.Semicolon → IsStmts b n (c + 1) ns ss
      → IsStmts b n c ((w, by_statements c) ∷ (t, by_name t) ∷ token a ∷ ms ++ token s ∷ ns) (stmt.Write w.line t.index e ∷ ss)
  read : (b n c : ℕ) (w l r : Token) (is body ns : List Marked) (items : List ReadItem) (inside ss : List Stmt)
      → w.kind ≡ k.Read → IsItems n is items → l.kind ≡ k.LeftBrace → IsStmts (b + 1) (n + length items) 0 body inside → r.kind ≡ k.RightBrace → IsStmts b n (c + 1) ns ss
      → IsStmts b n c ((w, by_statements c) ∷ is ++ ((l, by_bodies b) ∷ body ++ token r ∷ ns)) (stmt.Read w.line w.index items inside ∷ ss)
  choose : (b n c d : ℕ) (w l r x o q : Token) (ms yes no ns : List Marked) (e : Expr) (first second ss : List Stmt)
      → w.kind ≡ k.If → IsExpr top 0 d ms e → l.kind ≡ k.LeftBrace → IsStmts (b + 1) n 0 yes first → r.kind ≡ k.RightBrace
      → x.kind ≡ k.Else → o.kind ≡ k.LeftBrace → IsStmts (b + 1) n 0 no second → q.kind ≡ k.RightBrace → IsStmts b n (c + 1) ns ss
      → IsStmts b n c ((w, by_statements c) ∷ ms ++ ((l, by_bodies b) ∷ yes ++ (token r ∷ token x ∷ (o, by_bodies b) ∷ no ++ token q ∷ ns)))
      (stmt.If w.line e first second ∷ ss)
  both : (b n c : ℕ) (w l r o q : Token) (left right ns : List Marked) (first second ss : List Stmt)
      → w.kind ≡ k.Par → l.kind ≡ k.LeftBrace → IsStmts (b + 1) n 0 left first → r.kind ≡ k.RightBrace
      → o.kind ≡ k.LeftBrace → IsStmts (b + 1) n 0 right second → q.kind ≡ k.RightBrace → IsStmts b n (c + 1) ns ss
      → IsStmts b n c ((w, by_statements c) ∷ (l, by_bodies b) ∷ left ++ (token r ∷ (o, by_bodies b) ∷ right ++ token q ∷ ns)) (stmt.Par w.line first second ∷ ss)
  call : (b n c : ℕ) (w t a s z e : Token) (vs ds ns : List Marked) (values : List Expr) (dests : List ℕ) (ss : List Stmt)
      → w.kind ≡ k.Call → t.kind ≡ k.Name → a.kind ≡ k.LeftParen → IsValues vs values → s.kind ≡ k.Semicolon → IsNames call_dests 0 ds dests → z.kind ≡ k.RightParen
      → e.kind ≡ k.Semicolon → IsStmts b n (c + 1) ns ss
      → IsStmts b n c ((w, by_statements c) ∷ (t, by_name t) ∷ token a ∷ vs ++ (token s ∷ ds ++ (token z ∷ token e ∷ ns))) (stmt.Call w.line t.index values dests ∷ ss)

abbrev pub function : Token → Token → List ℕ → List ℕ → List Stmt → Func
function w t values dests body = record { name = t.index; values = values; dests = dests; body = body; line = w.line }

-- IsFuncs c ms fs: behind c functions the tokens are the functions fs.
pub data IsFuncs : ℕ → List Marked → List Func → Type 0 where
  none : (c : ℕ) → IsFuncs c [] []
  func : (c : ℕ) (w t a s z l r : Token) (vs ds body ns : List Marked) (values dests : List ℕ) (ss : List Stmt) (fs : List Func)
      → w.kind ≡ k.Func → t.kind ≡ k.Name → a.kind ≡ k.LeftParen → IsNames header_values 0 vs values → s.kind ≡ k.Semicolon
      → IsNames header_dests (length values) ds dests → z.kind ≡ k.RightParen
      → l.kind ≡ k.LeftBrace → IsStmts 1 (length values + length dests) 0 body ss → r.kind ≡ k.RightBrace → IsFuncs (c + 1) ns fs
      → IsFuncs c ((w, by_funcs c) ∷ (t, by_name t) ∷ token a ∷ vs ++ (token s ∷ ds ++ (token z ∷ (l, by_bodies 0) ∷ body ++ token r ∷ ns)))
      (function w t values dests ss ∷ fs)

-- one or more functions, and then the end
pub data IsText : List Marked → List Func → Type 0 where
  text : (ms : List Marked) (f : Func) (fs : List Func) (e : Token) → IsFuncs 0 ms (f ∷ fs) → e.kind ≡ k.End → IsText (ms ++ token e ∷ []) (f ∷ fs)
