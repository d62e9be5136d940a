-- What a stack of symbols stands for, in the grammar's words.
use Rattle.std.proofs.Common.{◌≡◌, ℕ, zero, suc, ◌+◌, ◌-◌, Bool, true, false, List, [], ◌∷◌, ◌++◌, length, sym, ap, ◌∙◌}
use Rattle.psac_syntax.specs.declared.program.Expr.{Expr}
use Rattle.psac_syntax.specs.declared.program.Stmt.{Stmt}
use Rattle.psac_syntax.specs.declared.program.ReadItem.{ReadItem}
use Rattle.psac_syntax.specs.declared.program.Func.{Func}
use Rattle.psac_tokens.specs.declared.token.Kind.{Kind}
use Rattle.psac_tokens.specs.declared.token.Kind.TheVariants as kinds
use Rattle.psac_tokens.specs.declared.token.Token.{Token}
use Rattle.psac_grammar.specs.Marked.{Marked, plain, token, by_values, begins_with}
use Rattle.psac_grammar.specs.Grammar.{IsExpr, start_of, row_word, is_chain, top, NameList, header_values, header_dests, call_dests, IsMoreNames, IsNames, IsMoreValues, IsValues, IsMoreItems, IsStmts, IsFuncs}
use Rattle.psac_grammar.specs.Machine.{Symbol, one_of, make, level, tail, after_rows, value, values, more_values, names, more_names, more_items, block, statements, functions, Item, of_expr, of_names, of_values, of_items, of_stmts, of_funcs, Move, take, pass, refuse, closing_of}
use Rattle.psac_grammar.proofs.Through.{plain-append}

-- something of the grammar is at the front
pub record Front {X : Type 0} (G : List Marked → X → Type 0) (ts : List Token) (After : X → List Token → Type 0) : Type 0 where
  pub ms : List Marked
  pub x : X
  pub rest : List Token
  pub good : G ms x
  pub split : ts ≡ plain ms ++ rest
  pub after : After x rest

pub record TokenThen (k : Kind) (ts : List Token) (After : Token → List Token → Type 0) : Type 0 where
  pub t : Token
  pub rest : List Token
  pub is : t.kind ≡ k
  pub split : ts ≡ t ∷ rest
  pub after : After t rest

abbrev pub ExprOf : ℕ → ℕ → List Marked → Expr × ℕ → Type 0
ExprOf n p ms x = IsExpr n p x.1 ms x.0

-- the level of the left operand
abbrev pub left_by : Bool → ℕ → ℕ
left_by true n = n
left_by false n = n - 1

abbrev pub left_of : ℕ → ℕ
left_of n = left_by (is_chain n) n

-- operators that go on with an expression
abbrev pub MoreOf : ℕ → ℕ → Expr → ℕ → List Marked → Expr × ℕ → Type 0
MoreOf n p a d ms x = (fs : List Marked) → IsExpr (left_of n) p d fs a → IsExpr n p x.1 (fs ++ ms) x.0

abbrev pub RowsOf : ℕ → List Marked → Expr → Type 0
RowsOf p ms e = (w : Token) → start_of w.kind w ≡ row_word → IsExpr 0 p 1 (token w ∷ ms) e

pub record ValueOf (c : ℕ) (ms : List Marked) (x : Expr × ℕ) : Type 0 where
  pub ns : List Marked
  pub is : ms ≡ begins_with (by_values c) ns
  pub good : IsExpr top 0 x.1 ns x.0

abbrev pub Needed : ℕ → List Func → Type 0
Needed zero [] = ⊥
Needed zero (f ∷ fs) = Unit {0}
Needed (suc c) fs = Unit {0}

abbrev pub FuncsOf : ℕ → List Marked → List Func → Type 0
FuncsOf c ms fs = IsFuncs c ms fs × Needed c fs

-- a body in its braces
abbrev pub BlockThen : ℕ → ℕ → List Token → (List Stmt → List Token → Type 0) → Type 0
BlockThen b n ts A = TokenThen kinds.LeftBrace ts (λ o rest. Front (IsStmts (b + 1) n 0) rest (λ ss rest. TokenThen kinds.RightBrace rest (λ r rest. A ss rest)))

abbrev pub on_expr : List Item → (Expr → ℕ → List Item → Type 0) → Type 0
on_expr (of_expr a d ∷ vs) P = P a d vs
on_expr _ P = Unit {0}

abbrev pub on_stmts : List Item → (List Stmt → List Item → Type 0) → Type 0
on_stmts (of_stmts ss ∷ vs) P = P ss vs
on_stmts _ P = Unit {0}

abbrev pub on_items : List Item → (List ReadItem → List Item → Type 0) → Type 0
on_items (of_items items ∷ vs) P = P items vs
on_items _ P = Unit {0}

abbrev pub on_names : List Item → (List ℕ → List Item → Type 0) → Type 0
on_names (of_names xs ∷ vs) P = P xs vs
on_names _ P = Unit {0}

abbrev pub on_values : List Item → (List Expr → List Item → Type 0) → Type 0
on_values (of_values es ∷ vs) P = P es vs
on_values _ P = Unit {0}

abbrev pub on_funcs : List Item → (List Func → List Item → Type 0) → Type 0
on_funcs (of_funcs fs ∷ vs) P = P fs vs
on_funcs _ P = Unit {0}

-- what stands behind a list of names
abbrev pub BehindList : NameList → ℕ → List Item → List Token → (List Item → List Token → Type 0) → Type 0
BehindList header_values n vs ts A =
    Front (IsNames header_dests n) ts (λ ys rest. TokenThen kinds.RightParen rest (λ z rest. BlockThen 0 (n + length ys) rest (λ ss rest. A (of_stmts ss ∷ of_names ys ∷ vs) rest)))
BehindList header_dests n vs ts A = BlockThen 0 n ts (λ ss rest. A (of_stmts ss ∷ vs) rest)
BehindList call_dests n vs ts A = A vs ts

abbrev pub ListThen : (List Marked → List ℕ → Type 0) → NameList → ℕ → List ℕ → List Item → List Token → (List Item → List Token → Type 0) → Type 0
ListThen G l n so vs ts A = Front G ts (λ xs rest. TokenThen (closing_of l) rest (λ z rest. BehindList l (n + length xs) (of_names (so ++ xs) ∷ vs) rest A))

-- the values and the destinations of a call
abbrev pub ValuesThen : (List Marked → List Expr → Type 0) → List Expr → List Item → List Token → (List Item → List Token → Type 0) → Type 0
ValuesThen G so vs ts A =
    Front G ts (λ es rest. TokenThen kinds.Semicolon rest (λ z rest. Front (IsNames call_dests 0) rest (λ xs rest. TokenThen kinds.RightParen rest (λ q rest. A (of_names xs ∷ of_values (so ++ es) ∷ vs) rest))))

-- What a symbol stands for is at the front, and what is built then.
abbrev pub Reads : Symbol → List Item → List Token → (List Item → List Token → Type 0) → Type 0
Reads (one_of k by new) vs ts A = TokenThen k ts (λ t rest. A (new t ++ vs) rest)
Reads (make f) vs ts A = A (f vs).1 ts
Reads (level n p) vs ts A = Front (ExprOf n p) ts (λ x rest. A (of_expr x.0 x.1 ∷ vs) rest)
Reads (tail n p) vs ts A = on_expr vs (λ a d vs. Front (MoreOf n p a d) ts (λ x rest. A (of_expr x.0 x.1 ∷ vs) rest))
Reads (after_rows p) vs ts A = Front (RowsOf p) ts (λ e rest. A (of_expr e 1 ∷ vs) rest)
Reads (value c) vs ts A = Front (ValueOf c) ts (λ x rest. A (of_expr x.0 x.1 ∷ vs) rest)
Reads values vs ts A = on_values vs (λ so vs. ValuesThen IsValues so vs ts A)
Reads (more_values c) vs ts A = on_values vs (λ so vs. ValuesThen (IsMoreValues c) so vs ts A)
Reads (names l n) vs ts A = on_names vs (λ so vs. ListThen (IsNames l n) l n so vs ts A)
Reads (more_names l n) vs ts A = on_names vs (λ so vs. ListThen (IsMoreNames l n) l n so vs ts A)
Reads (more_items many b n) vs ts A = on_items vs (λ so vs. Front (IsMoreItems n many) ts (λ items rest. BlockThen b (n + (many + length items)) rest (λ ss rest. A (of_stmts ss ∷ of_items (so ++ items) ∷ vs) rest)))
Reads (block b n) vs ts A = BlockThen b n ts (λ ss rest. A (of_stmts ss ∷ vs) rest)
Reads (statements b n c) vs ts A = on_stmts vs (λ so vs. Front (IsStmts b n c) ts (λ ss rest. A (of_stmts (so ++ ss) ∷ vs) rest))
Reads (functions c) vs ts A = on_funcs vs (λ so vs. Front (FuncsOf c) ts (λ fs rest. A (of_funcs (so ++ fs) ∷ vs) rest))

-- The tokens are what the symbols stand for, one after the other, and ws is what is built in the end.
abbrev pub Derives : List Symbol → List Item → List Token → List Item → Type 0
Derives [] vs ts ws = (ts ≡ []) × (vs ≡ ws)
Derives (x ∷ s) vs ts ws = Reads x vs ts (λ us rest. Derives s us rest ws)

-- a move that takes a token, or one that passes, leads to R
abbrev pub Takes : Type 0 → List Item → List Token → List Symbol → List Item → Move → Type 0
Takes R vs ts s ws (take m more new) = Derives (more ++ s) (new ++ vs) ts ws → R
Takes R vs ts s ws (pass f) = Unit {0}
Takes R vs ts s ws refuse = Unit {0}

abbrev pub Passes : Type 0 → List Item → List Token → List Symbol → List Item → Move → Type 0
Passes R vs ts s ws (take m more new) = Unit {0}
Passes R vs ts s ws (pass f) = Derives s (f vs).1 ts ws → R
Passes R vs ts s ws refuse = Unit {0}

pub any_take : (vs : List Item) (ts : List Token) (s : List Symbol) (ws : List Item) (m : Move) → Takes (Unit {0}) vs ts s ws m
any_take vs ts s ws (take m more new) = λ d. tt
any_take vs ts s ws (pass f) = tt
any_take vs ts s ws refuse = tt

pub any_pass : (vs : List Item) (ts : List Token) (s : List Symbol) (ws : List Item) (m : Move) → Passes (Unit {0}) vs ts s ws m
any_pass vs ts s ws (take m more new) = tt
any_pass vs ts s ws (pass f) = λ d. tt
any_pass vs ts s ws refuse = tt

pub splits : {ts r1 : List Token} (ms ns : List Marked) (r2 : List Token) → ts ≡ plain ms ++ r1 → r1 ≡ plain ns ++ r2 → ts ≡ plain (ms ++ ns) ++ r2
splits {ts} {r1} ms ns r2 h j = h ∙ ap (λ r. plain ms ++ r) j ∙ sym (plain-append ms ns r2)

pub behind : {t : Token} {ts us : List Token} → ts ≡ us → t ∷ ts ≡ t ∷ us
behind {t} {ts} {us} h = ap (λ (r : List Token). t ∷ r) h
