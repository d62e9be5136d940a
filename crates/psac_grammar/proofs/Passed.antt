-- What the machine passes stands for nothing.
use Rattle.std.proofs.Common.{◌≡◌, ℕ, zero, suc, ◌-◌, Bool, true, false, cond, ltb, List, [], ◌∷◌, ◌++◌, Option, Some, None, refl, sym, subst, arith}
use Rattle.std.proofs.lemmas.List.{append-nil}
use Rattle.psac_ops.specs.declared.op.Op.{Op}
use Rattle.psac_syntax.specs.declared.program.Expr.{Expr}
use Rattle.psac_syntax.specs.declared.program.Stmt.{Stmt}
use Rattle.psac_syntax.specs.declared.program.Func.{Func}
use Rattle.psac_tokens.specs.declared.token.Kind.{Kind}
use Rattle.psac_tokens.specs.declared.token.Kind.TheVariants as kinds
use Rattle.psac_tokens.specs.declared.token.Token.{Token}
use Rattle.psac_grammar.specs.Marked.{Mark, Marked, by_values}
use Rattle.psac_grammar.specs.Grammar as g
use Rattle.psac_grammar.specs.Grammar.{IsExpr, Start, constant, one, two, inner, row_word, no_start, start_of, operator_at, is_chain, top, most_items, NameList}
use Rattle.psac_grammar.specs.Machine.{Symbol, one_of, make, level, tail, after_rows, value, values, more_values, names, more_names, more_items, block, statements, functions, same_kind, tails, value_made, Item, of_expr, of_stmts, of_funcs, take, refuse, move, operand, operators, also, values_at, values_on, closing_of, closes, names_at, names_on, items_on, statement, function_at, rows_on}
use Rattle.psac_grammar.proofs.Derives.{left_by, Derives, Passes}

no_pass_if : (R : Type 0) (vs : List Item) (ts : List Token) (s : List Symbol) (ws : List Item) (same : Bool) (m : Mark) (more : List Symbol) (new : List Item) → Passes R vs ts s ws (cond same (take m more new) refuse)
no_pass_if R vs ts s ws true m more new = tt
no_pass_if R vs ts s ws false m more new = tt

operand_pass : (R : Type 0) (vs : List Item) (ts : List Token) (s : List Symbol) (ws : List Item) (k : Start) (t : Token) (p : ℕ) (more : List Symbol) → Passes R vs ts s ws (operand k t p more)
operand_pass R vs ts s ws (constant e) t p more = tt
operand_pass R vs ts s ws (one f) t p more = tt
operand_pass R vs ts s ws (two f) t p more = tt
operand_pass R vs ts s ws inner t p more = tt
operand_pass R vs ts s ws row_word t p more = tt
operand_pass R vs ts s ws no_start t p more = tt

value_pass : (R : Type 0) (vs : List Item) (ts : List Token) (s : List Symbol) (ws : List Item) (m : Mark) (k : Start) (t : Token) (p : ℕ) (more : List Symbol) → Passes R vs ts s ws (also m (operand k t p more))
value_pass R vs ts s ws m (constant e) t p more = tt
value_pass R vs ts s ws m (one f) t p more = tt
value_pass R vs ts s ws m (two f) t p more = tt
value_pass R vs ts s ws m inner t p more = tt
value_pass R vs ts s ws m row_word t p more = tt
value_pass R vs ts s ws m no_start t p more = tt

values_pass : (R : Type 0) (vs : List Item) (ts : List Token) (s : List Symbol) (ws : List Item) (k : Kind) (t : Token) → Passes R vs ts s ws (values_at k t)
values_pass R vs ts s ws kinds.Semicolon t = tt
values_pass R vs ts s ws k t = operand_pass R vs ts s ws (start_of k t) t 0 (tails top 0 ++ (make value_made ∷ more_values 1 ∷ []))

more_values_pass : (R : Type 0) (vs : List Item) (ts : List Token) (s : List Symbol) (ws : List Item) (k : Kind) (c : ℕ) → Passes R vs ts s ws (values_on k c)
more_values_pass R vs ts s ws kinds.Comma c = tt
more_values_pass R vs ts s ws kinds.Semicolon c = tt
more_values_pass R vs ts s ws _ c = tt

closes_pass : (R : Type 0) (vs : List Item) (ts : List Token) (s : List Symbol) (ws : List Item) (k : Kind) (l : NameList) (n : ℕ) → Passes R vs ts s ws (closes k l n)
closes_pass R vs ts s ws k l n = no_pass_if R vs ts s ws (same_kind k (closing_of l)) _ _ _

names_pass : (R : Type 0) (vs : List Item) (ts : List Token) (s : List Symbol) (ws : List Item) (k : Kind) (t : Token) (l : NameList) (n : ℕ) → Passes R vs ts s ws (names_at k t l n)
names_pass R vs ts s ws kinds.Name t l n = tt
names_pass R vs ts s ws k t l n = closes_pass R vs ts s ws k l n

more_names_pass : (R : Type 0) (vs : List Item) (ts : List Token) (s : List Symbol) (ws : List Item) (k : Kind) (l : NameList) (n : ℕ) → Passes R vs ts s ws (names_on k l n)
more_names_pass R vs ts s ws kinds.Comma l n = tt
more_names_pass R vs ts s ws k l n = closes_pass R vs ts s ws k l n

items_pass : (R : Type 0) (vs : List Item) (ts : List Token) (s : List Symbol) (ws : List Item) (k : Kind) (many b n : ℕ) → Passes R vs ts s ws (items_on k many b n)
items_pass R vs ts s ws kinds.Comma many b n = no_pass_if R vs ts s ws (ltb many most_items) _ _ []
items_pass R vs ts s ws kinds.LeftBrace many b n = tt
items_pass R vs ts s ws _ many b n = tt

-- ---- what may be empty

nothing_more : (b : Bool) (n p d : ℕ) (a : Expr) (fs : List Marked) → is_chain n ≡ b → IsExpr (left_by b n) p d fs a → IsExpr n p d (fs ++ []) a
nothing_more true n p d a fs is good = let P : List Marked → Type 0 = λ ms. IsExpr n p d ms a in subst P (sym (append-nil fs)) good
nothing_more false zero p d a fs is good = absurd cc
nothing_more false (suc n) p d a fs is good =
    let P : List Marked → Type 0 = λ ms. IsExpr (suc n) p d ms a in
    let less : suc n - 1 ≡ n = omega arith in
    let Q : ℕ → Type 0 = λ m. IsExpr m p d fs a in
    subst P (sym (append-nil fs)) (g.alone n p d fs a (subst Q less good))

tail_pass : (n p : ℕ) (vs : List Item) (ts : List Token) (s : List Symbol) (ws : List Item) → Derives s vs ts ws → Derives (tail n p ∷ s) vs ts ws
tail_pass n p (of_expr a d ∷ vs) ts s ws h = record { ms = []; x = (a, d); rest = ts; good = λ fs left. nothing_more (is_chain n) n p d a fs refl left; split = refl; after = h }
tail_pass n p _ ts s ws h = tt

operators_pass : (o : Option Op) (n p : ℕ) (vs : List Item) (ts : List Token) (s : List Symbol) (ws : List Item) → Passes (Derives (tail n p ∷ s) vs ts ws) vs ts s ws (operators o n p)
operators_pass (Some o) n p vs ts s ws = tt
operators_pass None n p vs ts s ws = tail_pass n p vs ts s ws

rows_pass : (k : Kind) (p : ℕ) (vs : List Item) (ts : List Token) (s : List Symbol) (ws : List Item) → Passes (Derives (after_rows p ∷ s) vs ts ws) vs ts s ws (rows_on k p)
rows_pass kinds.LeftParen p vs ts s ws = tt
rows_pass _ p vs ts s ws = λ h. record { ms = []; x = _; rest = ts; good = λ w is. g.rows p w is; split = refl; after = h }

statements_pass : (b n c : ℕ) (vs : List Item) (ts : List Token) (s : List Symbol) (ws : List Item) → Derives s vs ts ws → Derives (statements b n c ∷ s) vs ts ws
statements_pass b n c (of_stmts so ∷ vs) ts s ws h =
    record { ms = []; x = []; rest = ts; good = g.none b n c; split = refl; after = let P : List Stmt → Type 0 = λ ss. Derives s (of_stmts ss ∷ vs) ts ws in subst P (sym (append-nil so)) h }
statements_pass b n c _ ts s ws h = tt

statement_pass : (k : Kind) (t : Token) (b n c : ℕ) (vs : List Item) (ts : List Token) (s : List Symbol) (ws : List Item) → Passes (Derives (statements b n c ∷ s) vs ts ws) vs ts s ws (statement k t b n c)
statement_pass kinds.Let t b n c vs ts s ws = tt
statement_pass kinds.New t b n c vs ts s ws = tt
statement_pass kinds.Write t b n c vs ts s ws = tt
statement_pass kinds.Read t b n c vs ts s ws = tt
statement_pass kinds.If t b n c vs ts s ws = tt
statement_pass kinds.Par t b n c vs ts s ws = tt
statement_pass kinds.Call t b n c vs ts s ws = tt
statement_pass _ t b n c vs ts s ws = statements_pass b n c vs ts s ws

functions_pass : (c : ℕ) (vs : List Item) (ts : List Token) (s : List Symbol) (ws : List Item) → Derives s vs ts ws → Derives (functions (suc c) ∷ s) vs ts ws
functions_pass c (of_funcs so ∷ vs) ts s ws h =
    record { ms = []; x = []; rest = ts; good = (g.none (suc c), tt); split = refl; after = let P : List Func → Type 0 = λ fs. Derives s (of_funcs fs ∷ vs) ts ws in subst P (sym (append-nil so)) h }
functions_pass c _ ts s ws h = tt

function_pass : (k : Kind) (t : Token) (c : ℕ) (vs : List Item) (ts : List Token) (s : List Symbol) (ws : List Item) → Passes (Derives (functions c ∷ s) vs ts ws) vs ts s ws (function_at k t c)
function_pass kinds.Func t c vs ts s ws = tt
function_pass _ t zero vs ts s ws = tt
function_pass _ t (suc c) vs ts s ws = functions_pass c vs ts s ws

pub passed : (x : Symbol) (t : Token) (vs : List Item) (ts : List Token) (s : List Symbol) (ws : List Item) → Passes (Derives (x ∷ s) vs ts ws) vs ts s ws (move x t)
unfolding move
passed (one_of kind by new) t vs ts s ws = no_pass_if _ vs ts s ws (same_kind t.kind kind) (by t) [] (new t)
passed (make f) t vs ts s ws = λ d. d
passed (level n p) t vs ts s ws = operand_pass _ vs ts s ws (start_of t.kind t) t p (tails n p)
passed (tail n p) t vs ts s ws = operators_pass (operator_at n t.kind) n p vs ts s ws
passed (after_rows p) t vs ts s ws = rows_pass t.kind p vs ts s ws
passed (value c) t vs ts s ws = value_pass _ vs ts s ws (by_values c) (start_of t.kind t) t 0 (tails top 0)
passed values t vs ts s ws = values_pass _ vs ts s ws t.kind t
passed (more_values c) t vs ts s ws = more_values_pass _ vs ts s ws t.kind c
passed (names l n) t vs ts s ws = names_pass _ vs ts s ws t.kind t l n
passed (more_names l n) t vs ts s ws = more_names_pass _ vs ts s ws t.kind l n
passed (more_items many b n) t vs ts s ws = items_pass _ vs ts s ws t.kind many b n
passed (block b n) t vs ts s ws = no_pass_if _ vs ts s ws (same_kind t.kind kinds.LeftBrace) _ _ _
passed (statements b n c) t vs ts s ws = statement_pass t.kind t b n c vs ts s ws
passed (functions c) t vs ts s ws = function_pass t.kind t c vs ts s ws
