-- Symbols that may stand for nothing, and those that never do; tokens with which none of the former goes on.
use Rattle.std.proofs.Common.{◌≡◌, ℕ, zero, suc, Bool, true, false, cond, ltb, List, [], ◌∷◌, ◌++◌, Option, Some, None, ◌⊎◌, inl, inr, refl}
use Rattle.psac_ops.specs.declared.op.Op.{Op}
use Rattle.psac_tokens.specs.declared.token.Kind.{Kind}
use Rattle.psac_tokens.specs.declared.token.Kind.TheVariants as kinds
use Rattle.psac_tokens.specs.declared.token.Token.{Token}
use Rattle.psac_grammar.specs.Marked.{Mark, by_values}
use Rattle.psac_grammar.specs.Grammar.{Start, constant, one, two, inner, row_word, no_start, start_of, operator_at, top, most_items, NameList}
use Rattle.psac_grammar.specs.Machine.{Symbol, one_of, make, level, tail, after_rows, value, values, more_values, names, more_names, more_items, block, statements, functions, same_kind, tails, value_made, Item, Built, Move, take, pass, refuse, move, operand, operators, built, rows_made, also, values_at, values_on, closing_of, closes, names_at, names_on, items_on, statement, function_at, rows_on}
use Rattle.psac_grammar.proofs.Levels.{level_of, no_operator}

-- it may be passed
abbrev pub passing : Symbol → Bool
passing (make f) = true
passing (tail n p) = true
passing (after_rows p) = true
passing (statements b n c) = true
passing (functions (suc c)) = true
passing _ = false

-- what is built then
abbrev pub pass_of : Symbol → List Item → Built
pass_of (make f) = f
pass_of (after_rows p) = rows_made
pass_of _ = built

abbrev pub IsTake : Move → Type 0
IsTake (take m more new) = Unit {0}
IsTake (pass f) = ⊥
IsTake refuse = ⊥

abbrev pub NoPass : Move → Type 0
NoPass (take m more new) = Unit {0}
NoPass (pass f) = ⊥
NoPass refuse = Unit {0}

abbrev OneOf : (List Item → Built) → Move → Type 0
OneOf f m = (m ≡ pass f) ⊎ IsTake m

operators_pass : (o : Option Op) (n p : ℕ) → OneOf built (operators o n p)
operators_pass None n p = inl refl
operators_pass (Some o) n p = inr tt

rows_pass : (k : Kind) (p : ℕ) → OneOf rows_made (rows_on k p)
rows_pass kinds.LeftParen p = inr tt
rows_pass _ p = inl refl

statement_pass : (k : Kind) (t : Token) (b n c : ℕ) → OneOf built (statement k t b n c)
statement_pass kinds.Let t b n c = inr tt
statement_pass kinds.New t b n c = inr tt
statement_pass kinds.Write t b n c = inr tt
statement_pass kinds.Read t b n c = inr tt
statement_pass kinds.If t b n c = inr tt
statement_pass kinds.Par t b n c = inr tt
statement_pass kinds.Call t b n c = inr tt
statement_pass _ t b n c = inl refl

function_pass : (k : Kind) (t : Token) (c : ℕ) → OneOf built (function_at k t (suc c))
function_pass kinds.Func t c = inr tt
function_pass _ t c = inl refl

pub pass_or_take : (x : Symbol) (t : Token) → passing x ≡ true → OneOf (pass_of x) (move x t)
unfolding move
pass_or_take (make f) t h = inl refl
pass_or_take (tail n p) t h = operators_pass (operator_at n t.kind) n p
pass_or_take (after_rows p) t h = rows_pass t.kind p
pass_or_take (statements b n c) t h = statement_pass t.kind t b n c
pass_or_take (functions (suc c)) t h = function_pass t.kind t c
pass_or_take (functions zero) t h = absurd cc
pass_or_take (one_of k by new) t h = absurd cc
pass_or_take (level n p) t h = absurd cc
pass_or_take (value c) t h = absurd cc
pass_or_take values t h = absurd cc
pass_or_take (more_values c) t h = absurd cc
pass_or_take (names l n) t h = absurd cc
pass_or_take (more_names l n) t h = absurd cc
pass_or_take (more_items many b n) t h = absurd cc
pass_or_take (block b n) t h = absurd cc

-- ---- symbols that stand

stands_if : (b : Bool) (m : Mark) (more : List Symbol) (new : List Item) → NoPass (cond b (take m more new) refuse)
stands_if true m more new = tt
stands_if false m more new = tt

operand_stands : (k : Start) (t : Token) (p : ℕ) (more : List Symbol) → NoPass (operand k t p more)
operand_stands (constant e) t p more = tt
operand_stands (one f) t p more = tt
operand_stands (two f) t p more = tt
operand_stands inner t p more = tt
operand_stands row_word t p more = tt
operand_stands no_start t p more = tt

also_stands : (m : Mark) (q : Move) → NoPass q → NoPass (also m q)
also_stands m (take n more new) h = tt
also_stands m (pass f) h = absurd h
also_stands m refuse h = tt

values_stand : (k : Kind) (t : Token) → NoPass (values_at k t)
values_stand kinds.Semicolon t = tt
values_stand k t = operand_stands (start_of k t) t 0 (tails top 0 ++ (make value_made ∷ more_values 1 ∷ []))

more_values_stand : (k : Kind) (c : ℕ) → NoPass (values_on k c)
more_values_stand kinds.Comma c = tt
more_values_stand kinds.Semicolon c = tt
more_values_stand _ c = tt

closes_stand : (k : Kind) (l : NameList) (n : ℕ) → NoPass (closes k l n)
closes_stand k l n = stands_if (same_kind k (closing_of l)) _ _ _

names_stand : (k : Kind) (t : Token) (l : NameList) (n : ℕ) → NoPass (names_at k t l n)
names_stand kinds.Name t l n = tt
names_stand k t l n = closes_stand k l n

more_names_stand : (k : Kind) (l : NameList) (n : ℕ) → NoPass (names_on k l n)
more_names_stand kinds.Comma l n = tt
more_names_stand k l n = closes_stand k l n

items_stand : (k : Kind) (many b n : ℕ) → NoPass (items_on k many b n)
items_stand kinds.Comma many b n = stands_if (ltb many most_items) _ _ []
items_stand kinds.LeftBrace many b n = tt
items_stand _ many b n = tt

function_stands : (k : Kind) (t : Token) → NoPass (function_at k t zero)
function_stands kinds.Func t = tt
function_stands _ t = tt

pub stands : (x : Symbol) (t : Token) → passing x ≡ false → NoPass (move x t)
unfolding move
stands (make f) t h = absurd cc
stands (tail n p) t h = absurd cc
stands (after_rows p) t h = absurd cc
stands (statements b n c) t h = absurd cc
stands (functions (suc c)) t h = absurd cc
stands (functions zero) t h = function_stands t.kind t
stands (one_of k by new) t h = stands_if (same_kind t.kind k) (by t) [] (new t)
stands (level n p) t h = operand_stands (start_of t.kind t) t p (tails n p)
stands (value c) t h = also_stands (by_values c) _ (operand_stands (start_of t.kind t) t 0 (tails top 0))
stands values t h = values_stand t.kind t
stands (more_values c) t h = more_values_stand t.kind c
stands (names l n) t h = names_stand t.kind t l n
stands (more_names l n) t h = more_names_stand t.kind l n
stands (more_items many b n) t h = items_stand t.kind many b n
stands (block b n) t h = stands_if (same_kind t.kind kinds.LeftBrace) _ _ _

-- ---- tokens with which nothing goes on

abbrev pub calm : Kind → Bool
calm kinds.Int = true
calm kinds.Name = true
calm kinds.Semicolon = true
calm kinds.RightParen = true
calm kinds.Comma = true
calm kinds.As = true
calm kinds.Assign = true
calm kinds.Else = true
calm kinds.LeftBrace = true
calm kinds.RightBrace = true
calm kinds.Unreadable = true
calm kinds.End = true
calm _ = false

calm_level : (k : Kind) → calm k ≡ true → level_of k ≡ 0
calm_level kinds.Int h = refl
calm_level kinds.Name h = refl
calm_level kinds.Semicolon h = refl
calm_level kinds.RightParen h = refl
calm_level kinds.Comma h = refl
calm_level kinds.As h = refl
calm_level kinds.Assign h = refl
calm_level kinds.Else h = refl
calm_level kinds.LeftBrace h = refl
calm_level kinds.RightBrace h = refl
calm_level kinds.Unreadable h = refl
calm_level kinds.End h = refl
calm_level _ h = absurd cc

calm_rows : (k : Kind) (p : ℕ) → calm k ≡ true → rows_on k p ≡ pass rows_made
calm_rows kinds.LeftParen p h = absurd cc
calm_rows _ p h = refl

calm_statement : (k : Kind) (t : Token) (b n c : ℕ) → calm k ≡ true → statement k t b n c ≡ pass built
calm_statement kinds.Let t b n c h = absurd cc
calm_statement kinds.New t b n c h = absurd cc
calm_statement kinds.Write t b n c h = absurd cc
calm_statement kinds.Read t b n c h = absurd cc
calm_statement kinds.If t b n c h = absurd cc
calm_statement kinds.Par t b n c h = absurd cc
calm_statement kinds.Call t b n c h = absurd cc
calm_statement _ t b n c h = refl

calm_function : (k : Kind) (t : Token) (c : ℕ) → calm k ≡ true → function_at k t (suc c) ≡ pass built
calm_function kinds.Func t c h = absurd cc
calm_function _ t c h = refl

calm_operators : (o : Option Op) (n p : ℕ) → o ≡ None → operators o n p ≡ pass built
calm_operators None n p h = refl
calm_operators (Some o) n p h = absurd cc

-- at a calm token they are passed
pub calm_pass : (x : Symbol) (t : Token) → passing x ≡ true → calm t.kind ≡ true → move x t ≡ pass (pass_of x)
unfolding move
calm_pass (make f) t h j = refl
calm_pass (tail n p) t h j = calm_operators (operator_at n t.kind) n p (no_operator t.kind (calm_level t.kind j) n)
calm_pass (after_rows p) t h j = calm_rows t.kind p j
calm_pass (statements b n c) t h j = calm_statement t.kind t b n c j
calm_pass (functions (suc c)) t h j = calm_function t.kind t c j
calm_pass (functions zero) t h j = absurd cc
calm_pass (one_of k by new) t h j = absurd cc
calm_pass (level n p) t h j = absurd cc
calm_pass (value c) t h j = absurd cc
calm_pass values t h j = absurd cc
calm_pass (more_values c) t h j = absurd cc
calm_pass (names l n) t h j = absurd cc
calm_pass (more_names l n) t h j = absurd cc
calm_pass (more_items many b n) t h j = absurd cc
calm_pass (block b n) t h j = absurd cc
