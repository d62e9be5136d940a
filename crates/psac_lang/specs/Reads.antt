-- What a function of the parser reads, in the machine's terms.
use Rattle.std.specs.Prelude.{◌≡◌, ℕ, ◌+◌, ◌-◌, ◌&&◌, nat_lt, Bool, true, false, if◌then◌else◌, List, [], ◌∷◌, ◌++◌, length, Option, Some, None, Result, Ok, Err}
use Rattle.psac_ops.specs.declared.op.Op.{Op}
use Rattle.psac_syntax.specs.declared.program.Expr.{Expr}
use Rattle.psac_syntax.specs.declared.program.Expr.TheVariants as expr
use Rattle.psac_syntax.specs.declared.program.Stmt.{Stmt}
use Rattle.psac_syntax.specs.declared.program.ReadItem.{ReadItem}
use Rattle.psac_syntax.specs.declared.program.Func.{Func}
use Rattle.psac_tokens.specs.declared.token.Kind.{Kind}
use Rattle.psac_tokens.specs.declared.token.Kind.TheVariants as k
use Rattle.psac_tokens.specs.declared.token.Token.{Token}
use Rattle.psac_grammar.specs.Marked as marked
use Rattle.psac_grammar.specs.Marked.{is_deep, below, by_length, max_names, max_given}
use Rattle.psac_grammar.specs.Grammar as grammar
use Rattle.psac_grammar.specs.Grammar.{start_of, is_chain, apply_one, apply_two, top, most_items}
use Rattle.psac_grammar.specs.Machine as machine
use Rattle.psac_grammar.specs.Machine.{Symbol, Item, Behind, Ahead, Move, move, also, operand, first, run, failed, accepted, Answer, of_expr, of_name, of_names, of_values, of_items, of_stmts, of_funcs, level, tails, tail, make, joined, again, one_of, named, mark, binding, block, names, behind_list, begun_behind, closing_of, values, value, value_made, more_values, statements, more_items, functions, a_name, before_names, func_made, item_made, same_kind}
use Rattle.psac_lang.specs.declared.fault.Halt.{Halt}
use Rattle.psac_lang.specs.declared.fault.Halt.TheVariants as halt
use Rattle.psac_lang.specs.declared.marks.Mark.{Mark}
use Rattle.psac_lang.specs.declared.reading.NameList.{NameList}
use Rattle.psac_lang.specs.declared.reading.NameList.TheVariants.{HeaderValues, HeaderDests, CallDests}
use Rattle.psac_lang.specs.declared.operand.Operand.{Operand}
use Rattle.psac_lang.specs.declared.operand.Pairing.{Pairing}
use Rattle.psac_lang.specs.declared.operand.Pairing.TheVariants.{Cell, Apply}
use Rattle.psac_lang.specs.declared.start.Start.{Start}
use Rattle.psac_lang.specs.declared.start.Start.TheVariants as start
use Rattle.psac_lang.specs.declared.function.Header.{Header}
use Rattle.psac_lang.specs.Marks.{mark_of}

abbrev pub syntax_halt : Token → Halt
syntax_halt t = halt.Syntax t.line t.column

abbrev pub limit_halt : ℕ → ℕ → Halt
limit_halt which line = halt.Limit which line

abbrev pub FailsSo : machine.Fault → Answer → Type 0
FailsSo f a = (left : List Token) × (a ≡ failed f left)

-- The answer is this fault, unless memory ran out.
abbrev pub Fails : Halt → Answer → Type 0
Fails halt.NoMemory a = Unit {0}
Fails (halt.Syntax line column) a = FailsSo (machine.syntax line column) a
Fails (halt.Limit which line) a = FailsSo (machine.limit which line) a

-- The machine goes from one stack to the other, unless it fails so.
abbrev pub Goes : {X : Type 0} → Result X Halt → Ahead → Ahead → List Symbol → List Item → (X → List Symbol) → (X → List Item) → Type 0
Goes (Ok v) before after s vs s' vs' = run before s vs ≡ run after (s' v) (vs' v)
Goes (Err e) before after s vs s' vs' = Fails e (run before s vs)

-- Whether the token before exceeds a limit.
abbrev pub Settles : Result (Unit {0}) Halt → Behind → Type 0
Settles (Ok v) l = l.late ≡ None
Settles (Err e) l = (which : ℕ) × (l.late ≡ Some which) × (e ≡ limit_halt which l.line)

-- The function reads what the symbol stands for, whatever is expected behind it.
abbrev pub Reads : {X : Type 0} → (X → Item) → Symbol → Result X Halt → Ahead → Ahead → Type 0
Reads view x result before after = (s : List Symbol) (vs : List Item) → Goes result before after (x ∷ s) vs (λ v. s) (λ v. view v ∷ vs)

-- The function goes past what the symbol stands for, and builds nothing.
abbrev pub Takes : Symbol → Result (Unit {0}) Halt → Ahead → Ahead → Type 0
Takes x result before after = (s : List Symbol) (vs : List Item) → Goes result before after (x ∷ s) vs (λ v. s) (λ v. vs)

-- The function goes past the next token, whatever takes it.
abbrev pub Passes : Mark → Result (Unit {0}) Halt → Ahead → Ahead → Type 0
Passes m result before after =
    (x : Symbol) (more : List Symbol) (new : List Item) (s : List Symbol) (vs : List Item)
    → move x (first before) ≡ machine.take (mark_of m) more new → Goes result before after (x ∷ s) vs (λ v. more ++ s) (λ v. new ++ vs)

-- a move that takes a token of this kind alone
abbrev pub taken : Kind → Kind → marked.Mark → List Symbol → List Item → Move
taken kind wanted m more new = if same_kind kind wanted then machine.take m more new else machine.refuse

abbrev pub TakesKind : Kind → Mark → Result (Unit {0}) Halt → Ahead → Ahead → Type 0
TakesKind kind m result before after =
    (x : Symbol) (more : List Symbol) (new : List Item) (s : List Symbol) (vs : List Item)
    → move x (first before) ≡ taken (first before).kind kind (mark_of m) more new → Goes result before after (x ∷ s) vs (λ v. more ++ s) (λ v. new ++ vs)

-- a NAME beside this limit
abbrev pub TakesName : Mark → Result ℕ Halt → Ahead → Ahead → Type 0
TakesName m = Reads of_name (one_of k.Name (by_length (mark_of m)) named)

abbrev pub name_list : NameList → grammar.NameList
name_list HeaderValues = grammar.header_values
name_list HeaderDests = grammar.header_dests
name_list CallDests = grammar.call_dests

abbrev pub list_limit : NameList → ℕ → marked.Mark
list_limit CallDests n = below n max_given 9
list_limit _ n = below n max_names 8

-- ---- expressions

abbrev pub operand_item : Operand → Item
operand_item o = of_expr o.expr o.depth

abbrev pub pairing : Pairing → Expr → Expr → Expr
pairing Cell = expr.Cell
pairing (Apply o) = apply_two o

abbrev pub begins : Start → grammar.Start
begins (start.Constant e) = grammar.constant e
begins start.Rows = grammar.row_word
begins start.Inner = grammar.inner
begins (start.One o) = grammar.one (apply_one o)
begins (start.Two f) = grammar.two (pairing f)
begins start.Nothing = grammar.no_start

-- Operands are put together.
abbrev pub Joins : (List Item → machine.Built) → List Item → Result Operand Halt → Ahead → Type 0
Joins f os result ahead = (s : List Symbol) (vs : List Item) → Goes result ahead ahead (make f ∷ s) (os ++ vs) (λ o. s) (λ o. operand_item o ∷ vs)

abbrev pub DepthGives : ℕ → ℕ → Result ℕ Halt → Type 0
DepthGives d line (Ok n) = (n ≡ d) × (is_deep d ≡ false)
DepthGives d line (Err e) = (e ≡ limit_halt 5 line) × (is_deep d ≡ true)

-- The function reads an operand inside p parentheses, of which the first token exceeds the limit too.
abbrev pub ReadsOperand : ℕ → Mark → Result Operand Halt → Ahead → Ahead → Type 0
ReadsOperand p m result before after =
    (x : Symbol) (more s : List Symbol) (vs : List Item)
    → move x (first before) ≡ also (mark_of m) (operand (start_of (first before).kind (first before)) (first before) p more)
    → Goes result before after (x ∷ s) vs (λ o. more ++ s) (λ o. operand_item o ∷ vs)

abbrev pub following : ℕ → ℕ → Option Op → List Symbol
following m p (Some o) = level (m - 1) p ∷ make (joined o) ∷ again (is_chain m) m p
following m p None = []

abbrev pub TakesOperator : ℕ → Result (Option Op) Halt → Ahead → Ahead → Type 0
TakesOperator m result before after =
    (p : ℕ) (s : List Symbol) (vs : List Item) → Goes result before after (tail m p ∷ s) vs (λ o. following m p o ++ s) (λ o. vs)

-- The operators behind an operand are read.
abbrev pub ReadsTails : Operand → List Symbol → Result Operand Halt → Ahead → Ahead → Type 0
ReadsTails left xs result before after =
    (s : List Symbol) (vs : List Item) → Goes result before after (xs ++ s) (operand_item left ∷ vs) (λ o. s) (λ o. operand_item o ∷ vs)

-- A value of a call is read and added to those before it, whichever symbol begins it.
abbrev pub ReadsValue : Mark → Result Expr Halt → Ahead → Ahead → Type 0
ReadsValue m result before after =
    (x : Symbol) (more s left : List Symbol) (es : List Expr) (vs : List Item)
    → move x (first before) ≡ also (mark_of m) (operand (start_of (first before).kind (first before)) (first before) 0 (tails top 0 ++ more)) → more ++ s ≡ make value_made ∷ left
    → Goes result before after (x ∷ s) (of_values es ∷ vs) (λ e. left) (λ e. of_values (es ++ e ∷ []) ∷ vs)

-- ---- lists

abbrev pub ReadsNames : NameList → ℕ → Result (List ℕ) Halt → Ahead → Ahead → Type 0
ReadsNames l n result before after =
    (s : List Symbol) (vs : List Item)
    → Goes result before after (names (name_list l) n ∷ s) (of_names [] ∷ vs) (λ v. behind_list (name_list l) (n + length v) ++ s) (λ v. begun_behind (name_list l) ++ of_names v ∷ vs)

abbrev pub ReadsValues : Result (List Expr) Halt → Ahead → Ahead → Type 0
ReadsValues result before after =
    (s : List Symbol) (vs : List Item)
    → Goes result before after (values ∷ s) (of_values [] ∷ vs) (λ v. names grammar.call_dests 0 ∷ s) (λ v. of_names [] ∷ of_values v ∷ vs)

-- ---- statements

-- One item is added.
abbrev pub AddsItem : ℕ → Result ReadItem Halt → Ahead → Ahead → Type 0
AddsItem n result before after =
    (items : List ReadItem) (s : List Symbol) (vs : List Item)
    → Goes result before after (level top 0 ∷ mark k.As ∷ binding n ∷ make item_made ∷ s) (of_items items ∷ vs) (λ i. s) (λ i. of_items (items ++ i ∷ []) ∷ vs)

-- All items of a read block are read, up to its body.
abbrev pub ReadsItems : ℕ → Result (List ReadItem) Halt → Ahead → Ahead → Type 0
ReadsItems n result before after =
    (b : ℕ) (s : List Symbol) (vs : List Item)
    → Goes result before after (level top 0 ∷ mark k.As ∷ binding n ∷ make item_made ∷ more_items 1 b n ∷ s) (of_items [] ∷ vs) (λ v. block b (n + length v) ∷ s) (λ v. of_items v ∷ vs)

-- The statement that these symbols stand for is added.
abbrev pub AddsStmt : List Symbol → List Item → Result Stmt Halt → Ahead → Ahead → Type 0
AddsStmt xs new result before after =
    (so_far : List Stmt) (s : List Symbol) (vs : List Item)
    → Goes result before after (xs ++ s) (new ++ of_stmts so_far ∷ vs) (λ v. s) (λ v. of_stmts (so_far ++ v ∷ []) ∷ vs)

-- whether one more item follows
abbrev pub item_follows : ℕ → Kind → Bool
item_follows many kind = nat_lt many most_items && same_kind kind k.Comma

-- how many names a statement binds that begins so
abbrev pub bound_by : Kind → ℕ
bound_by k.Let = 1
bound_by k.New = 1
bound_by _ = 0

abbrev pub begins_statement : Kind → Bool
begins_statement k.Let = true
begins_statement k.New = true
begins_statement k.Write = true
begins_statement k.Read = true
begins_statement k.If = true
begins_statement k.Par = true
begins_statement k.Call = true
begins_statement _ = false

abbrev pub NextStmt : ℕ → ℕ → ℕ → Result Stmt Halt → Ahead → Ahead → Type 0
NextStmt b n c result before after =
    (so_far : List Stmt) (s : List Symbol) (vs : List Item)
    → Goes result before after (statements b n c ∷ s) (of_stmts so_far ∷ vs) (λ v. statements b (n + bound_by (first before).kind) (c + 1) ∷ s) (λ v. of_stmts (so_far ++ v ∷ []) ∷ vs)

-- The statements of a body are read, up to its end.
abbrev pub ReadsBody : ℕ → ℕ → Result (List Stmt) Halt → Ahead → Ahead → Type 0
ReadsBody b n result before after =
    (s : List Symbol) (vs : List Item) → Goes result before after (statements b n 0 ∷ mark k.RightBrace ∷ s) (of_stmts [] ∷ vs) (λ v. s) (λ v. of_stmts v ∷ vs)

-- ---- functions

-- A header is read, from its name up to the body.
abbrev pub ReadsHeader : Result Header Halt → Ahead → Ahead → Type 0
ReadsHeader result before after =
    (s : List Symbol) (vs : List Item)
    → Goes result before after (a_name ∷ before_names ∷ names grammar.header_values 0 ∷ s) vs (λ h. block 0 (length h.values + length h.dests) ∷ s)
    (λ h. of_names h.dests ∷ of_names h.values ∷ of_name h.name ∷ vs)

-- a function is what comes next
abbrev pub BeginsFunc : ℕ → Token → Type 0
BeginsFunc c t = move (functions c) t ≡ taken t.kind k.Func (marked.by_funcs c) (a_name ∷ before_names ∷ names grammar.header_values 0 ∷ make (func_made t.line) ∷ functions (c + 1) ∷ []) []

-- A function is added behind so many others.
abbrev pub AddsFunc : ℕ → Result Func Halt → Ahead → Ahead → Type 0
AddsFunc c result before after =
    (so_far : List Func) (s : List Symbol) (vs : List Item)
    → BeginsFunc c (first before) → Goes result before after (functions c ∷ s) (of_funcs so_far ∷ vs) (λ f. functions (c + 1) ∷ s) (λ f. of_funcs (so_far ++ f ∷ []) ∷ vs)

abbrev pub ReadsFuncs : Result (List Func) Halt → Ahead → Ahead → Type 0
ReadsFuncs result before after =
    (s : List Symbol) (vs : List Item) → Goes result before after (functions 0 ∷ s) (of_funcs [] ∷ vs) (λ fs. s) (λ fs. of_funcs fs ∷ vs)

-- what reading a whole text gives
abbrev pub Means : Result (List Func) Halt → Answer → Type 0
Means (Ok fs) a = a ≡ accepted (of_funcs fs ∷ [])
Means (Err e) a = Fails e a
