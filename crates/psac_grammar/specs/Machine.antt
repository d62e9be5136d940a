-- A pushdown machine that reads tokens from the left: a stack of what is still expected, and what was built so far.
use Rattle.std.specs.Prelude.{ℕ, zero, suc, ◌+◌, ◌-◌, max, Bool, true, false, not, ◌||◌, if◌then◌else◌, nat_lt, List, [], ◌∷◌, ◌++◌, Option, Some, None}
use denote.Enum.Bare.{sameb}
use Rattle.psac_ops.specs.declared.op.Op.{Op}
use Rattle.psac_syntax.specs.declared.program.Expr.{Expr}
use Rattle.psac_syntax.specs.declared.program.Expr.TheVariants as expr
use Rattle.psac_syntax.specs.declared.program.Stmt.{Stmt}
use Rattle.psac_syntax.specs.declared.program.Stmt.TheVariants as stmt
use Rattle.psac_syntax.specs.declared.program.ReadItem.{ReadItem}
use Rattle.psac_syntax.specs.declared.program.Func.{Func}
use Rattle.psac_tokens.specs.contracts.token.Kind.{the_type}
use Rattle.psac_tokens.specs.declared.token.Kind.{Kind}
use Rattle.psac_tokens.specs.declared.token.Kind.TheVariants as k
use Rattle.psac_tokens.specs.declared.token.Token.{Token}
use Rattle.psac_tokens.specs.declared.token.TheConstants.{NOTHING}
use Rattle.psac_grammar.specs.Marked.{Mark, fine, over, late, or_else, by_size, by_name, by_names, by_values, by_parens, by_bodies, by_statements, by_funcs, is_deep}
use Rattle.psac_grammar.specs.Grammar.{operator_at, is_chain, top, item, most_items, Start, constant, one, two, inner, row_word, no_start, start_of, apply_two, NameList, header_values, header_dests, call_dests, by_list}

abbrev pub same_kind : Kind → Kind → Bool
same_kind = sameb the_type

-- the first fault in text order
pub data Fault : Type 0 where
  syntax : (line column : ℕ) → Fault
  limit : (which line : ℕ) → Fault

-- what was built
pub data Item : Type 0 where
  of_expr : (e : Expr) (depth : ℕ) → Item
  of_name : (x : ℕ) → Item
  of_names : (xs : List ℕ) → Item
  of_values : (es : List Expr) → Item
  of_items : (items : List ReadItem) → Item
  of_stmts : (ss : List Stmt) → Item
  of_funcs : (fs : List Func) → Item

-- what a step builds, and whether it is within the limit on depth
abbrev pub Built : Type 0
Built = Bool × List Item

-- What is expected. A number p is of the parentheses that are open, b of the bodies, n of the names in scope, c of the statements, values or functions so far.
pub data Symbol : Type 0 where
  -- one token of this kind, the limit that it exceeds, and what is built of it
  one_of : (kind : Kind) (by : Token → Mark) (new : Token → List Item) → Symbol
  -- nothing more to read: something is built
  make : (f : List Item → Built) → Symbol
  -- an operand, or operators up to the level
  level : (m p : ℕ) → Symbol
  -- more operators of this level, behind the expression that was built last
  tail : (m p : ℕ) → Symbol
  -- what may stand behind the word `rows`
  after_rows : (p : ℕ) → Symbol
  -- a value of a call
  value : (c : ℕ) → Symbol
  -- the values of a call, or more of them, and then the destinations
  values : Symbol
  more_values : (c : ℕ) → Symbol
  -- the names of a list, or more of them, and then what stands behind the list
  names : (l : NameList) (n : ℕ) → Symbol
  more_names : (l : NameList) (n : ℕ) → Symbol
  -- more items behind the first `many`, and then a body
  more_items : (many b n : ℕ) → Symbol
  block : (b n : ℕ) → Symbol
  -- more statements behind those that were read
  statements : (b n c : ℕ) → Symbol
  -- more functions; one has to come first
  functions : (c : ℕ) → Symbol

abbrev pub no_limit : Token → Mark
no_limit t = fine

abbrev pub builds_nothing : Token → List Item
builds_nothing t = []

abbrev pub mark : Kind → Symbol
mark kind = one_of kind no_limit builds_nothing

abbrev pub opening : ℕ → Symbol
opening p = one_of k.LeftParen (λ t. by_parens p) builds_nothing

abbrev pub named : Token → List Item
named t = of_name t.index ∷ []

abbrev pub a_name : Symbol
a_name = one_of k.Name by_name named

abbrev pub binding : ℕ → Symbol
binding n = one_of k.Name (by_names n) named

abbrev pub listed : NameList → ℕ → Symbol
listed l n = one_of k.Name (by_list l n) named

-- the parenthesis before a list of values or of names
abbrev pub before_values : Symbol
before_values = one_of k.LeftParen no_limit (λ t. of_values [] ∷ [])

abbrev pub before_names : Symbol
before_names = one_of k.LeftParen no_limit (λ t. of_names [] ∷ [])

-- what a symbol does at a token
pub data Move : Type 0 where
  -- goes past the token, which may exceed a limit, and expects and builds something
  take : (mark : Mark) (more : List Symbol) (new : List Item) → Move
  -- stays at the token
  pass : (f : List Item → Built) → Move
  refuse : Move

abbrev pub built : List Item → Built
built vs = (true, vs)

abbrev pub made_one : (Expr → Expr) → List Item → Built
made_one f (of_expr a d ∷ vs) = (not (is_deep (d + 1)), of_expr (f a) (d + 1) ∷ vs)
made_one f vs = built vs

abbrev pub made_two : (Expr → Expr → Expr) → List Item → Built
made_two f (of_expr b g ∷ of_expr a d ∷ vs) = (not (is_deep (max d g + 1)), of_expr (f a b) (max d g + 1) ∷ vs)
made_two f vs = built vs

abbrev pub joined : Op → List Item → Built
joined o = made_two (apply_two o)

abbrev pub let_made : ℕ → List Item → Built
let_made line (of_expr e d ∷ of_name x ∷ of_stmts ss ∷ vs) = built (of_stmts (ss ++ stmt.Let line x e ∷ []) ∷ vs)
let_made line vs = built vs

abbrev pub new_made : ℕ → List Item → Built
new_made line (of_name x ∷ of_stmts ss ∷ vs) = built (of_stmts (ss ++ stmt.New line x ∷ []) ∷ vs)
new_made line vs = built vs

abbrev pub write_made : ℕ → List Item → Built
write_made line (of_expr e d ∷ of_name x ∷ of_stmts ss ∷ vs) = built (of_stmts (ss ++ stmt.Write line x e ∷ []) ∷ vs)
write_made line vs = built vs

abbrev pub read_made : ℕ → ℕ → List Item → Built
read_made line index (of_stmts body ∷ of_items items ∷ of_stmts ss ∷ vs) = built (of_stmts (ss ++ stmt.Read line index items body ∷ []) ∷ vs)
read_made line index vs = built vs

abbrev pub if_made : ℕ → List Item → Built
if_made line (of_stmts second ∷ of_stmts first ∷ of_expr e d ∷ of_stmts ss ∷ vs) = built (of_stmts (ss ++ stmt.If line e first second ∷ []) ∷ vs)
if_made line vs = built vs

abbrev pub par_made : ℕ → List Item → Built
par_made line (of_stmts second ∷ of_stmts first ∷ of_stmts ss ∷ vs) = built (of_stmts (ss ++ stmt.Par line first second ∷ []) ∷ vs)
par_made line vs = built vs

abbrev pub call_made : ℕ → List Item → Built
call_made line (of_names xs ∷ of_values es ∷ of_name x ∷ of_stmts ss ∷ vs) = built (of_stmts (ss ++ stmt.Call line x es xs ∷ []) ∷ vs)
call_made line vs = built vs

abbrev pub item_made : List Item → Built
item_made (of_name x ∷ of_expr e d ∷ of_items items ∷ vs) = built (of_items (items ++ item e x ∷ []) ∷ vs)
item_made vs = built vs

abbrev pub value_made : List Item → Built
value_made (of_expr e d ∷ of_values es ∷ vs) = built (of_values (es ++ e ∷ []) ∷ vs)
value_made vs = built vs

abbrev pub name_made : List Item → Built
name_made (of_name x ∷ of_names xs ∷ vs) = built (of_names (xs ++ x ∷ []) ∷ vs)
name_made vs = built vs

abbrev pub func_made : ℕ → List Item → Built
func_made line (of_stmts body ∷ of_names ds ∷ of_names xs ∷ of_name x ∷ of_funcs fs ∷ vs) =
    built (of_funcs (fs ++ record { name = x; values = xs; dests = ds; body = body; line = line } ∷ []) ∷ vs)
func_made line vs = built vs

abbrev pub tails : ℕ → ℕ → List Symbol
tails zero p = []
tails (suc m) p = tails m p ++ tail (suc m) p ∷ []

abbrev pub expected : Kind → Token → Mark → List Item → Move
expected kind t m new = if same_kind t.kind kind then take m [] new else refuse

abbrev pub operand : Start → Token → ℕ → List Symbol → Move
operand (constant e) t p more = take (by_size t) more (of_expr e 1 ∷ [])
operand inner t p more = take (by_parens p) (level top (p + 1) ∷ mark k.RightParen ∷ more) []
operand (one f) t p more = take fine (opening p ∷ level top (p + 1) ∷ mark k.RightParen ∷ make (made_one f) ∷ more) []
operand (two f) t p more =
    take fine (opening p ∷ level top (p + 1) ∷ mark k.Comma ∷ level top (p + 1) ∷ mark k.RightParen ∷ make (made_two f) ∷ more) []
operand row_word t p more = take fine (after_rows p ∷ more) []
operand no_start t p more = refuse

abbrev pub rows_made : List Item → Built
rows_made vs = built (of_expr expr.Rows 1 ∷ vs)

abbrev pub rows_on : Kind → ℕ → Move
rows_on k.LeftParen p = take (by_parens p) (mark k.RightParen ∷ []) (of_expr expr.RowCount 1 ∷ [])
rows_on _ p = pass rows_made

-- After a comparison no other one goes on.
abbrev pub again : Bool → ℕ → ℕ → List Symbol
again true m p = tail m p ∷ []
again false m p = []

abbrev pub operators : Option Op → ℕ → ℕ → Move
operators (Some o) m p = take fine (level (m - 1) p ∷ make (joined o) ∷ again (is_chain m) m p) []
operators None m p = pass built

-- the token exceeds this limit too
abbrev pub also : Mark → Move → Move
also m (take n more new) = take (or_else n m) more new
also m (pass f) = pass f
also m refuse = refuse

-- the destinations of a call
abbrev pub to_dests : Move
to_dests = take fine (names call_dests 0 ∷ []) (of_names [] ∷ [])

abbrev pub values_at : Kind → Token → Move
values_at k.Semicolon t = to_dests
values_at kind t = operand (start_of kind t) t 0 (tails top 0 ++ (make value_made ∷ more_values 1 ∷ []))

abbrev pub values_on : Kind → ℕ → Move
values_on k.Comma c = take fine (value c ∷ make value_made ∷ more_values (c + 1) ∷ []) []
values_on k.Semicolon c = to_dests
values_on _ c = refuse

abbrev pub closing_of : NameList → Kind
closing_of header_values = k.Semicolon
closing_of _ = k.RightParen

-- what stands behind a list of n names, the mark that ends it apart
abbrev pub behind_list : NameList → ℕ → List Symbol
behind_list header_values n = names header_dests n ∷ []
behind_list header_dests n = block 0 n ∷ []
behind_list call_dests n = []

abbrev pub begun_behind : NameList → List Item
begun_behind header_values = of_names [] ∷ []
begun_behind _ = []

abbrev pub closes : Kind → NameList → ℕ → Move
closes kind l n = if same_kind kind (closing_of l) then take fine (behind_list l n) (begun_behind l) else refuse

abbrev pub names_at : Kind → Token → NameList → ℕ → Move
names_at k.Name t l n = take (by_list l n t) (make name_made ∷ more_names l (n + 1) ∷ []) (of_name t.index ∷ [])
names_at kind t l n = closes kind l n

abbrev pub names_on : Kind → NameList → ℕ → Move
names_on k.Comma l n = take fine (listed l n ∷ make name_made ∷ more_names l (n + 1) ∷ []) []
names_on kind l n = closes kind l n

abbrev pub opens : ℕ → ℕ → Move
opens b n = take (by_bodies b) (statements (b + 1) n 0 ∷ mark k.RightBrace ∷ []) (of_stmts [] ∷ [])

abbrev pub items_on : Kind → ℕ → ℕ → ℕ → Move
items_on k.Comma many b n =
    if nat_lt many most_items then take fine (level top 0 ∷ mark k.As ∷ binding (n + many) ∷ make item_made ∷ more_items (many + 1) b n ∷ []) [] else refuse
items_on k.LeftBrace many b n = opens b (n + many)
items_on _ many b n = refuse

abbrev pub statement : Kind → Token → ℕ → ℕ → ℕ → Move
statement k.Let t b n c =
    take (by_statements c) (binding n ∷ mark k.Assign ∷ level top 0 ∷ mark k.Semicolon ∷ make (let_made t.line) ∷ statements b (n + 1) (c + 1) ∷ []) []
statement k.New t b n c = take (by_statements c) (binding n ∷ mark k.Semicolon ∷ make (new_made t.line) ∷ statements b (n + 1) (c + 1) ∷ []) []
statement k.Write t b n c =
    take (by_statements c) (a_name ∷ mark k.Assign ∷ level top 0 ∷ mark k.Semicolon ∷ make (write_made t.line) ∷ statements b n (c + 1) ∷ []) []
statement k.Read t b n c =
    take (by_statements c) (level top 0 ∷ mark k.As ∷ binding n ∷ make item_made ∷ more_items 1 b n ∷ make (read_made t.line t.index) ∷ statements b n (c + 1) ∷ [])
    (of_items [] ∷ [])
statement k.If t b n c =
    take (by_statements c) (level top 0 ∷ block b n ∷ mark k.Else ∷ block b n ∷ make (if_made t.line) ∷ statements b n (c + 1) ∷ []) []
statement k.Par t b n c = take (by_statements c) (block b n ∷ block b n ∷ make (par_made t.line) ∷ statements b n (c + 1) ∷ []) []
statement k.Call t b n c =
    take (by_statements c) (a_name ∷ before_values ∷ values ∷ mark k.Semicolon ∷ make (call_made t.line) ∷ statements b n (c + 1) ∷ []) []
statement _ t b n c = pass built

abbrev pub function_at : Kind → Token → ℕ → Move
function_at k.Func t c = take (by_funcs c) (a_name ∷ before_names ∷ names header_values 0 ∷ make (func_made t.line) ∷ functions (c + 1) ∷ []) []
function_at _ t zero = refuse
function_at _ t (suc c) = pass built

unfoldable pub move : Symbol → Token → Move
move (one_of kind by new) t = expected kind t (by t) (new t)
move (make f) t = pass f
move (level m p) t = operand (start_of t.kind t) t p (tails m p)
move (tail m p) t = operators (operator_at m t.kind) m p
move (after_rows p) t = rows_on t.kind p
move (value c) t = also (by_values c) (operand (start_of t.kind t) t 0 (tails top 0))
move values t = values_at t.kind t
move (more_values c) t = values_on t.kind c
move (names l n) t = names_at t.kind t l n
move (more_names l n) t = names_on t.kind l n
move (more_items many b n) t = items_on t.kind many b n
move (block b n) t = if same_kind t.kind k.LeftBrace then opens b n else refuse
move (statements b n c) t = statement t.kind t b n c
move (functions c) t = function_at t.kind t c

-- The token before: its line, and the limit that it exceeds if it exceeds no lower one.
pub record Behind : Type 0 where
  pub line : ℕ
  pub late : Option ℕ

-- before the first token
abbrev pub nothing_behind : Behind
nothing_behind = record { line = 0; late = None }

abbrev pub late_of : Mark → Option ℕ
late_of (late which) = Some which
late_of _ = None

abbrev pub behind : Token → Mark → Behind
behind t m = record { line = t.line; late = late_of m }

pub data Step : Type 0 where
  go : Behind → List Symbol → List Item → Step
  stop : Fault → Step
  done : List Item → Step

pub data Answer : Type 0 where
  accepted : List Item → Answer
  -- with the tokens from the one at which the fault is known on
  failed : Fault → List Token → Answer

abbrev pub syntax_at : Token → Fault
syntax_at t = syntax t.line t.column

-- Which limits count: none, those that are known late, or all. A parser counts all.
pub data Counted : Type 0 where
  no_limits : Counted
  late_limits : Counted
  all_limits : Counted

abbrev pub counts_late : Counted → Bool
counts_late no_limits = false
counts_late _ = true

abbrev pub counts_over : Counted → Bool
counts_over all_limits = true
counts_over _ = false

-- a limit of the token before, now that no lower one goes before it
abbrev pub settled : Bool → Option ℕ → ℕ → Step → Step
settled counts None line s = s
settled counts (Some which) line s = if counts then stop (limit which line) else s

abbrev pub exceeds : Bool → Mark → Token → Step → Step
exceeds counts (over which) t s = if counts then stop (limit which t.line) else s
exceeds counts _ t s = s

abbrev pub after : Counted → Behind → Move → Token → List Symbol → List Item → (List Item → Step) → Step
after c l (take m more new) t s vs on = settled (counts_late c) l.late l.line (exceeds (counts_over c) m t (go (behind t m) (more ++ s) (new ++ vs)))
after c l (pass f) t s vs on = if not (counts_late c) || (f vs).0 then on (f vs).1 else stop (limit 5 l.line)
after c l refuse t s vs on = settled (counts_late c) l.late l.line (stop (syntax_at t))

-- One token, behind another.
unfoldable pub step : Counted → Behind → List Symbol → List Item → Token → Step
step c l [] vs t = settled (counts_late c) l.late l.line (done vs)
step c l (x ∷ s) vs t = after c l (move x t) t s vs (λ ws. step c l s ws t)

abbrev pub next : Step → Token → List Token → (Behind → List Symbol → List Item → Answer) → Answer
next (go l s vs) t ts on = on l s vs
next (stop f) t ts on = failed f (t ∷ ts)
next (done vs) t ts on = failed (syntax_at t) (t ∷ ts)

abbrev pub last : Step → Answer
last (go l s vs) = failed (syntax_at NOTHING) []
last (stop f) = failed f []
last (done vs) = accepted vs

unfoldable pub run_with : Counted → List Token → Behind → List Symbol → List Item → Answer
run_with c [] l s vs = last (step c l s vs NOTHING)
run_with c (t ∷ ts) l s vs = next (step c l s vs t) t ts (run_with c ts)

-- what is expected of a whole text, and what there is before it
abbrev pub start : List Symbol
start = functions 0 ∷ mark k.End ∷ []

abbrev pub begun : List Item
begun = of_funcs [] ∷ []

-- the token before, and the tokens ahead
abbrev pub Ahead : Type 0
Ahead = Behind × List Token

abbrev pub first_of : List Token → Token
first_of [] = NOTHING
first_of (t ∷ ts) = t

abbrev pub first : Ahead → Token
first a = first_of a.1

abbrev pub rest_of : Mark → Behind → List Token → Ahead
rest_of m l [] = (l, [])
rest_of m l (t ∷ ts) = (behind t m, ts)

-- past the next token, which exceeds this limit, if any
abbrev pub rest : Mark → Ahead → Ahead
rest m a = rest_of m a.0 a.1

abbrev pub run : Ahead → List Symbol → List Item → Answer
run a s vs = run_with all_limits a.1 a.0 s vs
