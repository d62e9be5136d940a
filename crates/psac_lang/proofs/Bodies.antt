-- Statements and functions, as the code meets them.
use Rattle.std.proofs.Common.{◌≡◌, ℕ, zero, suc, ◌+◌, ◌<◌, true, false, List, [], ◌∷◌, ◌++◌, None, Result, refl, sym, ap, subst, ◌∙◌, arith}
use Rattle.psac_tokens.specs.declared.token.Kind.{Kind}
use Rattle.psac_tokens.specs.declared.token.Kind.TheVariants as kinds
use Rattle.psac_tokens.specs.declared.token.Token.{Token}
use Rattle.psac_grammar.specs.Marked.{by_statements, by_funcs}
use Rattle.psac_grammar.specs.Grammar.{top, header_values}
use Rattle.psac_grammar.specs.Machine.{Symbol, mark, make, level, a_name, binding, names, values, before_values, before_names, statements, more_items, block, functions, same_kind, Item, of_items, take, pass, move, built, statement, let_made, new_made, write_made, read_made, if_made, par_made, call_made, item_made, func_made, function_at, Ahead, first, run, failed, accepted, syntax_at, run_with, step}
use Rattle.psac_lang.specs.declared.fault.Halt.{Halt}
use Rattle.psac_lang.specs.Reads.{Goes, taken, begins_statement, BeginsFunc}
use Rattle.psac_lang.proofs.Moves.{passed_at, kind_is}

-- what a statement expects that begins so, behind its first token, and the items that it begins with
abbrev pub rest_of : Kind → Token → ℕ → ℕ → List Symbol
rest_of kinds.Let t b n = binding n ∷ mark kinds.Assign ∷ level top 0 ∷ mark kinds.Semicolon ∷ make (let_made t.line) ∷ []
rest_of kinds.New t b n = binding n ∷ mark kinds.Semicolon ∷ make (new_made t.line) ∷ []
rest_of kinds.Write t b n = a_name ∷ mark kinds.Assign ∷ level top 0 ∷ mark kinds.Semicolon ∷ make (write_made t.line) ∷ []
rest_of kinds.Read t b n = level top 0 ∷ mark kinds.As ∷ binding n ∷ make item_made ∷ more_items 1 b n ∷ make (read_made t.line t.index) ∷ []
rest_of kinds.If t b n = level top 0 ∷ block b n ∷ mark kinds.Else ∷ block b n ∷ make (if_made t.line) ∷ []
rest_of kinds.Par t b n = block b n ∷ block b n ∷ make (par_made t.line) ∷ []
rest_of kinds.Call t b n = a_name ∷ before_values ∷ values ∷ mark kinds.Semicolon ∷ make (call_made t.line) ∷ []
rest_of _ t b n = []

abbrev pub items_of : Kind → List Item
items_of kinds.Read = of_items [] ∷ []
items_of _ = []

abbrev pub bound_then : Kind → ℕ → ℕ
bound_then kinds.Let n = n + 1
bound_then kinds.New n = n + 1
bound_then _ n = n

statement_is : (k : Kind) (t : Token) (b n c : ℕ) → begins_statement k ≡ true → statement k t b n c ≡ take (by_statements c) (rest_of k t b n ++ statements b (bound_then k n) (c + 1) ∷ []) (items_of k)
statement_is kinds.Let t b n c h = refl
statement_is kinds.New t b n c h = refl
statement_is kinds.Write t b n c h = refl
statement_is kinds.Read t b n c h = refl
statement_is kinds.If t b n c h = refl
statement_is kinds.Par t b n c h = refl
statement_is kinds.Call t b n c h = refl
statement_is _ t b n c h = absurd cc

pub statement_moves : (b n c : ℕ) (t u : Token) → t ≡ u → begins_statement u.kind ≡ true → move (statements b n c) u ≡ take (by_statements c) (rest_of t.kind t b n ++ statements b (bound_then t.kind n) (c + 1) ∷ []) (items_of t.kind)
unfolding move
statement_moves b n c t u same h = rw same (statement_is u.kind u b n c h)

no_statement : (k : Kind) (t : Token) (b n c : ℕ) → begins_statement k ≡ false → statement k t b n c ≡ pass built
no_statement kinds.Let t b n c h = absurd cc
no_statement kinds.New t b n c h = absurd cc
no_statement kinds.Write t b n c h = absurd cc
no_statement kinds.Read t b n c h = absurd cc
no_statement kinds.If t b n c h = absurd cc
no_statement kinds.Par t b n c h = absurd cc
no_statement kinds.Call t b n c h = absurd cc
no_statement _ t b n c h = refl

statements_is : (b n c : ℕ) (t : Token) → move (statements b n c) t ≡ statement t.kind t b n c
unfolding move
statements_is b n c t = refl

pub statements_end : (c : Ahead) (b n count : ℕ) (t : Token) (s : List Symbol) (vs : List Item) → t ≡ first c → begins_statement t.kind ≡ false → run c (statements b n count ∷ s) vs ≡ run c s vs
statements_end c b n count t s vs is h = passed_at c (statements b n count) s vs built (rw (← is) (statements_is b n count t ∙ no_statement t.kind t b n count h)) refl

-- how many names are in scope then
pub same_scope : {X : Type 0} (result : Result X Halt) (before after : Ahead) (b m n c : ℕ) (s0 s : List Symbol) (v0 : List Item) (vs' : X → List Item) → m ≡ n → Goes result before after s0 v0 (λ v. statements b m c ∷ s) vs' → Goes result before after s0 v0 (λ v. statements b n c ∷ s) vs'
same_scope {X} result before after b m n c s0 s v0 vs' h g = let P : ℕ → Type 0 = λ k. Goes result before after s0 v0 (λ v. statements b k c ∷ s) vs' in subst P h g

-- ---- functions

func_first : (k : Kind) (t : Token) → function_at k t 0 ≡ taken k kinds.Func (by_funcs 0) (a_name ∷ before_names ∷ names header_values 0 ∷ make (func_made t.line) ∷ functions 1 ∷ []) []
func_first kinds.Func t = refl
func_first _ t = refl

pub begins_first : (t : Token) → BeginsFunc 0 t
unfolding move
begins_first t = func_first t.kind t

pub begins_more : (c : ℕ) (t u : Token) → t ≡ u → true ≡ same_kind t.kind kinds.Func → BeginsFunc c u
unfolding move
begins_more c t u same h = rw (← same, kind_is kinds.Func t.kind (sym h)) refl

func_other : (k : Kind) (t : Token) (c : ℕ) → same_kind k kinds.Func ≡ false → 0 < c → function_at k t c ≡ pass built
func_other kinds.Func t c h some = absurd cc
func_other _ t zero h some = absurd (omega arith)
func_other _ t (suc c) h some = refl

functions_moves : (c : ℕ) (t : Token) → same_kind t.kind kinds.Func ≡ false → 0 < c → move (functions c) t ≡ pass built
unfolding move
functions_moves c t h some = func_other t.kind t c h some

pub functions_end : (c : Ahead) (n : ℕ) (t : Token) (s : List Symbol) (vs : List Item) → t ≡ first c → false ≡ same_kind t.kind kinds.Func → 0 < n → run c (functions n ∷ s) vs ≡ run c s vs
functions_end c n t s vs is h some = passed_at c (functions n) s vs built (functions_moves n (first c) (rw (← is) (sym h)) some) refl

-- ---- the end of a text

pub stays : (c : Ahead) (vs : List Item) → c.0.late ≡ None → (c.1 ≡ [] → ⊥) → run c [] vs ≡ failed (syntax_at (first c)) c.1
unfolding run_with step
stays (l, []) vs known h = absurd (h refl)
stays (l, (t ∷ ts)) vs known h = rw known refl

pub ended : (c : Ahead) (vs : List Item) → c.0.late ≡ None → c.1 ≡ [] → run c [] vs ≡ accepted vs
unfolding run_with step
ended c vs known h = rw (h, known) refl

-- a statement that begins with a token of this kind
pub begins_as : (k : Kind) (t : Token) (b n c : ℕ) (before after : Ahead) (s : List Symbol) (vs : List Item) → t.kind ≡ k
    → run before (statements b n c ∷ s) vs ≡ run after ((rest_of t.kind t b n ++ statements b (bound_then t.kind n) (c + 1) ∷ []) ++ s) (items_of t.kind ++ vs)
    → run before (statements b n c ∷ s) vs ≡ run after ((rest_of k t b n ++ statements b (bound_then k n) (c + 1) ∷ []) ++ s) (items_of k ++ vs)
begins_as k t b n c before after s vs is h = h ∙ ap (λ j. run after ((rest_of j t b n ++ statements b (bound_then j n) (c + 1) ∷ []) ++ s) (items_of j ++ vs)) is
