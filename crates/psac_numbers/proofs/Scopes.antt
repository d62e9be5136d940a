-- Of a parsed program, at most 24 names are in scope at each statement.
use Rattle.std.proofs.Common.{◌≡◌, ℕ, ◌+◌, ◌≤◌, ◌<◌, ◌==◌, ◌&&◌, nat_le, nat_lt, Bool, true, false, if◌then◌else◌, List, [], ◌∷◌, ◌++◌, map, length, find, Option, Some, None, refl, ap, sym, ◌∙◌, subst, arith}
use Rattle.std.proofs.lemmas.Bool.Decides.{nat_tests}
use Rattle.psac_syntax.specs.declared.program.Stmt.{Stmt, out-Stmt}
use Rattle.psac_syntax.specs.declared.program.Stmt.TheOpen.{Stmt-F}
use Rattle.psac_syntax.specs.declared.program.Stmt.TheVariants as stmt
use Rattle.psac_syntax.specs.declared.program.ReadItem.{ReadItem}
use Rattle.psac_syntax.specs.declared.program.Func.{Func}
use Rattle.psac_syntax.specs.declared.program.Program.{Program}
use Rattle.psac_tokens.specs.declared.token.Token.{Token}
use Rattle.psac_grammar.specs.Marked.{fine, over, Marked, token, AllFine, max_names, below, by_names, by_bodies}
use Rattle.psac_grammar.specs.Grammar.{NameList, header_values, header_dests, by_list, IsMoreNames, IsNames, IsMoreItems, IsItems, IsStmts, IsFuncs, IsText}
use Rattle.psac_grammar.specs.Grammar as g
use Rattle.psac_grammar.specs.Language.{IsProgram, IsParsed}
use Rattle.psac_model.specs.Run.{func_named}
use Rattle.psac_model.specs.Fresh.{main_of, is_named_main}
use Rattle.psac_scope.specs.Scope.{most_names, Scoping, one_by_one, scoping_step, scoping_of, FuncFits, FuncsFit}
use Rattle.psac_scope.proofs.Acts.{opened, scoping_out}

fine_parts : (ms ns : List Marked) → AllFine (ms ++ ns) → AllFine ms × AllFine ns
fine_parts [] ns h = (tt, h)
fine_parts (m ∷ ms) ns h = let r = fine_parts ms ns h.1 in ((h.0, r.0), r.1)

over_fine : (n : ℕ) → over n ≡ fine → ⊥
over_fine n h = cc

-- a name that is bound within the limit is bound beside fewer than the most
room_left : (n : ℕ) (t : Token) → by_names n t ≡ fine → n < most_names
room_left n t h = within (short t.over h)
  where
    short : (b : Bool) → (if b then over 6 else below n max_names 8) ≡ fine → below n max_names 8 ≡ fine
    short true k = absurd (over_fine 6 k)
    short false k = k

    test : (b : Bool) → (if b then fine else over 8) ≡ fine → b ≡ true
    test true k = refl
    test false k = absurd (over_fine 8 k)

    within : below n max_names 8 ≡ fine → n < most_names
    within k = let t : nat_lt n most_names ≡ true = test (nat_lt n most_names) k in grind (arith, nat_tests)

-- the names of a header
more_names_within : (n : ℕ) (l : NameList) → ((m : ℕ) (t : Token) → by_list l m t ≡ fine → m < most_names) → (ms : List Marked) (xs : List ℕ) → IsMoreNames l n ms xs → AllFine ms → n ≤ most_names → n + length xs ≤ most_names
more_names_within _ _ names _ _ (IsMoreNames.none l n) ok most = omega arith
more_names_within _ _ names _ _ (IsMoreNames.more l n c t ms xs hc ht x) ok most =
    let less = names n t ok.1.0 in
    let more = more_names_within (n + 1) l names ms xs x ok.1.1 (omega arith) in
    omega arith

names_within : (n : ℕ) (l : NameList) → ((m : ℕ) (t : Token) → by_list l m t ≡ fine → m < most_names) → (ms : List Marked) (xs : List ℕ) → IsNames l n ms xs → AllFine ms → n ≤ most_names → n + length xs ≤ most_names
names_within _ _ names _ _ (IsNames.none l n) ok most = omega arith
names_within _ _ names _ _ (IsNames.some l n t ms xs ht x) ok most =
    let less = names n t ok.0 in
    let more = more_names_within (n + 1) l names ms xs x ok.1 (omega arith) in
    omega arith

-- the names of a read
more_items_within : (n count : ℕ) (ms : List Marked) (items : List ReadItem) → IsMoreItems n count ms items → AllFine ms → n + count ≤ most_names → (n + count) + length items ≤ most_names
more_items_within _ _ _ _ (IsMoreItems.none n count) ok most = omega arith
more_items_within _ _ _ _ (IsMoreItems.more n count d c w t ms ns e items room hc x hw ht v) ok most =
    let parts = fine_parts ms (token w ∷ (t, by_names (n + count) t) ∷ ns) ok.1 in
    let less = room_left (n + count) t parts.1.1.0 in
    let more = more_items_within n (count + 1) ns items v parts.1.1.1 (omega arith) in
    omega arith

items_within : (n : ℕ) (ms : List Marked) (items : List ReadItem) → IsItems n ms items → AllFine ms → n + length items ≤ most_names
items_within _ _ _ (IsItems.items n d w t ms ns e items x hw ht v) ok =
    let parts = fine_parts ms (token w ∷ (t, by_names n t) ∷ ns) ok in
    let less = room_left n t parts.1.1.0 in
    let more = more_items_within n 1 ns items v parts.1.1.1 (omega arith) in
    omega arith

-- a statement before others
abbrev within : List Stmt → ℕ → Type 0
within ss n = one_by_one (map scoping_of ss) n ≡ true

both_are : (a b : Bool) → a ≡ true → b ≡ true → (a && b) ≡ true
both_are a b h k = rw (h, k) refl

stmt_within : (s : Stmt) (ss : List Stmt) (n : ℕ) (f : Stmt-F Stmt) → out-Stmt s ≡ f → (scoping_step (opened f)).fits n ≡ true → within ss (n + (scoping_step (opened f)).binds) → within (s ∷ ss) n
stmt_within s ss n f is h k =
    let e : scoping_of s ≡ scoping_step (opened f) = scoping_out s ∙ ap (λ z. scoping_step (opened z)) is in
    subst (λ (z : Scoping). (z.fits n && one_by_one (map scoping_of ss) (n + z.binds)) ≡ true) (sym e) (both_are _ _ h k)

less_is : (n : ℕ) → n < most_names → nat_lt n most_names ≡ true
less_is n h = grind (arith, nat_tests)

most_is : (n : ℕ) → n ≤ most_names → nat_le n most_names ≡ true
most_is n h = grind (arith, nat_tests)

still : (ss : List Stmt) (n : ℕ) → within ss n → within ss (n + 0)
still ss n h = let e : n ≡ n + 0 = omega arith in subst (λ z. within ss z) e h

stmts_within : (b n c : ℕ) (ms : List Marked) (ss : List Stmt) → IsStmts b n c ms ss → AllFine ms → within ss n
stmts_within _ _ _ _ _ (g.none b n c) ok = refl
stmts_within _ _ _ _ _ (g.bind b n c d w t a s xs ns e more i1 i2 i3 i4 i5 rest) ok =
    let parts = fine_parts xs (token s ∷ ns) ok.1.1.1 in
    stmt_within (stmt.Let w.line t.index e) more n (Stmt-F.Let w.line t.index e) (stmt.outs-Let w.line t.index e) (less_is n (room_left n t ok.1.0)) (stmts_within b (n + 1) (c + 1) ns more rest parts.1.1)
stmts_within _ _ _ _ _ (g.make b n c w t s ns more i1 i2 i3 rest) ok =
    stmt_within (stmt.New w.line t.index) more n (Stmt-F.New w.line t.index) (stmt.outs-New w.line t.index) (less_is n (room_left n t ok.1.0)) (stmts_within b (n + 1) (c + 1) ns more rest ok.1.1.1)
stmts_within _ _ _ _ _ (g.write b n c d w t a s xs ns e more i1 i2 i3 i4 i5 rest) ok =
    let parts = fine_parts xs (token s ∷ ns) ok.1.1.1 in
    stmt_within (stmt.Write w.line t.index e) more n (Stmt-F.Write w.line t.index e) (stmt.outs-Write w.line t.index e) refl (still more n (stmts_within b n (c + 1) ns more rest parts.1.1))
stmts_within _ _ _ _ _ (g.read b n c w l r is body ns items inside more i1 i2 i3 within_body i4 rest) ok =
    let parts = fine_parts is ((l, by_bodies b) ∷ body ++ token r ∷ ns) ok.1 in
    let later = fine_parts body (token r ∷ ns) parts.1.1 in
    stmt_within (stmt.Read w.line w.index items inside) more n (Stmt-F.Read w.line w.index items inside) (stmt.outs-Read w.line w.index items inside)
    (both_are _ _ (most_is (n + length items) (items_within n is items i2 parts.0)) (stmts_within (b + 1) (n + length items) 0 body inside within_body later.0))
    (still more n (stmts_within b n (c + 1) ns more rest later.1.1))
stmts_within _ _ _ _ _ (g.choose b n c d w l r x o q ms on off ns e one other more i1 i2 i3 first i4 i5 i6 second i7 rest) ok =
    let parts = fine_parts ms ((l, by_bodies b) ∷ on ++ (token r ∷ token x ∷ (o, by_bodies b) ∷ off ++ token q ∷ ns)) ok.1 in
    let later = fine_parts on (token r ∷ token x ∷ (o, by_bodies b) ∷ off ++ token q ∷ ns) parts.1.1 in
    let last = fine_parts off (token q ∷ ns) later.1.1.1.1 in
    stmt_within (stmt.If w.line e one other) more n (Stmt-F.If w.line e one other) (stmt.outs-If w.line e one other)
    (both_are _ _ (stmts_within (b + 1) n 0 on one first later.0) (stmts_within (b + 1) n 0 off other second last.0))
    (still more n (stmts_within b n (c + 1) ns more rest last.1.1))
stmts_within _ _ _ _ _ (g.both b n c w l r o q left right ns one other more i1 i2 first i3 i4 second i5 rest) ok =
    let later = fine_parts left (token r ∷ (o, by_bodies b) ∷ right ++ token q ∷ ns) ok.1.1 in
    let last = fine_parts right (token q ∷ ns) later.1.1.1 in
    stmt_within (stmt.Par w.line one other) more n (Stmt-F.Par w.line one other) (stmt.outs-Par w.line one other)
    (both_are _ _ (stmts_within (b + 1) n 0 left one first later.0) (stmts_within (b + 1) n 0 right other second last.0))
    (still more n (stmts_within b n (c + 1) ns more rest last.1.1))
stmts_within _ _ _ _ _ (g.call b n c w t a s z e vs ds ns values dests more i1 i2 i3 i4 i5 i6 i7 i8 rest) ok =
    let parts = fine_parts vs (token s ∷ ds ++ (token z ∷ token e ∷ ns)) ok.1.1.1 in
    let later = fine_parts ds (token z ∷ token e ∷ ns) parts.1.1 in
    stmt_within (stmt.Call w.line t.index values dests) more n (Stmt-F.Call w.line t.index values dests) (stmt.outs-Call w.line t.index values dests) refl (still more n (stmts_within b n (c + 1) ns more rest later.1.1.1))

-- each function of a list
abbrev EachFits : List Func → Type 0
EachFits [] = Unit {0}
EachFits (f ∷ fs) = FuncFits f × EachFits fs

funcs_fit : (c : ℕ) (ms : List Marked) (fs : List Func) → IsFuncs c ms fs → AllFine ms → EachFits fs
funcs_fit _ _ _ (g.none c) ok = tt
funcs_fit _ _ _ (g.func c w t a s z l r vs ds body ns values dests ss fs i1 i2 i3 i4 i5 i6 i7 i8 inner i9 rest) ok =
    let parts = fine_parts vs (token s ∷ ds ++ (token z ∷ (l, by_bodies 0) ∷ body ++ token r ∷ ns)) ok.1.1.1 in
    let later = fine_parts ds (token z ∷ (l, by_bodies 0) ∷ body ++ token r ∷ ns) parts.1.1 in
    let last = fine_parts body (token r ∷ ns) later.1.1.1 in
    let first = names_within 0 header_values room_left vs values i4 parts.0 (omega arith) in
    let both = names_within (length values) header_dests room_left ds dests i6 later.0 (omega arith) in (
      record { count = length values + length dests; some = omega arith; most = both; inside = stmts_within 1 (length values + length dests) 0 body ss inner last.0 },
      funcs_fit (c + 1) ns fs rest last.1.1,
    )

text_fits : (ms : List Marked) (fs : List Func) → IsText ms fs → AllFine ms → EachFits fs
text_fits _ _ (g.text ms f fs e h i) ok = funcs_fit 0 ms (f ∷ fs) h (fine_parts ms (token e ∷ []) ok).0

none_is : {A : Type 0} (x : A) → (let o : Option A = None in o ≡ Some x) → ⊥
none_is x h = cc

some_is : {A : Type 0} (x y : A) → (let o : Option A = Some x in o ≡ Some y) → x ≡ y
some_is x y h = cc

-- the first of a list that passes a test
found_fits : (test : Func → Bool) (fs : List Func) (g : Func) → EachFits fs → find test fs ≡ Some g → FuncFits g
found_fits test [] g h e = absurd (none_is g e)
found_fits test (f ∷ fs) g h e =
    elim (test f) as (λ b. (if b then Some f else find test fs) ≡ Some g → FuncFits g) [ true ↦ λ k. subst FuncFits (some_is f g k) h.0 | false ↦ λ k. found_fits test fs g h.1 k ] e

named_fits : (name : ℕ) (fs : List Func) (g : Func) → EachFits fs → func_named name fs ≡ Some g → FuncFits g
named_fits name [] g h e = absurd (none_is g e)
named_fits name (f ∷ fs) g h e =
    elim (f.name == name) as (λ b. (if b then Some f else func_named name fs) ≡ Some g → FuncFits g) [ true ↦ λ k. subst FuncFits (some_is f g k) h.0 | false ↦ λ k. named_fits name fs g h.1 k ] e

program_fits : (bytes : List ℕ) (p : Program) → IsProgram bytes p → EachFits p.funcs
program_fits bytes p h =
    subst EachFits (sym (ap (λ (z : Program). z.funcs) h.is)) (text_fits h.ms h.funcs h.grammar h.limits)

-- each function of a parsed program keeps within 24 names
pub parsed_fits : (p : Program) → IsParsed p → FuncsFit p.funcs
parsed_fits p h f g e = named_fits f p.funcs g (program_fits h.0 p h.1) e

-- and so does its main
pub parsed_main_fits : (p : Program) (main : Func) → IsParsed p → main_of p ≡ Some main → FuncFits main
parsed_main_fits p main h is = found_fits (is_named_main p) p.funcs main (program_fits h.0 p h.1) is
