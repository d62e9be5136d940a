-- The names and numbers of a text within the limits are within theirs.
use Rattle.std.proofs.Common.{◌≡◌, ℕ, suc, ◌+◌, Bool, false, max, List, [], ◌∷◌, ◌++◌, length, refl, sym, subst}
use Rattle.psac_syntax.specs.declared.program.Expr.{Expr}
use Rattle.psac_syntax.specs.declared.program.ReadItem.{ReadItem}
use Rattle.psac_syntax.specs.declared.program.Stmt.{Stmt}
use Rattle.psac_syntax.specs.declared.program.Func.{Func}
use Rattle.psac_tokens.specs.declared.token.Kind.{Kind}
use Rattle.psac_tokens.specs.declared.token.Kind.TheVariants as k
use Rattle.psac_tokens.specs.declared.token.Token.{Token}
use Rattle.psac_grammar.specs.Marked.{Mark, fine, Marked, plain, token, AllFine, by_name, by_names, by_values, by_bodies, below, is_deep, ends_deep, begins_with, max_names, max_given}
use Rattle.psac_grammar.specs.Grammar.{IsExpr, whole, rows, row_count, parenthesized, with_one, with_two, alone, chain, compare, top, NameList, header_values, header_dests, call_dests, by_list, IsMoreNames, IsNames, IsMoreValues, IsValues, IsMoreItems, IsItems, IsStmts, IsFuncs, IsText}
use Rattle.psac_spelling.proofs.Pieces.{Bare}
use Rattle.psac_spelling.proofs.Replays.{FitsAs, Fits, NoneOver}
use Rattle.psac_spelling.proofs.Tokens.{fine_parts, deep_fine, begin_fine, size_fine, length_fine}
use Rattle.psac_spelling.proofs.Operators.{infix_of, one_of, two_of}
use Rattle.psac_spelling.proofs.Prints.{expr_some, rows_kind, inner_kind}

abbrev pub AllFit : List Marked → Type 0
AllFit [] = Unit {0}
AllFit (m ∷ ms) = Fits m.0 × AllFit ms

bare_fits : (kind : Kind) (t : Token) → Bare kind → FitsAs kind t
bare_fits k.Int t bare = absurd bare
bare_fits k.Name t bare = absurd bare
bare_fits _ t bare = tt

short_fits : (kind : Kind) (t : Token) → t.over ≡ false → FitsAs kind t
short_fits k.Int t h = h
short_fits k.Name t h = h
short_fits _ t h = tt

bare : (t : Token) (kind : Kind) → t.kind ≡ kind → Bare kind → Fits t
bare t kind is h = subst (λ r. FitsAs r t) (sym is) (bare_fits kind t h)

read_fits : (t : Token) → t.kind ≡ k.Read → Fits t
read_fits t is = subst (λ r. FitsAs r t) (sym is) tt

short : (t : Token) → t.over ≡ false → Fits t
short t h = short_fits t.kind t h

join : (ms ns : List Marked) → AllFit ms → AllFit ns → AllFit (ms ++ ns)
join [] ns h g = g
join (m ∷ ms) ns h g = (h.0, join ms ns h.1 g)

deep : (too : Bool) (ms : List Marked) → AllFit ms → AllFit (ends_deep too ms)
deep too [] h = h
deep too (m ∷ []) h = h
deep too (m ∷ n ∷ ms) h = (h.0, deep too (n ∷ ms) h.1)

begins : (m : Mark) (ms : List Marked) → AllFit ms → AllFit (begins_with m ms)
begins m [] h = h
begins m (t ∷ ms) h = h

-- ---- expressions

infix_fits : (n d g : ℕ) (ms ns : List Marked) (t : Token) (bare_t : Fits t) → (AllFine ms → AllFit ms) → (AllFine ns → AllFit ns) → (AllFine (ends_deep (is_deep (max d g + 1)) ns) → AllFine ns)
    → AllFine (ms ++ token t ∷ ends_deep (is_deep (max d g + 1)) ns) → AllFit (ms ++ token t ∷ ends_deep (is_deep (max d g + 1)) ns)
infix_fits n d g ms ns t bare_t left right shallow ok =
    let parts = fine_parts ms (token t ∷ ends_deep (is_deep (max d g + 1)) ns) ok in
    join ms (token t ∷ ends_deep (is_deep (max d g + 1)) ns) (left parts.0) (bare_t, deep (is_deep (max d g + 1)) ns (right (shallow parts.1.1)))

expr_fits : (n q d : ℕ) (ms : List Marked) (e : Expr) → IsExpr n q d ms e → AllFine ms → AllFit ms
expr_fits _ _ _ _ _ (whole q t e h) ok = (short t (size_fine t ok.0), tt)
expr_fits _ _ _ _ _ (rows q w h) ok = (bare w w.kind refl (rows_kind w.kind w h), tt)
expr_fits _ _ _ _ _ (row_count q w a b h i j) ok = (bare w w.kind refl (rows_kind w.kind w h), (bare a k.LeftParen i tt, (bare b k.RightParen j tt, tt)))
expr_fits _ _ _ _ _ (parenthesized q d a b ms e h x i) ok =
    let parts = fine_parts ms (token b ∷ []) ok.1 in
    (bare a a.kind refl (inner_kind a.kind a h), join ms (token b ∷ []) (expr_fits top (q + 1) d ms e x parts.0) (bare b k.RightParen i tt, tt))
expr_fits _ _ _ _ _ (with_one q d w a b f ms e h i x j) ok =
    let parts = fine_parts ms (ends_deep (is_deep (d + 1)) (token b ∷ [])) ok.1.1 in
    (bare w w.kind refl (one_of w.kind w f h).bare, (bare a k.LeftParen i tt, join ms _ (expr_fits top (q + 1) d ms e x parts.0) (bare b k.RightParen j tt, tt)))
expr_fits _ _ _ _ _ (with_two q d g w a b c f ms ns x y h i l j m r) ok =
    let last = ends_deep (is_deep (max d g + 1)) (token c ∷ []) in
    let parts = fine_parts ms (token b ∷ ns ++ last) ok.1.1 in
    let more = fine_parts ns last parts.1.1 in
    (bare w w.kind refl (two_of w.kind w f h).bare, (bare a k.LeftParen i tt, join ms (token b ∷ ns ++ last) (expr_fits top (q + 1) d ms x l parts.0) (bare b k.Comma j tt, join ns last (expr_fits top (q + 1) g ns y m more.0) (bare c k.RightParen r tt, tt))))
expr_fits _ _ _ _ _ (alone n q d ms e x) ok = expr_fits n q d ms e x ok
expr_fits _ _ _ _ _ (chain n q d g t o ms ns a b h x i y) ok =
    infix_fits n d g ms ns t (bare t t.kind refl (infix_of (suc n) t.kind o i).bare) (λ u. expr_fits (suc n) q d ms a x u) (λ u. expr_fits n q g ns b y u) (λ u. (deep_fine (is_deep (max d g + 1)) ns (expr_some n q g ns b y) u).1) ok
expr_fits _ _ _ _ _ (compare n q d g t o ms ns a b h x i y) ok =
    infix_fits n d g ms ns t (bare t t.kind refl (infix_of (suc n) t.kind o i).bare) (λ u. expr_fits n q d ms a x u) (λ u. expr_fits n q g ns b y u) (λ u. (deep_fine (is_deep (max d g + 1)) ns (expr_some n q g ns b y) u).1) ok

-- ---- lists

list_over : (l : NameList) (n : ℕ) (t : Token) → by_list l n t ≡ fine → t.over ≡ false
list_over header_values n t h = (length_fine (below n max_names 8) t h).0
list_over header_dests n t h = (length_fine (below n max_names 8) t h).0
list_over call_dests n t h = (length_fine (below n max_given 9) t h).0

names_over : (n : ℕ) (t : Token) → by_names n t ≡ fine → t.over ≡ false
names_over n t h = (length_fine (below n max_names 8) t h).0

name_over : (t : Token) → by_name t ≡ fine → t.over ≡ false
name_over t h = (length_fine fine t h).0

more_names_fit : (l : NameList) (n : ℕ) (ms : List Marked) (xs : List ℕ) → IsMoreNames l n ms xs → AllFine ms → AllFit ms
more_names_fit _ _ _ _ (IsMoreNames.none l n) ok = tt
more_names_fit _ _ _ _ (IsMoreNames.more l n c t ms xs hc ht x) ok = (bare c k.Comma hc tt, (short t (list_over l n t ok.1.0), more_names_fit l (n + 1) ms xs x ok.1.1))

names_fit : (l : NameList) (n : ℕ) (ms : List Marked) (xs : List ℕ) → IsNames l n ms xs → AllFine ms → AllFit ms
names_fit _ _ _ _ (IsNames.none l n) ok = tt
names_fit _ _ _ _ (IsNames.some l n t ms xs ht x) ok = (short t (list_over l n t ok.0), more_names_fit l (n + 1) ms xs x ok.1)

more_values_fit : (n : ℕ) (ms : List Marked) (es : List Expr) → IsMoreValues n ms es → AllFine ms → AllFit ms
more_values_fit _ _ _ (IsMoreValues.none n) ok = tt
more_values_fit _ _ _ (IsMoreValues.more n d c ms ns e es hc x v) ok =
    let parts = fine_parts (begins_with (by_values n) ms) ns ok.1 in
    let first = begin_fine (by_values n) ms (expr_some top 0 d ms e x) parts.0 in
    (bare c k.Comma hc tt, join (begins_with (by_values n) ms) ns (begins (by_values n) ms (expr_fits top 0 d ms e x first.1)) (more_values_fit (n + 1) ns es v parts.1))

values_fit : (ms : List Marked) (es : List Expr) → IsValues ms es → AllFine ms → AllFit ms
values_fit _ _ IsValues.none ok = tt
values_fit _ _ (IsValues.some d ms ns e es x v) ok =
    let parts = fine_parts ms ns ok in
    join ms ns (expr_fits top 0 d ms e x parts.0) (more_values_fit 1 ns es v parts.1)

more_items_fit : (n count : ℕ) (ms : List Marked) (is : List ReadItem) → IsMoreItems n count ms is → AllFine ms → AllFit ms
more_items_fit _ _ _ _ (IsMoreItems.none n count) ok = tt
more_items_fit _ _ _ _ (IsMoreItems.more n count d c w t ms ns e items room hc x hw ht v) ok =
    let parts = fine_parts ms (token w ∷ (t, by_names (n + count) t) ∷ ns) ok.1 in
    (bare c k.Comma hc tt, join ms _ (expr_fits top 0 d ms e x parts.0) (bare w k.As hw tt, (short t (names_over (n + count) t parts.1.1.0), more_items_fit n (count + 1) ns items v parts.1.1.1)))

items_fit : (n : ℕ) (ms : List Marked) (is : List ReadItem) → IsItems n ms is → AllFine ms → AllFit ms
items_fit _ _ _ (IsItems.items n d w t ms ns e items x hw ht v) ok =
    let parts = fine_parts ms (token w ∷ (t, by_names n t) ∷ ns) ok in
    join ms _ (expr_fits top 0 d ms e x parts.0) (bare w k.As hw tt, (short t (names_over n t parts.1.1.0), more_items_fit n 1 ns items v parts.1.1.1))

-- ---- statements and functions

stmts_fit : (b n c : ℕ) (ms : List Marked) (ss : List Stmt) → IsStmts b n c ms ss → AllFine ms → AllFit ms
stmts_fit _ _ _ _ _ (IsStmts.none b n c) ok = tt
stmts_fit _ _ _ _ _ (IsStmts.bind b n c d w t a s ms ns e ss hw ht ha x hs more) ok =
    let parts = fine_parts ms (token s ∷ ns) ok.1.1.1 in
    (bare w k.Let hw tt, (short t (names_over n t ok.1.0), (bare a k.Assign ha tt, join ms _ (expr_fits top 0 d ms e x parts.0) (bare s k.Semicolon hs tt, stmts_fit b (n + 1) (c + 1) ns ss more parts.1.1))))
stmts_fit _ _ _ _ _ (IsStmts.make b n c w t s ns ss hw ht hs more) ok =
    (bare w k.New hw tt, (short t (names_over n t ok.1.0), (bare s k.Semicolon hs tt, stmts_fit b (n + 1) (c + 1) ns ss more ok.1.1.1)))
stmts_fit _ _ _ _ _ (IsStmts.write b n c d w t a s ms ns e ss hw ht ha x hs more) ok =
    let parts = fine_parts ms (token s ∷ ns) ok.1.1.1 in
    (bare w k.Write hw tt, (short t (name_over t ok.1.0), (bare a k.Assign ha tt, join ms _ (expr_fits top 0 d ms e x parts.0) (bare s k.Semicolon hs tt, stmts_fit b n (c + 1) ns ss more parts.1.1))))
stmts_fit _ _ _ _ _ (IsStmts.read b n c w l r ms body ns items inside ss hw x hl y hr more) ok =
    let parts = fine_parts ms ((l, by_bodies b) ∷ body ++ token r ∷ ns) ok.1 in
    let later = fine_parts body (token r ∷ ns) parts.1.1 in
    (read_fits w hw, join ms _ (items_fit n ms items x parts.0) (bare l k.LeftBrace hl tt, join body _ (stmts_fit (b + 1) (n + length items) 0 body inside y later.0) (bare r k.RightBrace hr tt, stmts_fit b n (c + 1) ns ss more later.1.1)))
stmts_fit _ _ _ _ _ (IsStmts.choose b n c d w l r x o q ms one two ns e first second ss hw y hl u hr hx ho v hq more) ok =
    let parts = fine_parts ms ((l, by_bodies b) ∷ one ++ (token r ∷ token x ∷ (o, by_bodies b) ∷ two ++ token q ∷ ns)) ok.1 in
    let later = fine_parts one (token r ∷ token x ∷ (o, by_bodies b) ∷ two ++ token q ∷ ns) parts.1.1 in
    let last = fine_parts two (token q ∷ ns) later.1.1.1.1 in (
      bare w k.If hw tt,
      join ms _ (expr_fits top 0 d ms e y parts.0) (
        bare l k.LeftBrace hl tt,
        join one _ (stmts_fit (b + 1) n 0 one first u later.0)
            (bare r k.RightBrace hr tt, (bare x k.Else hx tt, (bare o k.LeftBrace ho tt, join two _ (stmts_fit (b + 1) n 0 two second v last.0) (bare q k.RightBrace hq tt, stmts_fit b n (c + 1) ns ss more last.1.1)))),
      ),
    )
stmts_fit _ _ _ _ _ (IsStmts.both b n c w l r o q one two ns first second ss hw hl u hr ho v hq more) ok =
    let later = fine_parts one (token r ∷ (o, by_bodies b) ∷ two ++ token q ∷ ns) ok.1.1 in
    let last = fine_parts two (token q ∷ ns) later.1.1.1 in (
      bare w k.Par hw tt,
      (
        bare l k.LeftBrace hl tt,
        join one _ (stmts_fit (b + 1) n 0 one first u later.0)
            (bare r k.RightBrace hr tt, (bare o k.LeftBrace ho tt, join two _ (stmts_fit (b + 1) n 0 two second v last.0) (bare q k.RightBrace hq tt, stmts_fit b n (c + 1) ns ss more last.1.1))),
      ),
    )
stmts_fit _ _ _ _ _ (IsStmts.call b n c w t a s z e vs ds ns values dests ss hw ht ha y hs u hz he more) ok =
    let parts = fine_parts vs (token s ∷ ds ++ (token z ∷ token e ∷ ns)) ok.1.1.1 in
    let later = fine_parts ds (token z ∷ token e ∷ ns) parts.1.1 in (
      bare w k.Call hw tt,
      (
        short t (name_over t ok.1.0),
        (
          bare a k.LeftParen ha tt,
          join vs _ (values_fit vs values y parts.0)
              (bare s k.Semicolon hs tt, join ds _ (names_fit call_dests 0 ds dests u later.0) (bare z k.RightParen hz tt, (bare e k.Semicolon he tt, stmts_fit b n (c + 1) ns ss more later.1.1.1))),
        ),
      ),
    )

pub funcs_fit : (c : ℕ) (ms : List Marked) (fs : List Func) → IsFuncs c ms fs → AllFine ms → AllFit ms
funcs_fit _ _ _ (IsFuncs.none c) ok = tt
funcs_fit _ _ _ (IsFuncs.func c w t a s z l r vs ds body ns values dests ss fs hw ht ha y hs u hz hl v hr more) ok =
    let parts = fine_parts vs (token s ∷ ds ++ (token z ∷ (l, by_bodies 0) ∷ body ++ token r ∷ ns)) ok.1.1.1 in
    let later = fine_parts ds (token z ∷ (l, by_bodies 0) ∷ body ++ token r ∷ ns) parts.1.1 in
    let last = fine_parts body (token r ∷ ns) later.1.1.1 in (
      bare w k.Func hw tt,
      (
        short t (name_over t ok.1.0),
        (
          bare a k.LeftParen ha tt,
          join vs _ (names_fit header_values 0 vs values y parts.0) (
            bare s k.Semicolon hs tt,
            join ds _ (names_fit header_dests (length values) ds dests u later.0)
                (bare z k.RightParen hz tt, (bare l k.LeftBrace hl tt, join body _ (stmts_fit 1 (length values + length dests) 0 body ss v last.0) (bare r k.RightBrace hr tt, funcs_fit (c + 1) ns fs more last.1.1))),
          ),
        ),
      ),
    )

-- the tokens of a text within the limits
pub text_fits : (ms : List Marked) (fs : List Func) → IsText ms fs → AllFine ms → AllFit ms
text_fits _ _ (IsText.text ms f fs e x h) ok =
    let parts = fine_parts ms (token e ∷ []) ok in
    join ms (token e ∷ []) (funcs_fit 0 ms (f ∷ fs) x parts.0) (bare e k.End h tt, tt)

pub none_over : (ms : List Marked) → AllFit ms → NoneOver (plain ms)
none_over [] h = tt
none_over (m ∷ ms) h = (h.0, none_over ms h.1)
