-- Statements, functions and whole texts are read by the machine, up to the first token that exceeds a limit.
use Rattle.std.proofs.Common.{◌≡◌, ℕ, suc, ◌+◌, List, [], ◌∷◌, ◌++◌, length, refl, sym, subst, append_assoc, arith}
use Rattle.std.proofs.lemmas.List.{append-nil}
use Rattle.psac_syntax.specs.declared.program.Stmt.{Stmt}
use Rattle.psac_syntax.specs.declared.program.Stmt.TheVariants as stmt
use Rattle.psac_syntax.specs.declared.program.Func.{Func}
use Rattle.psac_tokens.specs.declared.token.Kind.TheVariants as kinds
use Rattle.psac_tokens.specs.declared.token.Token.{Token}
use Rattle.psac_grammar.specs.Marked.{fine, Marked, plain, token, by_name, by_names, by_bodies, by_statements, by_funcs}
use Rattle.psac_grammar.specs.Grammar as g
use Rattle.psac_grammar.specs.Grammar.{IsExpr, top, header_values, header_dests, call_dests, IsNames, IsValues, IsItems, IsStmts, function, IsFuncs, IsText}
use Rattle.psac_grammar.specs.Machine.{Symbol, mark, make, level, a_name, binding, before_values, before_names, values, names, more_items, block, statements, functions, Item, of_name, of_names, of_values, of_items, of_stmts, of_funcs, take, pass, move, built, let_made, new_made, write_made, read_made, if_made, par_made, call_made, func_made, item_made, Counted, first_of, start, begun}
use Rattle.psac_grammar.proofs.Through.{Follows, compose, goes, nothing, pass_then}
use Rattle.psac_grammar.proofs.Levels.{quiet_at}
use Rattle.psac_grammar.proofs.Expressions.{then_mark, expr_then}
use Rattle.psac_grammar.proofs.Lists.{makes, then_name, names_read, values_read, items_read}

let_moves : (b n c : ℕ) (t : Token) → t.kind ≡ kinds.Let
    → move (statements b n c) t ≡ take (by_statements c) (binding n ∷ mark kinds.Assign ∷ level top 0 ∷ mark kinds.Semicolon ∷ make (let_made t.line) ∷ statements b (n + 1) (c + 1) ∷ []) []
unfolding move
let_moves b n c t k = rw k refl

new_moves : (b n c : ℕ) (t : Token) → t.kind ≡ kinds.New → move (statements b n c) t ≡ take (by_statements c) (binding n ∷ mark kinds.Semicolon ∷ make (new_made t.line) ∷ statements b (n + 1) (c + 1) ∷ []) []
unfolding move
new_moves b n c t k = rw k refl

write_moves : (b n c : ℕ) (t : Token) → t.kind ≡ kinds.Write
    → move (statements b n c) t ≡ take (by_statements c) (a_name ∷ mark kinds.Assign ∷ level top 0 ∷ mark kinds.Semicolon ∷ make (write_made t.line) ∷ statements b n (c + 1) ∷ []) []
unfolding move
write_moves b n c t k = rw k refl

read_moves : (b n c : ℕ) (t : Token) → t.kind ≡ kinds.Read
    → move (statements b n c) t ≡ take (by_statements c) (level top 0 ∷ mark kinds.As ∷ binding n ∷ make item_made ∷ more_items 1 b n ∷ make (read_made t.line t.index) ∷ statements b n (c + 1) ∷ []) (of_items [] ∷ [])
unfolding move
read_moves b n c t k = rw k refl

if_moves : (b n c : ℕ) (t : Token) → t.kind ≡ kinds.If
    → move (statements b n c) t ≡ take (by_statements c) (level top 0 ∷ block b n ∷ mark kinds.Else ∷ block b n ∷ make (if_made t.line) ∷ statements b n (c + 1) ∷ []) []
unfolding move
if_moves b n c t k = rw k refl

par_moves : (b n c : ℕ) (t : Token) → t.kind ≡ kinds.Par → move (statements b n c) t ≡ take (by_statements c) (block b n ∷ block b n ∷ make (par_made t.line) ∷ statements b n (c + 1) ∷ []) []
unfolding move
par_moves b n c t k = rw k refl

call_moves : (b n c : ℕ) (t : Token) → t.kind ≡ kinds.Call
    → move (statements b n c) t ≡ take (by_statements c) (a_name ∷ before_values ∷ values ∷ mark kinds.Semicolon ∷ make (call_made t.line) ∷ statements b n (c + 1) ∷ []) []
unfolding move
call_moves b n c t k = rw k refl

statements_end : (b n c : ℕ) (t : Token) → t.kind ≡ kinds.RightBrace → move (statements b n c) t ≡ pass built
unfolding move
statements_end b n c t k = rw k refl

block_moves : (b n : ℕ) (t : Token) → t.kind ≡ kinds.LeftBrace → move (block b n) t ≡ take (by_bodies b) (statements (b + 1) n 0 ∷ mark kinds.RightBrace ∷ []) (of_stmts [] ∷ [])
unfolding move
block_moves b n t k = rw k refl

before_values_moves : (t : Token) → t.kind ≡ kinds.LeftParen → move before_values t ≡ take fine [] (of_values [] ∷ [])
unfolding move
before_values_moves t k = rw k refl

before_names_moves : (t : Token) → t.kind ≡ kinds.LeftParen → move before_names t ≡ take fine [] (of_names [] ∷ [])
unfolding move
before_names_moves t k = rw k refl

func_moves : (c : ℕ) (t : Token) → t.kind ≡ kinds.Func → move (functions c) t ≡ take (by_funcs c) (a_name ∷ before_names ∷ names header_values 0 ∷ make (func_made t.line) ∷ functions (c + 1) ∷ []) []
unfolding move
func_moves c t k = rw k refl

functions_end : (c : ℕ) (t : Token) → t.kind ≡ kinds.End → move (functions (suc c)) t ≡ pass built
unfolding move
functions_end c t k = rw k refl

module _ (x : Counted) where
  -- what stands behind the statements of a body
  abbrev Ends : List Token → Type 0
  Ends ts = (first_of ts).kind ≡ kinds.RightBrace

  abbrev ReadsStmts : ℕ → ℕ → ℕ → List Marked → List Stmt → Type 0
  ReadsStmts b n c ms ss = (after : List Token) (s : List Symbol) (so : List Stmt) (vs : List Item) → Ends after → Follows x ms after (statements b n c ∷ s) (of_stmts so ∷ vs) s (of_stmts (so ++ ss) ∷ vs)

  -- one statement was built
  one_built : (b n c : ℕ) (ms : List Marked) (made : Stmt) (ss : List Stmt) (after : List Token) (s : List Symbol) (so : List Stmt) (vs : List Item) → ReadsStmts b n c ms ss → Ends after
      → Follows x ms after (statements b n c ∷ s) (of_stmts (so ++ made ∷ []) ∷ vs) s (of_stmts (so ++ made ∷ ss) ∷ vs)
  one_built b n c ms made ss after s so vs reads end =
      let P : List Stmt → Type 0 = λ all. Follows x ms after (statements b n c ∷ s) (of_stmts (so ++ made ∷ []) ∷ vs) s (of_stmts all ∷ vs) in
      subst P (append_assoc so (made ∷ []) ss) (reads after s (so ++ made ∷ []) vs end)

  -- a body, behind its opening brace
  body_read : (b n : ℕ) (r : Token) (body ns : List Marked) (inside : List Stmt) {after : List Token} {s s2 : List Symbol} {vs v2 : List Item} → r.kind ≡ kinds.RightBrace → ReadsStmts b n 0 body inside
      → Follows x ns after s (of_stmts inside ∷ vs) s2 v2 → Follows x (body ++ token r ∷ ns) after (statements b n 0 ∷ mark kinds.RightBrace ∷ s) (of_stmts [] ∷ vs) s2 v2
  body_read b n r body ns inside {after} {s} {s2} {vs} {v2} kr reads h =
      compose body (token r ∷ ns) (mark kinds.RightBrace ∷ s) (of_stmts inside ∷ vs) (reads (r ∷ (plain ns ++ after)) (mark kinds.RightBrace ∷ s) [] vs kr) (then_mark kr refl h)

  block_read : (b n : ℕ) (o r : Token) (body ns : List Marked) (inside : List Stmt) {after : List Token} {s s2 : List Symbol} {vs v2 : List Item} → o.kind ≡ kinds.LeftBrace → r.kind ≡ kinds.RightBrace → ReadsStmts (b + 1) n 0 body inside
      → Follows x ns after s (of_stmts inside ∷ vs) s2 v2 → Follows x ((o, by_bodies b) ∷ body ++ token r ∷ ns) after (block b n ∷ s) vs s2 v2
  block_read b n o r body ns inside ko kr reads h = goes (block_moves b n o ko) (body_read (b + 1) n r body ns inside kr reads h)

  pub stmts_read : (b n c : ℕ) (ms : List Marked) (ss : List Stmt) → IsStmts b n c ms ss → ReadsStmts b n c ms ss
  stmts_read _ _ _ _ _ (g.none b n c) = λ after s so vs end.
      let P : List Stmt → Type 0 = λ all. Follows x [] after (statements b n c ∷ s) (of_stmts so ∷ vs) s (of_stmts all ∷ vs) in
      subst P (sym (append-nil so)) (pass_then built (statements_end b n c (first_of after) end) refl nothing)
  stmts_read _ _ _ _ _ (g.bind b n c d w t a z ms ns e ss kw kt ka good kz others) = λ after s so vs end.
      goes (let_moves b n c w kw) (then_name (by_names n) kt (then_mark ka refl
      (expr_then 0 d ms (token z ∷ ns) e good (quiet_at kinds.Semicolon kz refl refl) (then_mark kz refl
      (makes (let_made w.line) refl (one_built b (n + 1) (c + 1) ns (stmt.Let w.line t.index e) ss after s so vs (stmts_read b (n + 1) (c + 1) ns ss others) end))))))
  stmts_read _ _ _ _ _ (g.make b n c w t z ns ss kw kt kz others) = λ after s so vs end.
      goes (new_moves b n c w kw) (then_name (by_names n) kt (then_mark kz refl
      (makes (new_made w.line) refl (one_built b (n + 1) (c + 1) ns (stmt.New w.line t.index) ss after s so vs (stmts_read b (n + 1) (c + 1) ns ss others) end))))
  stmts_read _ _ _ _ _ (g.write b n c d w t a z ms ns e ss kw kt ka good kz others) = λ after s so vs end.
      goes (write_moves b n c w kw) (then_name by_name kt (then_mark ka refl
      (expr_then 0 d ms (token z ∷ ns) e good (quiet_at kinds.Semicolon kz refl refl) (then_mark kz refl
      (makes (write_made w.line) refl (one_built b n (c + 1) ns (stmt.Write w.line t.index e) ss after s so vs (stmts_read b n (c + 1) ns ss others) end))))))
  stmts_read _ _ _ _ _ (g.read b n c w o r is body ns items inside ss kw good ko first kr others) = λ after s so vs end.
      goes (read_moves b n c w kw)
      (items_read x b n o ko (body ++ token r ∷ ns) after (make (read_made w.line w.index) ∷ statements b n (c + 1) ∷ s) s (of_stmts so ∷ vs) (of_stmts (so ++ stmt.Read w.line w.index items inside ∷ ss) ∷ vs) is items good
      (body_read (b + 1) (n + length items) r body ns inside kr (stmts_read (b + 1) (n + length items) 0 body inside first)
      (makes (read_made w.line w.index) refl (one_built b n (c + 1) ns (stmt.Read w.line w.index items inside) ss after s so vs (stmts_read b n (c + 1) ns ss others) end))))
  stmts_read _ _ _ _ _ (g.choose b n c d w l r q o z ms left right ns e first second ss kw good kl one kr kq ko two kz others) = λ after s so vs end.
      goes (if_moves b n c w kw)
      (expr_then 0 d ms ((l, by_bodies b) ∷ left ++ (token r ∷ token q ∷ (o, by_bodies b) ∷ right ++ token z ∷ ns)) e good (quiet_at kinds.LeftBrace kl refl refl)
      (block_read b n l r left (token q ∷ (o, by_bodies b) ∷ right ++ token z ∷ ns) first kl kr (stmts_read (b + 1) n 0 left first one) (then_mark kq refl
      (block_read b n o z right ns second ko kz (stmts_read (b + 1) n 0 right second two)
      (makes (if_made w.line) refl (one_built b n (c + 1) ns (stmt.If w.line e first second) ss after s so vs (stmts_read b n (c + 1) ns ss others) end))))))
  stmts_read _ _ _ _ _ (g.both b n c w l r o z left right ns first second ss kw kl one kr ko two kz others) = λ after s so vs end.
      goes (par_moves b n c w kw)
      (block_read b n l r left ((o, by_bodies b) ∷ right ++ token z ∷ ns) first kl kr (stmts_read (b + 1) n 0 left first one)
      (block_read b n o z right ns second ko kz (stmts_read (b + 1) n 0 right second two)
      (makes (par_made w.line) refl (one_built b n (c + 1) ns (stmt.Par w.line first second) ss after s so vs (stmts_read b n (c + 1) ns ss others) end))))
  stmts_read _ _ _ _ _ (g.call b n c w t a z q e vs ds ns es xs ss kw kt ka good kz dests kq ke others) = λ after s so us end.
      goes (call_moves b n c w kw) (then_name by_name kt (goes (before_values_moves a ka)
      (values_read x z kz (ds ++ (token q ∷ token e ∷ ns)) after (mark kinds.Semicolon ∷ make (call_made w.line) ∷ statements b n (c + 1) ∷ s) s (of_name t.index ∷ of_stmts so ∷ us) (of_stmts (so ++ stmt.Call w.line t.index es xs ∷ ss) ∷ us) vs es good
      (names_read x call_dests q kq (token e ∷ ns) after (mark kinds.Semicolon ∷ make (call_made w.line) ∷ statements b n (c + 1) ∷ s) s (of_values es ∷ of_name t.index ∷ of_stmts so ∷ us) (of_stmts (so ++ stmt.Call w.line t.index es xs ∷ ss) ∷ us) 0 ds xs [] dests
      (then_mark ke refl
      (makes (call_made w.line) refl (one_built b n (c + 1) ns (stmt.Call w.line t.index es xs) ss after s so us (stmts_read b n (c + 1) ns ss others) end)))))))

  -- ---- functions

  abbrev AtEnd : List Token → Type 0
  AtEnd ts = (first_of ts).kind ≡ kinds.End

  -- one function, and those behind it
  func_read : (c : ℕ) (w t a z q l r : Token) (vs ds body ns : List Marked) (xs ys : List ℕ) (ss : List Stmt) {after : List Token} {s s2 : List Symbol} {us v2 : List Item} (so : List Func)
      → w.kind ≡ kinds.Func → t.kind ≡ kinds.Name → a.kind ≡ kinds.LeftParen → IsNames header_values 0 vs xs → z.kind ≡ kinds.Semicolon → IsNames header_dests (length xs) ds ys → q.kind ≡ kinds.RightParen
      → l.kind ≡ kinds.LeftBrace → IsStmts 1 (length xs + length ys) 0 body ss → r.kind ≡ kinds.RightBrace
      → Follows x ns after (functions (c + 1) ∷ s) (of_funcs (so ++ function w t xs ys ss ∷ []) ∷ us) s2 v2
      → Follows x ((w, by_funcs c) ∷ (t, by_name t) ∷ token a ∷ vs ++ (token z ∷ ds ++ (token q ∷ (l, by_bodies 0) ∷ body ++ token r ∷ ns))) after (functions c ∷ s) (of_funcs so ∷ us) s2 v2
  func_read c w t a z q l r vs ds body ns xs ys ss {after} {s} {s2} {us} {v2} so kw kt ka good kz dests kq kl inside kr h =
      let made : List Symbol = make (func_made w.line) ∷ functions (c + 1) ∷ s in
      let one : List Item = of_name t.index ∷ of_funcs so ∷ us in
      let zero_more : length xs ≡ 0 + length xs = omega arith in
      let P : ℕ → Type 0 = λ m. Follows x (ds ++ (token q ∷ (l, by_bodies 0) ∷ body ++ token r ∷ ns)) after (names header_dests m ∷ made) (of_names [] ∷ of_names xs ∷ one) s2 v2 in
      goes (func_moves c w kw) (then_name by_name kt (goes (before_names_moves a ka)
      (names_read x header_values z kz (ds ++ (token q ∷ (l, by_bodies 0) ∷ body ++ token r ∷ ns)) after made s2 one v2 0 vs xs [] good
      (subst P zero_more (names_read x header_dests q kq ((l, by_bodies 0) ∷ body ++ token r ∷ ns) after made s2 (of_names xs ∷ one) v2 (length xs) ds ys [] dests
      (block_read 0 (length xs + length ys) l r body ns ss kl kr (stmts_read 1 (length xs + length ys) 0 body ss inside)
      (makes (func_made w.line) refl h)))))))

  funcs_read : (c : ℕ) (ms : List Marked) (fs : List Func) → IsFuncs c ms fs → (k : ℕ) → c ≡ suc k → (after : List Token) (s : List Symbol) (so : List Func) (vs : List Item) → AtEnd after
      → Follows x ms after (functions c ∷ s) (of_funcs so ∷ vs) s (of_funcs (so ++ fs) ∷ vs)
  funcs_read _ _ _ (g.none c) k is after s so vs end =
      let P : List Func → Type 0 = λ all. Follows x [] after (functions c ∷ s) (of_funcs so ∷ vs) s (of_funcs all ∷ vs) in
      let Q : ℕ → Type 0 = λ m. Follows x [] after (functions m ∷ s) (of_funcs so ∷ vs) s (of_funcs so ∷ vs) in
      subst P (sym (append-nil so)) (subst Q (sym is) (pass_then built (functions_end k (first_of after) end) refl nothing))
  funcs_read _ _ _ (g.func c w t a z q l r vs ds body ns xs ys ss fs kw kt ka good kz dests kq kl inside kr others) k is after s so us end =
      let made = function w t xs ys ss in
      let P : List Func → Type 0 = λ all. Follows x ns after (functions (c + 1) ∷ s) (of_funcs (so ++ made ∷ []) ∷ us) s (of_funcs all ∷ us) in
      func_read c w t a z q l r vs ds body ns xs ys ss so kw kt ka good kz dests kq kl inside kr
      (subst P (append_assoc so (made ∷ []) fs) (funcs_read (c + 1) ns fs others c (omega arith) after s (so ++ made ∷ []) us end))

  -- the functions of a text
  text_funcs : (ms : List Marked) (f : Func) (fs : List Func) → IsFuncs 0 ms (f ∷ fs) → (after : List Token) (s : List Symbol) → AtEnd after → Follows x ms after (functions 0 ∷ s) (of_funcs [] ∷ []) s (of_funcs (f ∷ fs) ∷ [])
  text_funcs _ _ _ (g.func _ w t a z q l r vs ds body ns xs ys ss fs kw kt ka good kz dests kq kl inside kr others) after s end =
      func_read 0 w t a z q l r vs ds body ns xs ys ss [] kw kt ka good kz dests kq kl inside kr (funcs_read 1 ns fs others 0 refl after s (function w t xs ys ss ∷ []) [] end)

  -- What is a text is read as its functions, up to the first token that exceeds a limit.
  pub text_follows : (ms : List Marked) (fs : List Func) → IsText ms fs → Follows x ms [] start begun [] (of_funcs fs ∷ [])
  text_follows _ _ (g.text ms f fs e good ke) = compose ms (token e ∷ []) (mark kinds.End ∷ []) (of_funcs (f ∷ fs) ∷ []) (text_funcs ms f fs good (e ∷ []) (mark kinds.End ∷ []) ke) (then_mark ke refl nothing)
