-- All statements of a body are spelled and read back as themselves.
use Rattle.std.proofs.Common.{◌≡◌, ℕ, ◌+◌, List, [], ◌∷◌, ◌++◌, append_assoc, length, refl, sym, ap, subst, ◌∙◌}
use Rattle.psac_syntax.specs.declared.program.Stmt.{Stmt}
use Rattle.psac_syntax.specs.declared.program.Stmt.TheVariants as stmt
use Rattle.psac_syntax.specs.declared.program.Program.{Program}
use Rattle.psac_tokens.specs.declared.token.Kind.TheVariants as k
use Rattle.psac_tokens.specs.declared.token.Token.{Token}
use Rattle.psac_grammar.specs.Marked.{Mark, fine, Marked, token, AllFine, by_name, by_names, by_statements, by_bodies, below, max_names}
use Rattle.psac_grammar.specs.Grammar.{top, call_dests, IsStmts}
use Rattle.psac_spelling.proofs.Pieces.{name, block}
use Rattle.psac_spelling.proofs.Replays.{carried}
use Rattle.psac_spelling.proofs.Tokens.{cargo, cargo-append, AllGood, good_parts, fine_parts, length_fine}
use Rattle.psac_spelling.proofs.Prints.{carries_none, none_before}
use Rattle.psac_spelling.proofs.Lists.{carries_name, names_part, values_part, expr_part, items_part}
use Rattle.psac_spelling.proofs.Statements.{Stmts, no_stmts, one_more, body_of, let_one, write_one, new_one, read_one, par_one, if_one}
use Rattle.psac_spelling.proofs.Calls.{call_one}

-- a list, and a token that carries nothing behind it
pub then_none : (ms : List Marked) (t : Token) (m : Mark) (ns : List Marked) → carried t ≡ [] → cargo (ms ++ ((t, m) ∷ ns)) ≡ cargo ms ++ cargo ns
then_none ms t m ns none = cargo-append ms ((t, m) ∷ ns) ∙ ap (λ z. cargo ms ++ z) (none_before t m ns none)

pub name_before : (t : Token) (m : Mark) (ms : List Marked) → t.kind ≡ k.Name → cargo ((t, m) ∷ ms) ≡ name t.index ∷ cargo ms
name_before t m ms is = ap (λ z. z ++ cargo ms) (carries_name t is)

block_before : (t : Token) (m : Mark) (ms : List Marked) → t.kind ≡ k.Read → cargo ((t, m) ∷ ms) ≡ block t.index ∷ cargo ms
block_before t m ms is = ap (λ z. z ++ cargo ms) (carries_block t is)
  where
    carries_block : (t : Token) → t.kind ≡ k.Read → carried t ≡ block t.index ∷ []
    carries_block t is = rw is refl

module _ (p : Program) where
  pub stmts : (b n c : ℕ) (ms : List Marked) (ss : List Stmt) → IsStmts b n c ms ss → AllFine ms → AllGood p (cargo ms) → Stmts p b n c ss (cargo ms)
  stmts _ _ _ _ _ (IsStmts.none b n c) ok good = no_stmts p b n c
  stmts _ _ _ _ _ (IsStmts.bind b n c d w t a s ms ns e ss hw ht ha x hs more) ok good =
      let is : cargo ((w, by_statements c) ∷ (t, by_names n t) ∷ token a ∷ ms ++ token s ∷ ns) ≡ (name t.index ∷ cargo ms) ++ cargo ns =
      none_before w (by_statements c) ((t, by_names n t) ∷ token a ∷ ms ++ token s ∷ ns) (carries_none w k.Let hw tt) ∙ name_before t (by_names n t) (token a ∷ ms ++ token s ∷ ns) ht
      ∙ ap (λ z. name t.index ∷ z) (none_before a fine (ms ++ token s ∷ ns) (carries_none a k.Assign ha tt) ∙ then_none ms s fine ns (carries_none s k.Semicolon hs tt)) in
      let goods = good_parts p (name t.index ∷ cargo ms) (cargo ns) (subst (AllGood p) is good) in
      let parts = fine_parts ms (token s ∷ ns) ok.1.1.1 in
      subst (Stmts p b n c (stmt.Let w.line t.index e ∷ ss)) (sym is)
      (one_more p b n (n + 1) c (stmt.Let w.line t.index e) ss (name t.index ∷ cargo ms) (cargo ns)
      (let_one p b n c ok.0 d w.line t.index e (cargo ms) (length_fine (below n max_names 8) t ok.1.0).1 goods.0.0 (expr_part p top d ms e x parts.0 goods.0.1))
      (stmts b (n + 1) (c + 1) ns ss more parts.1.1 goods.1))
  stmts _ _ _ _ _ (IsStmts.make b n c w t s ns ss hw ht hs more) ok good =
      let is : cargo ((w, by_statements c) ∷ (t, by_names n t) ∷ token s ∷ ns) ≡ (name t.index ∷ []) ++ cargo ns =
      none_before w (by_statements c) ((t, by_names n t) ∷ token s ∷ ns) (carries_none w k.New hw tt) ∙ name_before t (by_names n t) (token s ∷ ns) ht ∙ ap (λ z. name t.index ∷ z) (none_before s fine ns (carries_none s k.Semicolon hs tt)) in
      let goods = good_parts p (name t.index ∷ []) (cargo ns) (subst (AllGood p) is good) in
      subst (Stmts p b n c (stmt.New w.line t.index ∷ ss)) (sym is)
      (one_more p b n (n + 1) c (stmt.New w.line t.index) ss (name t.index ∷ []) (cargo ns) (new_one p b n c ok.0 w.line t.index (length_fine (below n max_names 8) t ok.1.0).1 goods.0.0) (stmts b (n + 1) (c + 1) ns ss more ok.1.1.1 goods.1))
  stmts _ _ _ _ _ (IsStmts.write b n c d w t a s ms ns e ss hw ht ha x hs more) ok good =
      let is : cargo ((w, by_statements c) ∷ (t, by_name t) ∷ token a ∷ ms ++ token s ∷ ns) ≡ (name t.index ∷ cargo ms) ++ cargo ns =
      none_before w (by_statements c) ((t, by_name t) ∷ token a ∷ ms ++ token s ∷ ns) (carries_none w k.Write hw tt) ∙ name_before t (by_name t) (token a ∷ ms ++ token s ∷ ns) ht
      ∙ ap (λ z. name t.index ∷ z) (none_before a fine (ms ++ token s ∷ ns) (carries_none a k.Assign ha tt) ∙ then_none ms s fine ns (carries_none s k.Semicolon hs tt)) in
      let goods = good_parts p (name t.index ∷ cargo ms) (cargo ns) (subst (AllGood p) is good) in
      let parts = fine_parts ms (token s ∷ ns) ok.1.1.1 in
      subst (Stmts p b n c (stmt.Write w.line t.index e ∷ ss)) (sym is)
      (one_more p b n n c (stmt.Write w.line t.index e) ss (name t.index ∷ cargo ms) (cargo ns) (write_one p b n c ok.0 d w.line t.index e (cargo ms) goods.0.0 (expr_part p top d ms e x parts.0 goods.0.1))
      (stmts b n (c + 1) ns ss more parts.1.1 goods.1))
  stmts _ _ _ _ _ (IsStmts.read b n c w l r ms body ns items inside ss hw x hl y hr more) ok good =
      let is : cargo ((w, by_statements c) ∷ ms ++ ((l, by_bodies b) ∷ body ++ token r ∷ ns)) ≡ (block w.index ∷ (cargo ms ++ cargo body)) ++ cargo ns =
      block_before w (by_statements c) (ms ++ ((l, by_bodies b) ∷ body ++ token r ∷ ns)) hw
      ∙ ap (λ z. block w.index ∷ z) (then_none ms l (by_bodies b) (body ++ token r ∷ ns) (carries_none l k.LeftBrace hl tt) ∙ ap (λ z. cargo ms ++ z) (then_none body r fine ns (carries_none r k.RightBrace hr tt)) ∙ sym (append_assoc (cargo ms) (cargo body) (cargo ns))) in
      let goods = good_parts p (block w.index ∷ (cargo ms ++ cargo body)) (cargo ns) (subst (AllGood p) is good) in
      let inner = good_parts p (cargo ms) (cargo body) goods.0.1 in
      let parts = fine_parts ms ((l, by_bodies b) ∷ body ++ token r ∷ ns) ok.1 in
      let later = fine_parts body (token r ∷ ns) parts.1.1 in
      subst (Stmts p b n c (stmt.Read w.line w.index items inside ∷ ss)) (sym is)
      (one_more p b n n c (stmt.Read w.line w.index items inside) ss (block w.index ∷ (cargo ms ++ cargo body)) (cargo ns)
      (read_one p b n c ok.0 parts.1.0 w.line w.index items inside (cargo ms) (cargo body) (items_part p n ms items x parts.0 inner.0) (body_of p (b + 1) (n + length items) inside (cargo body) (stmts (b + 1) (n + length items) 0 body inside y later.0 inner.1)))
      (stmts b n (c + 1) ns ss more later.1.1 goods.1))
  stmts _ _ _ _ _ (IsStmts.choose b n c d w l r x o q ms one two ns e first second ss hw y hl u hr hx ho v hq more) ok good =
      let is : cargo ((w, by_statements c) ∷ ms ++ ((l, by_bodies b) ∷ one ++ (token r ∷ token x ∷ (o, by_bodies b) ∷ two ++ token q ∷ ns))) ≡ (cargo ms ++ (cargo one ++ cargo two)) ++ cargo ns =
      none_before w (by_statements c) (ms ++ ((l, by_bodies b) ∷ one ++ (token r ∷ token x ∷ (o, by_bodies b) ∷ two ++ token q ∷ ns))) (carries_none w k.If hw tt)
      ∙ then_none ms l (by_bodies b) (one ++ (token r ∷ token x ∷ (o, by_bodies b) ∷ two ++ token q ∷ ns)) (carries_none l k.LeftBrace hl tt)
      ∙ ap (λ z. cargo ms ++ z) (then_none one r fine (token x ∷ (o, by_bodies b) ∷ two ++ token q ∷ ns) (carries_none r k.RightBrace hr tt)
      ∙ ap (λ z. cargo one ++ z) (none_before x fine ((o, by_bodies b) ∷ two ++ token q ∷ ns) (carries_none x k.Else hx tt) ∙ none_before o (by_bodies b) (two ++ token q ∷ ns) (carries_none o k.LeftBrace ho tt) ∙ then_none two q fine ns (carries_none q k.RightBrace hq tt))
      ∙ sym (append_assoc (cargo one) (cargo two) (cargo ns))) ∙ sym (append_assoc (cargo ms) (cargo one ++ cargo two) (cargo ns)) in
      let goods = good_parts p (cargo ms ++ (cargo one ++ cargo two)) (cargo ns) (subst (AllGood p) is good) in
      let inner = good_parts p (cargo ms) (cargo one ++ cargo two) goods.0 in
      let sides = good_parts p (cargo one) (cargo two) inner.1 in
      let parts = fine_parts ms ((l, by_bodies b) ∷ one ++ (token r ∷ token x ∷ (o, by_bodies b) ∷ two ++ token q ∷ ns)) ok.1 in
      let later = fine_parts one (token r ∷ token x ∷ (o, by_bodies b) ∷ two ++ token q ∷ ns) parts.1.1 in
      let last = fine_parts two (token q ∷ ns) later.1.1.1.1 in
      subst (Stmts p b n c (stmt.If w.line e first second ∷ ss)) (sym is)
      (one_more p b n n c (stmt.If w.line e first second) ss (cargo ms ++ (cargo one ++ cargo two)) (cargo ns)
      (if_one p b n c ok.0 parts.1.0 d w.line e first second (cargo ms) (cargo one) (cargo two) (expr_part p top d ms e y parts.0 inner.0)
      (body_of p (b + 1) n first (cargo one) (stmts (b + 1) n 0 one first u later.0 sides.0)) (body_of p (b + 1) n second (cargo two) (stmts (b + 1) n 0 two second v last.0 sides.1)))
      (stmts b n (c + 1) ns ss more last.1.1 goods.1))
  stmts _ _ _ _ _ (IsStmts.both b n c w l r o q one two ns first second ss hw hl u hr ho v hq more) ok good =
      let is : cargo ((w, by_statements c) ∷ (l, by_bodies b) ∷ one ++ (token r ∷ (o, by_bodies b) ∷ two ++ token q ∷ ns)) ≡ (cargo one ++ cargo two) ++ cargo ns =
      none_before w (by_statements c) ((l, by_bodies b) ∷ one ++ (token r ∷ (o, by_bodies b) ∷ two ++ token q ∷ ns)) (carries_none w k.Par hw tt)
      ∙ none_before l (by_bodies b) (one ++ (token r ∷ (o, by_bodies b) ∷ two ++ token q ∷ ns)) (carries_none l k.LeftBrace hl tt)
      ∙ then_none one r fine ((o, by_bodies b) ∷ two ++ token q ∷ ns) (carries_none r k.RightBrace hr tt)
      ∙ ap (λ z. cargo one ++ z) (none_before o (by_bodies b) (two ++ token q ∷ ns) (carries_none o k.LeftBrace ho tt) ∙ then_none two q fine ns (carries_none q k.RightBrace hq tt))
      ∙ sym (append_assoc (cargo one) (cargo two) (cargo ns)) in
      let goods = good_parts p (cargo one ++ cargo two) (cargo ns) (subst (AllGood p) is good) in
      let sides = good_parts p (cargo one) (cargo two) goods.0 in
      let later = fine_parts one (token r ∷ (o, by_bodies b) ∷ two ++ token q ∷ ns) ok.1.1 in
      let last = fine_parts two (token q ∷ ns) later.1.1.1 in
      subst (Stmts p b n c (stmt.Par w.line first second ∷ ss)) (sym is)
      (one_more p b n n c (stmt.Par w.line first second) ss (cargo one ++ cargo two) (cargo ns)
      (par_one p b n c ok.0 ok.1.0 w.line first second (cargo one) (cargo two)
      (body_of p (b + 1) n first (cargo one) (stmts (b + 1) n 0 one first u later.0 sides.0)) (body_of p (b + 1) n second (cargo two) (stmts (b + 1) n 0 two second v last.0 sides.1)))
      (stmts b n (c + 1) ns ss more last.1.1 goods.1))
  stmts _ _ _ _ _ (IsStmts.call b n c w t a s z e vs ds ns values dests ss hw ht ha y hs u hz he more) ok good =
      let is : cargo ((w, by_statements c) ∷ (t, by_name t) ∷ token a ∷ vs ++ (token s ∷ ds ++ (token z ∷ token e ∷ ns))) ≡ (name t.index ∷ (cargo vs ++ cargo ds)) ++ cargo ns =
      none_before w (by_statements c) ((t, by_name t) ∷ token a ∷ vs ++ (token s ∷ ds ++ (token z ∷ token e ∷ ns))) (carries_none w k.Call hw tt) ∙ name_before t (by_name t) (token a ∷ vs ++ (token s ∷ ds ++ (token z ∷ token e ∷ ns))) ht
      ∙ ap (λ i. name t.index ∷ i) (none_before a fine (vs ++ (token s ∷ ds ++ (token z ∷ token e ∷ ns))) (carries_none a k.LeftParen ha tt) ∙ then_none vs s fine (ds ++ (token z ∷ token e ∷ ns)) (carries_none s k.Semicolon hs tt)
      ∙ ap (λ i. cargo vs ++ i) (then_none ds z fine (token e ∷ ns) (carries_none z k.RightParen hz tt) ∙ ap (λ i. cargo ds ++ i) (none_before e fine ns (carries_none e k.Semicolon he tt))) ∙ sym (append_assoc (cargo vs) (cargo ds) (cargo ns))) in
      let goods = good_parts p (name t.index ∷ (cargo vs ++ cargo ds)) (cargo ns) (subst (AllGood p) is good) in
      let sides = good_parts p (cargo vs) (cargo ds) goods.0.1 in
      let parts = fine_parts vs (token s ∷ ds ++ (token z ∷ token e ∷ ns)) ok.1.1.1 in
      let later = fine_parts ds (token z ∷ token e ∷ ns) parts.1.1 in
      subst (Stmts p b n c (stmt.Call w.line t.index values dests ∷ ss)) (sym is)
      (one_more p b n n c (stmt.Call w.line t.index values dests) ss (name t.index ∷ (cargo vs ++ cargo ds)) (cargo ns)
      (call_one p b n c ok.0 w.line t.index values dests (cargo vs) (cargo ds) goods.0.0 (values_part p vs values y parts.0 sides.0) (names_part p call_dests 0 ds dests u later.0 sides.1))
      (stmts b n (c + 1) ns ss more later.1.1.1 goods.1))
