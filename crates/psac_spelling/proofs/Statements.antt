-- Statements are spelled and read back as themselves, but for their lines.
use Rattle.std.proofs.Common.{◌≡◌, ℕ, ◌+◌, false, List, [], ◌∷◌, ◌++◌, append-nil, append_assoc, length, map, refl, sym, ap, subst, ◌∙◌}
use Rattle.std.specs.Prelude.{codes}
use Rattle.psac_syntax.specs.declared.program.Expr.{Expr}
use Rattle.psac_syntax.specs.declared.program.ReadItem.{ReadItem}
use Rattle.psac_syntax.specs.declared.program.Stmt.{Stmt}
use Rattle.psac_syntax.specs.declared.program.Stmt.TheVariants as stmt
use Rattle.psac_syntax.specs.declared.program.Program.{Program}
use Rattle.psac_tokens.specs.declared.token.Kind.{Kind}
use Rattle.psac_tokens.specs.declared.token.Kind.TheVariants as k
use Rattle.psac_tokens.specs.declared.token.Token.{Token}
use Rattle.psac_tokens.specs.Lex.{reserved, front}
use Rattle.psac_grammar.specs.Marked.{fine, Marked, token, by_statements, by_bodies, below, max_names}
use Rattle.psac_grammar.specs.Grammar.{IsExpr, top, IsItems, IsStmts}
use Rattle.psac_spelling.specs.Canonical.{expr_text, name_text, item_text, joined, all_lines, body_text, stmt_text, content_text}
use Rattle.psac_spelling.specs.Unlined.{unlined}
use Rattle.psac_spelling.proofs.Layers.{stmt_is, let_text, new_text, write_text, read_text, if_text, par_text}
use Rattle.psac_spelling.proofs.Unlined.{unlined_let, unlined_new, unlined_write, unlined_read, unlined_if, unlined_par}
use Rattle.psac_spelling.proofs.Pieces as pieces
use Rattle.psac_spelling.proofs.Pieces.{Piece, name, block, Bare, Fronts, Spelled, space, feed, piece}
use Rattle.psac_spelling.proofs.Words.{fixed, fronts_mark, fronts_at, word_fronts}
use Rattle.psac_spelling.proofs.Found.{IsName}
use Rattle.psac_spelling.proofs.Replays.{AreTokens}
use Rattle.psac_spelling.proofs.Tokens.{loads, loads-append, cut, head, no_more, fines, fines-append, length_is}
use Rattle.psac_spelling.proofs.Lists.{Part, name_spelled}

-- ---- margins

abbrev pub Spaces : List ℕ → Type 0
Spaces [] = Unit {0}
Spaces (c ∷ m) = (c ≡ 32) × Spaces m

pub margin_spelled : (p : Program) (m z : List ℕ) (rest : List Piece) → Spaces m → Spelled p z rest → Spelled p (m ++ z) rest
margin_spelled p [] z rest h s = s
margin_spelled p (c ∷ m) z rest h s = subst (λ d. Spelled p (d ∷ (m ++ z)) rest) (sym h.0) (space p (m ++ z) rest (margin_spelled p m z rest h.1 s))

pub wider : (m : List ℕ) → Spaces m → Spaces (m ++ codes "  ")
wider [] h = (refl, (refl, tt))
wider (c ∷ m) h = (h.0, wider m h.1)

-- ---- marks

module _ (p : Program) (z : List ℕ) (rest : List Piece) (s : Spelled p z rest) where
  pub left_brace : Spelled p (123 ∷ z) (pieces.plain k.LeftBrace tt ∷ rest)
  unfolding front
  left_brace = piece p (pieces.plain k.LeftBrace tt) z rest (fronts_mark p z k.LeftBrace tt 123 refl refl refl) s

  pub right_brace : Spelled p (125 ∷ z) (pieces.plain k.RightBrace tt ∷ rest)
  unfolding front
  right_brace = piece p (pieces.plain k.RightBrace tt) z rest (fronts_mark p z k.RightBrace tt 125 refl refl refl) s

  pub semicolon : Spelled p (59 ∷ z) (pieces.plain k.Semicolon tt ∷ rest)
  unfolding front
  semicolon = piece p (pieces.plain k.Semicolon tt) z rest (fronts_mark p z k.Semicolon tt 59 refl refl refl) s

  equals : Spelled p (32 ∷ 61 ∷ 32 ∷ z) (pieces.plain k.Assign tt ∷ rest)
  unfolding front
  equals = space p _ _ (piece p (pieces.plain k.Assign tt) (32 ∷ z) rest (fronts_at p (pieces.plain k.Assign tt) 61 [] (32 ∷ z) refl refl refl) (space p _ _ s))

-- ---- statements

-- statements of the grammar that are these but for their lines
pub record Again (b n c : ℕ) (ms : List Marked) (ss : List Stmt) : Type 0 where
  pub new : List Stmt
  pub good : IsStmts b n c ms new
  pub same : map unlined new ≡ map unlined ss

pub record Stmts (p : Program) (b n c : ℕ) (ss : List Stmt) (cs : List Piece) : Type 0 where
  pub qs : List Piece
  pub carries : loads qs ≡ cs
  pub spelled : (m z : List ℕ) (rest : List Piece) → Spaces m → Spelled p z rest → Spelled p (all_lines (map (stmt_text p) ss) m ++ z) (qs ++ rest)
  pub derives : (ts : List Token) → AreTokens qs ts → Again b n c (fines ts) ss

-- one more statement of the grammar
pub record Adds (b n m c : ℕ) (ts : List Token) (s : Stmt) : Type 0 where
  pub new : Stmt
  pub same : unlined new ≡ unlined s
  pub good : (back : List Marked) (ss : List Stmt) → IsStmts b m (c + 1) back ss → IsStmts b n c (fines ts ++ back) (new ∷ ss)

pub record One (p : Program) (b n m c : ℕ) (s : Stmt) (cs : List Piece) : Type 0 where
  pub qs : List Piece
  pub carries : loads qs ≡ cs
  pub spelled : (margin z : List ℕ) (rest : List Piece) → Spaces margin → Spelled p z rest → Spelled p (content_text p s margin ++ 10 ∷ z) (qs ++ rest)
  pub adds : (ts : List Token) → AreTokens qs ts → Adds b n m c ts s

pub no_stmts : (p : Program) (b n c : ℕ) → Stmts p b n c [] []
no_stmts p b n c = record {
  qs = [];
  carries = refl;
  spelled = λ m z rest h s. s;
  derives = λ ts h. rw (no_more ts h) (record { new = []; good = IsStmts.none b n c; same = refl });
}

lines_join : (m t y z : List ℕ) → ((m ++ t ++ codes "\n") ++ y) ++ z ≡ m ++ (t ++ 10 ∷ (y ++ z))
lines_join m t y z = simp append_assoc

pub one_more : (p : Program) (b n m c : ℕ) (s : Stmt) (ss : List Stmt) (cs es : List Piece) → One p b n m c s cs → Stmts p b m (c + 1) ss es → Stmts p b n c (s ∷ ss) (cs ++ es)
one_more p b n m c s ss cs es x y = record {
  qs = x.qs ++ y.qs;
  carries = loads-append x.qs y.qs ∙ ap (λ z. z ++ loads y.qs) x.carries ∙ ap (λ z. cs ++ z) y.carries;
  spelled = λ margin z rest h t. rw (stmt_is p s margin, lines_join margin (content_text p s margin) (all_lines (map (stmt_text p) ss) margin) z, append_assoc x.qs y.qs rest)
      (margin_spelled p margin _ _ h (x.spelled margin _ _ h (y.spelled margin z rest h t)));
  derives = λ ts h. derived ts h;
}
  where
    derived : (ts : List Token) → AreTokens (x.qs ++ y.qs) ts → Again b n c (fines ts) (s ∷ ss)
    derived ts h =
        let a = cut x.qs y.qs ts h in
        let one = x.adds a.front a.first in
        let more = y.derives a.back a.second in
        rw (a.split, fines-append a.front a.back)
        (record { new = one.new ∷ more.new; good = one.good (fines a.back) more.new more.good; same = ap (λ z. z ∷ map unlined more.new) one.same ∙ ap (λ z. unlined s ∷ z) more.same })

-- ---- a body in its braces

pub record BodyAgain (b n : ℕ) (ts : List Token) (ss : List Stmt) : Type 0 where
  pub l : Token
  pub inside : List Token
  pub r : Token
  pub split : ts ≡ l ∷ (inside ++ (r ∷ []))
  pub l_is : l.kind ≡ k.LeftBrace
  pub r_is : r.kind ≡ k.RightBrace
  pub again : Again b n 0 (fines inside) ss

pub record Body (p : Program) (b n : ℕ) (ss : List Stmt) (cs : List Piece) : Type 0 where
  pub qs : List Piece
  pub carries : loads qs ≡ cs
  pub spelled : (m z : List ℕ) (rest : List Piece) → Spaces m → Spelled p z rest → Spelled p (body_text (map (stmt_text p) ss) m ++ z) (qs ++ rest)
  pub derives : (ts : List Token) → AreTokens qs ts → BodyAgain b n ts ss

body_join : (y m z : List ℕ) → (codes "{\n" ++ y ++ m ++ codes "}") ++ z ≡ 123 ∷ 10 ∷ (y ++ (m ++ (125 ∷ z)))
body_join y m z = simp append_assoc

body_pieces : (a b : Piece) (xs rest : List Piece) → (a ∷ (xs ++ (b ∷ []))) ++ rest ≡ a ∷ (xs ++ (b ∷ rest))
body_pieces a b xs rest = simp append_assoc

pub body_of : (p : Program) (b n : ℕ) (ss : List Stmt) (cs : List Piece) → Stmts p b n 0 ss cs → Body p b n ss cs
body_of p b n ss cs x = record {
  qs = pieces.plain k.LeftBrace tt ∷ (x.qs ++ (pieces.plain k.RightBrace tt ∷ []));
  carries = loads-append x.qs (pieces.plain k.RightBrace tt ∷ []) ∙ append-nil (loads x.qs) ∙ x.carries;
  spelled = λ m z rest h s. rw (body_join (all_lines (map (stmt_text p) ss) (m ++ codes "  ")) m z, body_pieces (pieces.plain k.LeftBrace tt) (pieces.plain k.RightBrace tt) x.qs rest)
      (left_brace p _ _ (feed p _ _ (x.spelled (m ++ codes "  ") _ _ (wider m h) (margin_spelled p m _ _ h (right_brace p z rest s)))));
  derives = λ ts h. derived ts h;
}
  where
    derived : (ts : List Token) → AreTokens (pieces.plain k.LeftBrace tt ∷ (x.qs ++ (pieces.plain k.RightBrace tt ∷ []))) ts → BodyAgain b n ts ss
    derived ts h =
        let a = head (pieces.plain k.LeftBrace tt) (x.qs ++ (pieces.plain k.RightBrace tt ∷ [])) ts h in
        let c = cut x.qs (pieces.plain k.RightBrace tt ∷ []) a.more a.rest in
        let e = head (pieces.plain k.RightBrace tt) [] c.back c.second in
        record {
          l = a.one;
          inside = c.front;
          r = e.one;
          split = a.split ∙ ap (λ (z : List Token). a.one ∷ z) (c.split ∙ ap (λ (z : List Token). c.front ++ z) (e.split ∙ ap (λ (z : List Token). e.one ∷ z) (no_more e.more e.rest)));
          l_is = a.is.kind;
          r_is = e.is.kind;
          again = x.derives c.front c.first;
        }

-- ---- one statement

pub moved : {b n c : ℕ} {xs ys : List Marked} {ss : List Stmt} → xs ≡ ys → IsStmts b n c ys ss → IsStmts b n c xs ss
moved {b} {n} {c} {xs} {ys} {ss} e h = subst (λ r. IsStmts b n c r ss) (sym e) h

assigned_join : (w x e z : List ℕ) → (w ++ (x ++ codes " = " ++ e ++ codes ";")) ++ 10 ∷ z ≡ w ++ (x ++ (32 ∷ 61 ∷ 32 ∷ (e ++ (59 ∷ 10 ∷ z))))
assigned_join w x e z = simp append_assoc

assigned_pieces : (a b c e : Piece) (xs rest : List Piece) → (a ∷ b ∷ c ∷ (xs ++ (e ∷ []))) ++ rest ≡ a ∷ b ∷ c ∷ (xs ++ (e ∷ rest))
assigned_pieces a b c e xs rest = simp append_assoc

-- a word, a name, an expression and the end
record Assigns (d x : ℕ) (e : Expr) (first : Kind) (ts : List Token) : Type 0 where
  w : Token
  t : Token
  a : Token
  front : List Token
  s : Token
  split : ts ≡ w ∷ t ∷ a ∷ (front ++ (s ∷ []))
  w_is : w.kind ≡ first
  t_is : t.kind ≡ k.Name
  index : t.index ≡ x
  over : t.over ≡ false
  a_is : a.kind ≡ k.Assign
  expr : IsExpr top 0 d (fines front) e
  s_is : s.kind ≡ k.Semicolon

assigns : (d x : ℕ) (e : Expr) (first : Kind) (bare : Bare first) (xs : List Piece) → ((ts : List Token) → AreTokens xs ts → IsExpr top 0 d (fines ts) e) → (ts : List Token)
    → AreTokens (pieces.plain first bare ∷ name x ∷ pieces.plain k.Assign tt ∷ (xs ++ (pieces.plain k.Semicolon tt ∷ []))) ts → Assigns d x e first ts
assigns d x e first bare xs one ts h =
    let w = head (pieces.plain first bare) (name x ∷ pieces.plain k.Assign tt ∷ (xs ++ (pieces.plain k.Semicolon tt ∷ []))) ts h in
    let t = head (name x) (pieces.plain k.Assign tt ∷ (xs ++ (pieces.plain k.Semicolon tt ∷ []))) w.more w.rest in
    let a = head (pieces.plain k.Assign tt) (xs ++ (pieces.plain k.Semicolon tt ∷ [])) t.more t.rest in
    let f = cut xs (pieces.plain k.Semicolon tt ∷ []) a.more a.rest in
    let s = head (pieces.plain k.Semicolon tt) [] f.back f.second in
    record {
      w = w.one;
      t = t.one;
      a = a.one;
      front = f.front;
      s = s.one;
      split = w.split ∙ ap (λ (z : List Token). w.one ∷ z) (t.split ∙ ap (λ (z : List Token). t.one ∷ z) (a.split ∙ ap (λ (z : List Token). a.one ∷ z) (f.split ∙ ap (λ (z : List Token). f.front ++ z) (s.split ∙ ap (λ (z : List Token). s.one ∷ z) (no_more s.more s.rest)))));
      w_is = w.is.kind;
      t_is = t.is.kind;
      index = t.is.holds;
      over = t.is.fits;
      a_is = a.is.kind;
      expr = one f.front f.first;
      s_is = s.is.kind;
    }

assigned_fines : (w t a s : Token) (xs : List Token) (back : List Marked) → fines (w ∷ t ∷ a ∷ (xs ++ (s ∷ []))) ++ back ≡ token w ∷ token t ∷ token a ∷ (fines xs ++ (token s ∷ back))
assigned_fines w t a s xs back =
    ap (λ (z : List Marked). token w ∷ token t ∷ token a ∷ z) (ap (λ (z : List Marked). z ++ back) (fines-append xs (s ∷ [])) ∙ append_assoc (fines xs) (token s ∷ []) back)

module _ (p : Program) (b n c : ℕ) (low : by_statements c ≡ fine) where
  pub let_one : (d line x : ℕ) (e : Expr) (cs : List Piece) → below n max_names 8 ≡ fine → IsName (name_text p x) → Part p (expr_text p e) cs (λ ts. IsExpr top 0 d (fines ts) e) → One p b n (n + 1) c (stmt.Let line x e) (name x ∷ cs)
  unfolding reserved
  let_one d line x e cs few good y = record {
    qs = pieces.plain k.Let tt ∷ name x ∷ pieces.plain k.Assign tt ∷ (y.qs ++ (pieces.plain k.Semicolon tt ∷ []));
    carries = ap (λ z. name x ∷ z) (loads-append y.qs (pieces.plain k.Semicolon tt ∷ []) ∙ append-nil (loads y.qs) ∙ y.carries);
    spelled = λ margin z rest h s. rw (let_text p line x e margin, assigned_join (codes "let ") (name_text p x) (expr_text p e) z, assigned_pieces (pieces.plain k.Let tt) (name x) (pieces.plain k.Assign tt) (pieces.plain k.Semicolon tt) y.qs rest)
        (piece p (pieces.plain k.Let tt) _ _ (fixed p _ k.Let tt refl refl refl) (space p _ _ (name_spelled p x _ _ good refl (equals p _ _ (y.spelled _ _ refl (semicolon p _ _ (feed p z rest s)))))));
    adds = λ ts h. adds ts h;
  }
    where
      adds : (ts : List Token) → AreTokens (pieces.plain k.Let tt ∷ name x ∷ pieces.plain k.Assign tt ∷ (y.qs ++ (pieces.plain k.Semicolon tt ∷ []))) ts → Adds b n (n + 1) c ts (stmt.Let line x e)
      adds ts h =
          let g = assigns d x e k.Let tt y.qs y.derives ts h in
          record {
            new = stmt.Let g.w.line g.t.index e;
            same = unlined_let g.w.line g.t.index e ∙ ap (λ i. stmt.Let 0 i e) g.index ∙ sym (unlined_let line x e);
            good = λ back ss more. moved (ap (λ (z : List Token). fines z ++ back) g.split ∙ assigned_fines g.w g.t g.a g.s g.front back)
                (rw (length_is (below n max_names 8) g.t g.over few) at (rw low at (IsStmts.bind b n c d g.w g.t g.a g.s (fines g.front) back e ss g.w_is g.t_is g.a_is g.expr g.s_is more)));
          }

  pub write_one : (d line x : ℕ) (e : Expr) (cs : List Piece) → IsName (name_text p x) → Part p (expr_text p e) cs (λ ts. IsExpr top 0 d (fines ts) e) → One p b n n c (stmt.Write line x e) (name x ∷ cs)
  unfolding reserved
  write_one d line x e cs good y = record {
    qs = pieces.plain k.Write tt ∷ name x ∷ pieces.plain k.Assign tt ∷ (y.qs ++ (pieces.plain k.Semicolon tt ∷ []));
    carries = ap (λ z. name x ∷ z) (loads-append y.qs (pieces.plain k.Semicolon tt ∷ []) ∙ append-nil (loads y.qs) ∙ y.carries);
    spelled = λ margin z rest h s. rw (write_text p line x e margin, assigned_join (codes "write ") (name_text p x) (expr_text p e) z, assigned_pieces (pieces.plain k.Write tt) (name x) (pieces.plain k.Assign tt) (pieces.plain k.Semicolon tt) y.qs rest)
        (piece p (pieces.plain k.Write tt) _ _ (fixed p _ k.Write tt refl refl refl) (space p _ _ (name_spelled p x _ _ good refl (equals p _ _ (y.spelled _ _ refl (semicolon p _ _ (feed p z rest s)))))));
    adds = λ ts h. adds ts h;
  }
    where
      adds : (ts : List Token) → AreTokens (pieces.plain k.Write tt ∷ name x ∷ pieces.plain k.Assign tt ∷ (y.qs ++ (pieces.plain k.Semicolon tt ∷ []))) ts → Adds b n n c ts (stmt.Write line x e)
      adds ts h =
          let g = assigns d x e k.Write tt y.qs y.derives ts h in
          record {
            new = stmt.Write g.w.line g.t.index e;
            same = unlined_write g.w.line g.t.index e ∙ ap (λ i. stmt.Write 0 i e) g.index ∙ sym (unlined_write line x e);
            good = λ back ss more. moved (ap (λ (z : List Token). fines z ++ back) g.split ∙ assigned_fines g.w g.t g.a g.s g.front back)
                (rw (length_is fine g.t g.over refl) at (rw low at (IsStmts.write b n c d g.w g.t g.a g.s (fines g.front) back e ss g.w_is g.t_is g.a_is g.expr g.s_is more)));
          }

  new_join : (x z : List ℕ) → (codes "new " ++ x ++ codes ";") ++ 10 ∷ z ≡ codes "new " ++ (x ++ (59 ∷ 10 ∷ z))
  new_join x z = simp append_assoc

  pub new_one : (line x : ℕ) → below n max_names 8 ≡ fine → IsName (name_text p x) → One p b n (n + 1) c (stmt.New line x) (name x ∷ [])
  unfolding reserved
  new_one line x few good = record {
    qs = pieces.plain k.New tt ∷ name x ∷ pieces.plain k.Semicolon tt ∷ [];
    carries = refl;
    spelled = λ margin z rest h s. rw (new_text p line x margin, new_join (name_text p x) z)
        (piece p (pieces.plain k.New tt) _ _ (fixed p _ k.New tt refl refl refl) (space p _ _ (name_spelled p x _ _ good refl (semicolon p _ _ (feed p z rest s)))));
    adds = λ ts h. adds ts h;
  }
    where
      adds : (ts : List Token) → AreTokens (pieces.plain k.New tt ∷ name x ∷ pieces.plain k.Semicolon tt ∷ []) ts → Adds b n (n + 1) c ts (stmt.New line x)
      adds ts h =
          let w = head (pieces.plain k.New tt) (name x ∷ pieces.plain k.Semicolon tt ∷ []) ts h in
          let t = head (name x) (pieces.plain k.Semicolon tt ∷ []) w.more w.rest in
          let s = head (pieces.plain k.Semicolon tt) [] t.more t.rest in
          let split : ts ≡ w.one ∷ t.one ∷ s.one ∷ [] = w.split ∙ ap (λ (z : List Token). w.one ∷ z) (t.split ∙ ap (λ (z : List Token). t.one ∷ z) (s.split ∙ ap (λ (z : List Token). s.one ∷ z) (no_more s.more s.rest))) in
          record {
            new = stmt.New w.one.line t.one.index;
            same = unlined_new w.one.line t.one.index ∙ ap (λ i. stmt.New 0 i) t.is.holds ∙ sym (unlined_new line x);
            good = λ back ss more. moved (ap (λ (z : List Token). fines z ++ back) split)
                (rw (length_is (below n max_names 8) t.one t.is.fits few) at (rw low at (IsStmts.make b n c w.one t.one s.one back ss w.is.kind t.is.kind s.is.kind more)));
          }

-- ---- statements with bodies

read_join : (i y z : List ℕ) → (codes "read " ++ i ++ codes " " ++ y) ++ 10 ∷ z ≡ codes "read " ++ (i ++ (32 ∷ (y ++ (10 ∷ z))))
read_join i y z = simp append_assoc

if_join : (e x y z : List ℕ) → (codes "if " ++ e ++ codes " " ++ x ++ codes " else " ++ y) ++ 10 ∷ z ≡ codes "if " ++ (e ++ (32 ∷ (x ++ (codes " else " ++ (y ++ (10 ∷ z))))))
if_join e x y z = simp append_assoc

par_join : (x y z : List ℕ) → (codes "par " ++ x ++ codes " " ++ y) ++ 10 ∷ z ≡ codes "par " ++ (x ++ (32 ∷ (y ++ (10 ∷ z))))
par_join x y z = simp append_assoc

two_lists : (a : Piece) (xs ys rest : List Piece) → (a ∷ (xs ++ ys)) ++ rest ≡ a ∷ (xs ++ (ys ++ rest))
two_lists a xs ys rest = simp append_assoc

if_pieces : (a b : Piece) (xs ys zs rest : List Piece) → (a ∷ (xs ++ (ys ++ (b ∷ zs)))) ++ rest ≡ a ∷ (xs ++ (ys ++ (b ∷ (zs ++ rest))))
if_pieces a b xs ys zs rest = simp append_assoc

pub body_fines : (l r : Token) (xs : List Token) (back : List Marked) → fines (l ∷ (xs ++ (r ∷ []))) ++ back ≡ token l ∷ (fines xs ++ (token r ∷ back))
body_fines l r xs back = ap (λ (z : List Marked). token l ∷ z) (ap (λ (z : List Marked). z ++ back) (fines-append xs (r ∷ [])) ∙ append_assoc (fines xs) (token r ∷ []) back)

-- a list, and a body behind it
front_fines : (xs ys : List Token) (back : List Marked) → fines (xs ++ ys) ++ back ≡ fines xs ++ (fines ys ++ back)
front_fines xs ys back = ap (λ (z : List Marked). z ++ back) (fines-append xs ys) ∙ append_assoc (fines xs) (fines ys) back

module _ (p : Program) (b n c : ℕ) (low : by_statements c ≡ fine) (deep : by_bodies b ≡ fine) where
  pub read_one : (line count : ℕ) (items : List ReadItem) (inside : List Stmt) (cs es : List Piece) → Part p (joined (map (item_text p) items)) cs (λ ts. IsItems n (fines ts) items) → Body p (b + 1) (n + length items) inside es
      → One p b n n c (stmt.Read line count items inside) (block count ∷ (cs ++ es))
  unfolding reserved
  read_one line count items inside cs es y x = record {
    qs = block count ∷ (y.qs ++ x.qs);
    carries = ap (λ z. block count ∷ z) (loads-append y.qs x.qs ∙ ap (λ z. z ++ loads x.qs) y.carries ∙ ap (λ z. cs ++ z) x.carries);
    spelled = λ margin z rest h s. rw (read_text p line count items inside margin, read_join (joined (map (item_text p) items)) (body_text (map (stmt_text p) inside) margin) z, two_lists (block count) y.qs x.qs rest)
        (piece p (block count) _ _ (word_fronts p (block count) _ refl refl refl) (space p _ _ (y.spelled _ _ refl (space p _ _ (x.spelled margin _ _ h (feed p z rest s))))));
    adds = λ ts h. adds ts h;
  }
    where
      adds : (ts : List Token) → AreTokens (block count ∷ (y.qs ++ x.qs)) ts → Adds b n n c ts (stmt.Read line count items inside)
      adds ts h =
          let w = head (block count) (y.qs ++ x.qs) ts h in
          let f = cut y.qs x.qs w.more w.rest in
          let g = x.derives f.back f.second in
          let split : ts ≡ w.one ∷ (f.front ++ (g.l ∷ (g.inside ++ (g.r ∷ [])))) = w.split ∙ ap (λ (z : List Token). w.one ∷ z) (f.split ∙ ap (λ (z : List Token). f.front ++ z) g.split) in
          record {
            new = stmt.Read w.one.line w.one.index items g.again.new;
            same = unlined_read w.one.line w.one.index items g.again.new ∙ ap (λ i. stmt.Read 0 i items (map unlined g.again.new)) w.is.holds ∙ ap (λ z. stmt.Read 0 count items z) g.again.same ∙ sym (unlined_read line count items inside);
            good = λ back ss more. moved (ap (λ (z : List Token). fines z ++ back) split ∙ ap (λ (z : List Marked). token w.one ∷ z) (front_fines f.front (g.l ∷ (g.inside ++ (g.r ∷ []))) back ∙ ap (λ (z : List Marked). fines f.front ++ z) (body_fines g.l g.r g.inside back)))
                (rw deep at (rw low at (IsStmts.read b n c w.one g.l g.r (fines f.front) (fines g.inside) back items g.again.new ss w.is.kind (y.derives f.front f.first) g.l_is g.again.good g.r_is more)));
          }

  pub par_one : (line : ℕ) (left right : List Stmt) (cs es : List Piece) → Body p (b + 1) n left cs → Body p (b + 1) n right es → One p b n n c (stmt.Par line left right) (cs ++ es)
  unfolding reserved
  par_one line left right cs es x y = record {
    qs = pieces.plain k.Par tt ∷ (x.qs ++ y.qs);
    carries = loads-append x.qs y.qs ∙ ap (λ z. z ++ loads y.qs) x.carries ∙ ap (λ z. cs ++ z) y.carries;
    spelled = λ margin z rest h s. rw (par_text p line left right margin, par_join (body_text (map (stmt_text p) left) margin) (body_text (map (stmt_text p) right) margin) z, two_lists (pieces.plain k.Par tt) x.qs y.qs rest)
        (piece p (pieces.plain k.Par tt) _ _ (fixed p _ k.Par tt refl refl refl) (space p _ _ (x.spelled margin _ _ h (space p _ _ (y.spelled margin _ _ h (feed p z rest s))))));
    adds = λ ts h. adds ts h;
  }
    where
      adds : (ts : List Token) → AreTokens (pieces.plain k.Par tt ∷ (x.qs ++ y.qs)) ts → Adds b n n c ts (stmt.Par line left right)
      adds ts h =
          let w = head (pieces.plain k.Par tt) (x.qs ++ y.qs) ts h in
          let f = cut x.qs y.qs w.more w.rest in
          let u = x.derives f.front f.first in
          let v = y.derives f.back f.second in
          let split : ts ≡ w.one ∷ ((u.l ∷ (u.inside ++ (u.r ∷ []))) ++ (v.l ∷ (v.inside ++ (v.r ∷ [])))) = w.split ∙ ap (λ (z : List Token). w.one ∷ z) (f.split ∙ ap (λ (z : List Token). z ++ f.back) u.split ∙ ap (λ (z : List Token). (u.l ∷ (u.inside ++ (u.r ∷ []))) ++ z) v.split) in
          record {
            new = stmt.Par w.one.line u.again.new v.again.new;
            same = unlined_par w.one.line u.again.new v.again.new ∙ ap (λ z. stmt.Par 0 z (map unlined v.again.new)) u.again.same ∙ ap (λ z. stmt.Par 0 (map unlined left) z) v.again.same ∙ sym (unlined_par line left right);
            good = λ back ss more. moved (ap (λ (z : List Token). fines z ++ back) split ∙ ap (λ (z : List Marked). token w.one ∷ z)
                (front_fines (u.l ∷ (u.inside ++ (u.r ∷ []))) (v.l ∷ (v.inside ++ (v.r ∷ []))) back ∙ ap (λ (z : List Marked). fines (u.l ∷ (u.inside ++ (u.r ∷ []))) ++ z) (body_fines v.l v.r v.inside back) ∙ body_fines u.l u.r u.inside (token v.l ∷ (fines v.inside ++ (token v.r ∷ back)))))
                (rw deep at (rw low at (IsStmts.both b n c w.one u.l u.r v.l v.r (fines u.inside) (fines v.inside) back u.again.new v.again.new ss w.is.kind u.l_is u.again.good u.r_is v.l_is v.again.good v.r_is more)));
          }

  pub if_one : (d line : ℕ) (e : Expr) (first second : List Stmt) (ds cs es : List Piece) → Part p (expr_text p e) ds (λ ts. IsExpr top 0 d (fines ts) e) → Body p (b + 1) n first cs → Body p (b + 1) n second es
      → One p b n n c (stmt.If line e first second) (ds ++ (cs ++ es))
  unfolding reserved
  if_one d line e first second ds cs es q x y = record {
    qs = pieces.plain k.If tt ∷ (q.qs ++ (x.qs ++ (pieces.plain k.Else tt ∷ y.qs)));
    carries = loads-append q.qs (x.qs ++ (pieces.plain k.Else tt ∷ y.qs)) ∙ ap (λ z. loads q.qs ++ z) (loads-append x.qs (pieces.plain k.Else tt ∷ y.qs)) ∙ ap (λ z. z ++ (loads x.qs ++ loads y.qs)) q.carries ∙ ap (λ z. ds ++ (z ++ loads y.qs)) x.carries ∙ ap (λ z. ds ++ (cs ++ z)) y.carries;
    spelled = λ margin z rest h s. rw (if_text p line e first second margin, if_join (expr_text p e) (body_text (map (stmt_text p) first) margin) (body_text (map (stmt_text p) second) margin) z, if_pieces (pieces.plain k.If tt) (pieces.plain k.Else tt) q.qs x.qs y.qs rest)
        (piece p (pieces.plain k.If tt) _ _ (fixed p _ k.If tt refl refl refl) (space p _ _ (q.spelled _ _ refl (space p _ _ (x.spelled margin _ _ h (space p _ _ (piece p (pieces.plain k.Else tt) _ _ (fixed p _ k.Else tt refl refl refl) (space p _ _ (y.spelled margin _ _ h (feed p z rest s))))))))));
    adds = λ ts h. adds ts h;
  }
    where
      adds : (ts : List Token) → AreTokens (pieces.plain k.If tt ∷ (q.qs ++ (x.qs ++ (pieces.plain k.Else tt ∷ y.qs)))) ts → Adds b n n c ts (stmt.If line e first second)
      adds ts h =
          let w = head (pieces.plain k.If tt) (q.qs ++ (x.qs ++ (pieces.plain k.Else tt ∷ y.qs))) ts h in
          let f = cut q.qs (x.qs ++ (pieces.plain k.Else tt ∷ y.qs)) w.more w.rest in
          let g = cut x.qs (pieces.plain k.Else tt ∷ y.qs) f.back f.second in
          let o = head (pieces.plain k.Else tt) y.qs g.back g.second in
          let u = x.derives g.front g.first in
          let v = y.derives o.more o.rest in
          let one = u.l ∷ (u.inside ++ (u.r ∷ [])) in
          let two = v.l ∷ (v.inside ++ (v.r ∷ [])) in
          let split : ts ≡ w.one ∷ (f.front ++ (one ++ (o.one ∷ two))) =
          w.split ∙ ap (λ (z : List Token). w.one ∷ z) (f.split ∙ ap (λ (z : List Token). f.front ++ z) (g.split ∙ ap (λ (z : List Token). z ++ g.back) u.split ∙ ap (λ (z : List Token). one ++ z) (o.split ∙ ap (λ (z : List Token). o.one ∷ z) v.split))) in
          record {
            new = stmt.If w.one.line e u.again.new v.again.new;
            same = unlined_if w.one.line e u.again.new v.again.new ∙ ap (λ z. stmt.If 0 e z (map unlined v.again.new)) u.again.same ∙ ap (λ z. stmt.If 0 e (map unlined first) z) v.again.same ∙ sym (unlined_if line e first second);
            good = λ back ss more. moved (ap (λ (z : List Token). fines z ++ back) split ∙ ap (λ (z : List Marked). token w.one ∷ z)
                (front_fines f.front (one ++ (o.one ∷ two)) back ∙ ap (λ (z : List Marked). fines f.front ++ z) (front_fines one (o.one ∷ two) back ∙ ap (λ (z : List Marked). fines one ++ (token o.one ∷ z)) (body_fines v.l v.r v.inside back) ∙ body_fines u.l u.r u.inside (token o.one ∷ token v.l ∷ (fines v.inside ++ (token v.r ∷ back))))))
                (rw deep at (rw low at (IsStmts.choose b n c d w.one u.l u.r o.one v.l v.r (fines f.front) (fines u.inside) (fines v.inside) back e u.again.new v.again.new ss w.is.kind (q.derives f.front f.first) u.l_is u.again.good u.r_is o.is.kind v.l_is v.again.good v.r_is more)));
          }
