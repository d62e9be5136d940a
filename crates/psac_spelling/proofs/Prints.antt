-- An expression of the grammar is spelled and read back as itself.
use Rattle.std.proofs.Common.{◌≡◌, ℕ, ℤ, suc, zero, ◌+◌, ◌-◌, ◌<◌, ◌≤◌, max, Bool, true, false, List, [], ◌∷◌, ◌++◌, append-nil, append_assoc, refl, sym, ap, subst, ◌∙◌, arith, Some}
use Rattle.std.specs.Prelude.{codes}
use Rattle.psac_ops.specs.declared.op.Op.{Op}
use Rattle.psac_syntax.specs.declared.program.Expr.{Expr}
use Rattle.psac_syntax.specs.declared.program.Expr.TheVariants as expr
use Rattle.psac_syntax.specs.declared.program.Program.{Program}
use Rattle.psac_tokens.specs.declared.token.Kind.{Kind}
use Rattle.psac_tokens.specs.declared.token.Kind.TheVariants as k
use Rattle.psac_tokens.specs.declared.token.Token.{Token}
use Rattle.psac_tokens.specs.Lex.{reserved, front}
use Rattle.psac_grammar.specs.Marked.{Mark, fine, Marked, token, AllFine, by_parens, is_deep, ends_deep}
use Rattle.psac_grammar.specs.Grammar.{IsExpr, whole, rows, row_count, parenthesized, with_one, with_two, alone, chain, compare, constant, inner, row_word, start_of, operator_at, is_chain, top, apply_two}
use Rattle.psac_spelling.specs.Canonical.{expr_text}
use Rattle.psac_spelling.proofs.Layers.{nil_text, bool_text, int_text, text_text, name_is, rows_text, cols_text, row_count_text}
use Rattle.psac_spelling.proofs.Pieces as pieces
use Rattle.psac_spelling.proofs.Pieces.{Piece, number, name, text, Bare, kind_text, spell, Fronts, Spelled, space, feed, piece}
use Rattle.psac_spelling.proofs.Words.{Break, fixed, fronts_mark, word_fronts}
use Rattle.psac_spelling.proofs.Quotes.{text_fronts}
use Rattle.psac_spelling.proofs.Numbers.{number_fronts}
use Rattle.psac_spelling.proofs.Replays.{InInt, carried, carried_by, IsToken, AreTokens}
use Rattle.psac_spelling.proofs.Tokens.{load, loads, loads-append, cargo, cargo-append, cargo_deep, AllGood, good_parts, cut, head, no_more, fines, fines-append, fine_parts, not_deep, Some-Marked, deep_fine, size_is, parens_is, deep_is, shallow}
use Rattle.psac_spelling.proofs.Operators.{Infix, infix_of, infix_text, OneOf, one_of, TwoOf, two_of}

-- The expression has pieces that carry what its tokens did, spell its canonical text, and are an expression of the grammar.
pub record Prints (p : Program) (d : ℕ) (e : Expr) (cs : List Piece) : Type 0 where
  pub qs : List Piece
  pub carries : loads qs ≡ cs
  pub low : 1 ≤ d
  pub high : d ≤ 64
  pub spelled : (z : List ℕ) (rest : List Piece) → Break z → Spelled p z rest → Spelled p (expr_text p e ++ z) (qs ++ rest)
  pub derives : (parens : ℕ) (ts : List Token) → parens + d ≤ 64 → AreTokens qs ts → IsExpr 0 parens d (fines ts) e

-- ---- marks that nothing goes on with

module _ (p : Program) (z : List ℕ) (rest : List Piece) (s : Spelled p z rest) where
  pub left_paren : Spelled p (40 ∷ z) (pieces.plain k.LeftParen tt ∷ rest)
  unfolding front
  left_paren = piece p (pieces.plain k.LeftParen tt) z rest (fronts_mark p z k.LeftParen tt 40 refl refl refl) s

  pub right_paren : Spelled p (41 ∷ z) (pieces.plain k.RightParen tt ∷ rest)
  unfolding front
  right_paren = piece p (pieces.plain k.RightParen tt) z rest (fronts_mark p z k.RightParen tt 41 refl refl refl) s

  pub comma : Spelled p (44 ∷ z) (pieces.plain k.Comma tt ∷ rest)
  unfolding front
  comma = piece p (pieces.plain k.Comma tt) z rest (fronts_mark p z k.Comma tt 44 refl refl refl) s

-- ---- one token

leaf : (p : Program) (q : Piece) (e : Expr) → expr_text p e ≡ spell p q → ((z : List ℕ) → Break z → Fronts p q z) → ((t : Token) → IsToken q t → start_of t.kind t ≡ constant e) → Prints p 1 e (load q)
leaf p q e is fronts starts = record {
  qs = q ∷ [];
  carries = append-nil (load q);
  low = omega arith;
  high = omega arith;
  spelled = λ z rest at s. rw is (piece p q z rest (fronts z at) s);
  derives = λ parens ts low h. derived parens ts h;
}
  where
    derived : (parens : ℕ) (ts : List Token) → AreTokens (q ∷ []) ts → IsExpr 0 parens 1 (fines ts) e
    derived parens ts h =
        let x = head q [] ts h in
        let is : ts ≡ x.one ∷ [] = x.split ∙ ap (λ (ys : List Token). x.one ∷ ys) (no_more x.more x.rest) in
        rw is (rw (size_is x.one x.is.fits) at (whole parens x.one e (starts x.one x.is)))

same_constant : {a b : Expr} → constant a ≡ constant b → a ≡ b
same_constant h = cc

module _ (p : Program) where
  plain_leaf : (kind : Kind) (bare : Bare kind) (e : Expr) → expr_text p e ≡ kind_text kind → ((z : List ℕ) → Break z → Fronts p (pieces.plain kind bare) z) → ((t : Token) → start_of kind t ≡ constant e) → Prints p 1 e []
  plain_leaf kind bare e is fronts starts = leaf p (pieces.plain kind bare) e is fronts (λ t x. ap (λ r. start_of r t) x.kind ∙ starts t)

  int_leaf : (n : ℤ) → InInt n → Prints p 1 (expr.Int n) (number n ∷ [])
  int_leaf n h =
      leaf p (number n) (expr.Int n) (int_text p n) (λ z at. subst (λ m. Fronts p (number m) z) (sym h.is) (number_fronts p h.size z h.low at)) (λ t x. rw x.kind (ap (λ m. constant (expr.Int m)) x.holds))

  leaf_of : (t : Token) (e : Expr) (kind : Kind) → start_of kind t ≡ constant e → AllGood p (carried_by kind t) → Prints p 1 e (carried_by kind t)
  unfolding reserved
  leaf_of t e k.Int h good = subst (λ x. Prints p 1 x (number t.number ∷ [])) (same_constant h) (int_leaf t.number good.0)
  leaf_of t e k.Name h good =
      subst (λ x. Prints p 1 x (name t.index ∷ [])) (same_constant h)
      (leaf p (name t.index) (expr.Name t.index) (name_is p t.index) (λ z at. word_fronts p (name t.index) z good.0.0 good.0.1 at) (λ u x. rw x.kind (ap (λ m. constant (expr.Name m)) x.holds)))
  leaf_of t e k.Text h good =
      subst (λ x. Prints p 1 x (text t.index ∷ [])) (same_constant h)
      (leaf p (text t.index) (expr.Text t.index) (text_text p t.index) (λ z at. text_fronts p t.index z good.0.0 good.0.1) (λ u x. rw x.kind (ap (λ m. constant (expr.Text m)) x.holds)))
  leaf_of t e k.True h good = subst (λ x. Prints p 1 x []) (same_constant h) (plain_leaf k.True tt (expr.Bool true) (bool_text p true) (λ z at. fixed p z k.True tt refl refl at) (λ u. refl))
  leaf_of t e k.False h good = subst (λ x. Prints p 1 x []) (same_constant h) (plain_leaf k.False tt (expr.Bool false) (bool_text p false) (λ z at. fixed p z k.False tt refl refl at) (λ u. refl))
  leaf_of t e k.Nil h good = subst (λ x. Prints p 1 x []) (same_constant h) (plain_leaf k.Nil tt expr.Nil (nil_text p) (λ z at. fixed p z k.Nil tt refl refl at) (λ u. refl))
  leaf_of t e k.Cols h good = subst (λ x. Prints p 1 x []) (same_constant h) (plain_leaf k.Cols tt expr.Cols (cols_text p) (λ z at. fixed p z k.Cols tt refl refl at) (λ u. refl))
  leaf_of t e _ h good = absurd cc

  rows_derived : (parens : ℕ) (ts : List Token) → AreTokens (pieces.plain k.Rows tt ∷ []) ts → IsExpr 0 parens 1 (fines ts) expr.Rows
  rows_derived parens ts h =
      let x = head (pieces.plain k.Rows tt) [] ts h in
      let is : ts ≡ x.one ∷ [] = x.split ∙ ap (λ (ys : List Token). x.one ∷ ys) (no_more x.more x.rest) in
      rw is (rows parens x.one (rw x.is.kind refl))

  rows_leaf : Prints p 1 expr.Rows []
  unfolding reserved
  rows_leaf = record {
    qs = pieces.plain k.Rows tt ∷ [];
    carries = refl;
    low = omega arith;
    high = omega arith;
    spelled = λ z rest at s. rw (rows_text p) (piece p (pieces.plain k.Rows tt) z rest (fixed p z k.Rows tt refl refl at) s);
    derives = λ parens ts low h. rows_derived parens ts h;
  }

  count_derived : (parens : ℕ) (ts : List Token) → parens + 1 ≤ 64 → AreTokens (pieces.plain k.Rows tt ∷ pieces.plain k.LeftParen tt ∷ pieces.plain k.RightParen tt ∷ []) ts → IsExpr 0 parens 1 (fines ts) expr.RowCount
  count_derived parens ts low h =
      let x = head (pieces.plain k.Rows tt) (pieces.plain k.LeftParen tt ∷ pieces.plain k.RightParen tt ∷ []) ts h in
      let y = head (pieces.plain k.LeftParen tt) (pieces.plain k.RightParen tt ∷ []) x.more x.rest in
      let z = head (pieces.plain k.RightParen tt) [] y.more y.rest in
      let is : ts ≡ x.one ∷ y.one ∷ z.one ∷ [] =
      x.split ∙ ap (λ (ys : List Token). x.one ∷ ys) (y.split ∙ ap (λ (ys : List Token). y.one ∷ ys) (z.split ∙ ap (λ (ys : List Token). z.one ∷ ys) (no_more z.more z.rest))) in
      rw is (rw (parens_is parens (omega arith)) at (row_count parens x.one y.one z.one (rw x.is.kind refl) y.is.kind z.is.kind))

  count_leaf : Prints p 1 expr.RowCount []
  unfolding reserved
  count_leaf = record {
    qs = pieces.plain k.Rows tt ∷ pieces.plain k.LeftParen tt ∷ pieces.plain k.RightParen tt ∷ [];
    carries = refl;
    low = omega arith;
    high = omega arith;
    spelled = λ z rest at s. rw (row_count_text p) (piece p (pieces.plain k.Rows tt) (40 ∷ 41 ∷ z) _ (fixed p (40 ∷ 41 ∷ z) k.Rows tt refl refl refl) (left_paren p (41 ∷ z) _ (right_paren p z rest s)));
    derives = λ parens ts low h. count_derived parens ts low h;
  }

-- ---- operators

raised : (more n m p d : ℕ) (ms : List Marked) (e : Expr) → m ≡ more + n → IsExpr n p d ms e → IsExpr m p d ms e
raised zero n m p d ms e is x = let same : n ≡ m = omega arith in subst (λ r. IsExpr r p d ms e) same x
raised (suc more) n m p d ms e is x = raised more (suc n) m p d ms e (omega arith) (alone n p d ms e x)

pub loosest : {p d : ℕ} {ms : List Marked} {e : Expr} → IsExpr 0 p d ms e → IsExpr top p d ms e
loosest {p} {d} {ms} {e} x = raised 5 0 top p d ms e refl x

operated : (n p d g : ℕ) (t : Token) (o : Op) (ms ns : List Marked) (a b : Expr) → n < 6 → operator_at n t.kind ≡ Some o → IsExpr 0 p d ms a → IsExpr 0 p g ns b → max d g + 1 ≤ 64
    → IsExpr top p (max d g + 1) (ms ++ token t ∷ ns) (apply_two o a b)
unfolding operator_at
operated zero p d g t o ms ns a b low is x y shallow = absurd cc
operated (suc n) p d g t o ms ns a b low is x y shallow = raised (4 - n) (suc n) top p _ _ _ (omega arith) (rw (not_deep ns) at (rw (deep_is (max d g + 1) shallow) at (by (is_chain (suc n)) refl)))
  where
    by : (c : Bool) → is_chain (suc n) ≡ c → IsExpr (suc n) p (max d g + 1) (ms ++ token t ∷ ends_deep (is_deep (max d g + 1)) ns) (apply_two o a b)
    by true c = chain n p d g t o ms ns a b c (raised (suc n) 0 (suc n) p d ms a (omega arith) x) is (raised n 0 n p g ns b (omega arith) y)
    by false c = compare n p d g t o ms ns a b c (raised n 0 n p d ms a (omega arith) x) is (raised n 0 n p g ns b (omega arith) y)

between_spelled : (l n r z : List ℕ) → (codes "(" ++ l ++ codes " " ++ n ++ codes " " ++ r ++ codes ")") ++ z ≡ 40 ∷ (l ++ (32 ∷ (n ++ (32 ∷ (r ++ (41 ∷ z))))))
between_spelled l n r z = simp append_assoc

between_pieces : (a b c : Piece) (xs ys rest : List Piece) → (a ∷ (xs ++ (b ∷ (ys ++ (c ∷ []))))) ++ rest ≡ a ∷ (xs ++ (b ∷ (ys ++ (c ∷ rest))))
between_pieces a b c xs ys rest = simp append_assoc

between_loads : (kind : Kind) (bare : Bare kind) (xs ys : List Piece) → loads (pieces.plain k.LeftParen tt ∷ (xs ++ (pieces.plain kind bare ∷ (ys ++ (pieces.plain k.RightParen tt ∷ []))))) ≡ loads xs ++ loads ys
between_loads kind bare xs ys =
    loads-append xs (pieces.plain kind bare ∷ (ys ++ (pieces.plain k.RightParen tt ∷ []))) ∙ ap (λ z. loads xs ++ z) (loads-append ys (pieces.plain k.RightParen tt ∷ []) ∙ append-nil (loads ys))

between_fines : (a b c : Token) (xs ys : List Token) → fines (a ∷ (xs ++ (b ∷ (ys ++ (c ∷ []))))) ≡ token a ∷ (fines xs ++ token b ∷ fines ys) ++ token c ∷ []
between_fines a b c xs ys =
    ap (λ (z : List Marked). token a ∷ z)
    (fines-append xs (b ∷ (ys ++ (c ∷ []))) ∙ ap (λ (z : List Marked). fines xs ++ token b ∷ z) (fines-append ys (c ∷ [])) ∙ sym (append_assoc (fines xs) (token b ∷ fines ys) (token c ∷ [])))

module _ (p : Program) (d g : ℕ) (a b : Expr) (cs es : List Piece) (x : Prints p d a cs) (y : Prints p g b es) (shallow : max d g + 1 ≤ 64) where
  between_tokens : (n : ℕ) (kind : Kind) (o : Op) (is : operator_at n kind ≡ Some o) (i : Infix n kind o) (parens : ℕ) (ts : List Token) → parens + (max d g + 1) ≤ 64
      → AreTokens (pieces.plain k.LeftParen tt ∷ (x.qs ++ (pieces.plain kind i.bare ∷ (y.qs ++ (pieces.plain k.RightParen tt ∷ []))))) ts → IsExpr 0 parens (max d g + 1) (fines ts) (apply_two o a b)
  between_tokens n kind o is i parens ts low h =
      let first = head (pieces.plain k.LeftParen tt) (x.qs ++ (pieces.plain kind i.bare ∷ (y.qs ++ (pieces.plain k.RightParen tt ∷ [])))) ts h in
      let left = cut x.qs (pieces.plain kind i.bare ∷ (y.qs ++ (pieces.plain k.RightParen tt ∷ []))) first.more first.rest in
      let middle = head (pieces.plain kind i.bare) (y.qs ++ (pieces.plain k.RightParen tt ∷ [])) left.back left.second in
      let right = cut y.qs (pieces.plain k.RightParen tt ∷ []) middle.more middle.rest in
      let end = head (pieces.plain k.RightParen tt) [] right.back right.second in
      let split : ts ≡ first.one ∷ (left.front ++ (middle.one ∷ (right.front ++ (end.one ∷ [])))) =
      first.split ∙ ap (λ (z : List Token). first.one ∷ z) (left.split ∙ ap (λ (z : List Token). left.front ++ z) (middle.split ∙ ap (λ (z : List Token). middle.one ∷ z)
      (right.split ∙ ap (λ (z : List Token). right.front ++ z) (end.split ∙ ap (λ (z : List Token). end.one ∷ z) (no_more end.more end.rest))))) in
      let whole = operated n (parens + 1) d g middle.one o (fines left.front) (fines right.front) a b i.low (ap (operator_at n) middle.is.kind ∙ is)
      (x.derives (parens + 1) left.front (omega arith) left.first) (y.derives (parens + 1) right.front (omega arith) right.first) shallow in
      rw (split, between_fines first.one middle.one end.one left.front right.front)
      (rw (parens_is parens (omega arith)) at (parenthesized parens (max d g + 1) first.one end.one (fines left.front ++ token middle.one ∷ fines right.front) (apply_two o a b) (ap (λ r. start_of r first.one) first.is.kind) whole end.is.kind))

  between_prints : (n : ℕ) (kind : Kind) (o : Op) → operator_at n kind ≡ Some o → Infix n kind o → Prints p (max d g + 1) (apply_two o a b) (cs ++ es)
  between_prints n kind o is i =
      record {
        qs = pieces.plain k.LeftParen tt ∷ (x.qs ++ (pieces.plain kind i.bare ∷ (y.qs ++ (pieces.plain k.RightParen tt ∷ []))));
        carries = between_loads kind i.bare x.qs y.qs ∙ ap (λ z. z ++ loads y.qs) x.carries ∙ ap (λ z. cs ++ z) y.carries;
        low = omega arith;
        high = shallow;
        spelled = λ z rest at s. rw (infix_text p o kind a b i.stands i.spelled, between_spelled (expr_text p a) (kind_text kind) (expr_text p b) z, between_pieces (pieces.plain k.LeftParen tt) (pieces.plain kind i.bare) (pieces.plain k.RightParen tt) x.qs y.qs rest)
            (left_paren p _ _ (x.spelled _ _ refl (space p _ _ (piece p (pieces.plain kind i.bare) _ _ (i.fronts p _) (space p _ _ (y.spelled _ _ refl (right_paren p z rest s)))))));
        derives = λ parens ts low h. between_tokens n kind o is i parens ts low h;
      }

-- ---- words before arguments

one_spelled : (n l z : List ℕ) → (n ++ codes "(" ++ l ++ codes ")") ++ z ≡ n ++ (40 ∷ (l ++ (41 ∷ z)))
one_spelled n l z = simp append_assoc

one_pieces : (a b c : Piece) (xs rest : List Piece) → (a ∷ b ∷ (xs ++ (c ∷ []))) ++ rest ≡ a ∷ b ∷ (xs ++ (c ∷ rest))
one_pieces a b c xs rest = simp append_assoc

module _ (p : Program) (d : ℕ) (a : Expr) (cs : List Piece) (x : Prints p d a cs) (shallow : d + 1 ≤ 64) (kind : Kind) (f : Expr → Expr) (o : OneOf kind f) where
  one_tokens : (parens : ℕ) (ts : List Token) → parens + (d + 1) ≤ 64 → AreTokens (pieces.plain kind o.bare ∷ pieces.plain k.LeftParen tt ∷ (x.qs ++ (pieces.plain k.RightParen tt ∷ []))) ts → IsExpr 0 parens (d + 1) (fines ts) (f a)
  one_tokens parens ts low h =
      let word = head (pieces.plain kind o.bare) (pieces.plain k.LeftParen tt ∷ (x.qs ++ (pieces.plain k.RightParen tt ∷ []))) ts h in
      let first = head (pieces.plain k.LeftParen tt) (x.qs ++ (pieces.plain k.RightParen tt ∷ [])) word.more word.rest in
      let inside = cut x.qs (pieces.plain k.RightParen tt ∷ []) first.more first.rest in
      let end = head (pieces.plain k.RightParen tt) [] inside.back inside.second in
      let split : ts ≡ word.one ∷ first.one ∷ (inside.front ++ (end.one ∷ [])) =
      word.split ∙ ap (λ (z : List Token). word.one ∷ z) (first.split ∙ ap (λ (z : List Token). first.one ∷ z) (inside.split ∙ ap (λ (z : List Token). inside.front ++ z) (end.split ∙ ap (λ (z : List Token). end.one ∷ z) (no_more end.more end.rest)))) in
      rw (split, fines-append inside.front (end.one ∷ []))
      (rw (parens_is parens (omega arith)) at (rw (deep_is (d + 1) shallow) at
      (with_one parens d word.one first.one end.one f (fines inside.front) a (ap (λ r. start_of r word.one) word.is.kind ∙ o.starts word.one) first.is.kind (loosest (x.derives (parens + 1) inside.front (omega arith) inside.first)) end.is.kind)))

  one_prints : Prints p (d + 1) (f a) cs
  one_prints = record {
    qs = pieces.plain kind o.bare ∷ pieces.plain k.LeftParen tt ∷ (x.qs ++ (pieces.plain k.RightParen tt ∷ []));
    carries = loads-append x.qs (pieces.plain k.RightParen tt ∷ []) ∙ append-nil (loads x.qs) ∙ x.carries;
    low = omega arith;
    high = shallow;
    spelled = λ z rest at s. rw (o.text p a, one_spelled (kind_text kind) (expr_text p a) z, one_pieces (pieces.plain kind o.bare) (pieces.plain k.LeftParen tt) (pieces.plain k.RightParen tt) x.qs rest)
        (piece p (pieces.plain kind o.bare) _ _ (o.fronts p _) (left_paren p _ _ (x.spelled _ _ refl (right_paren p z rest s))));
    derives = λ parens ts low h. one_tokens parens ts low h;
  }

two_spelled : (n l r z : List ℕ) → (n ++ codes "(" ++ l ++ codes ", " ++ r ++ codes ")") ++ z ≡ n ++ (40 ∷ (l ++ (44 ∷ 32 ∷ (r ++ (41 ∷ z)))))
two_spelled n l r z = simp append_assoc

two_pieces : (a b c e : Piece) (xs ys rest : List Piece) → (a ∷ b ∷ (xs ++ (c ∷ (ys ++ (e ∷ []))))) ++ rest ≡ a ∷ b ∷ (xs ++ (c ∷ (ys ++ (e ∷ rest))))
two_pieces a b c e xs ys rest = simp append_assoc

two_fines : (a b c e : Token) (xs ys : List Token) → fines (a ∷ b ∷ (xs ++ (c ∷ (ys ++ (e ∷ []))))) ≡ token a ∷ token b ∷ fines xs ++ (token c ∷ fines ys ++ (token e ∷ []))
two_fines a b c e xs ys =
    ap (λ (z : List Marked). token a ∷ token b ∷ z) (fines-append xs (c ∷ (ys ++ (e ∷ []))) ∙ ap (λ (z : List Marked). fines xs ++ (token c ∷ z)) (fines-append ys (e ∷ [])))

module _ (p : Program) (d g : ℕ) (a b : Expr) (cs es : List Piece) (x : Prints p d a cs) (y : Prints p g b es) (shallow : max d g + 1 ≤ 64) (kind : Kind) (f : Expr → Expr → Expr) (o : TwoOf kind f) where
  two_tokens : (parens : ℕ) (ts : List Token) → parens + (max d g + 1) ≤ 64
      → AreTokens (pieces.plain kind o.bare ∷ pieces.plain k.LeftParen tt ∷ (x.qs ++ (pieces.plain k.Comma tt ∷ (y.qs ++ (pieces.plain k.RightParen tt ∷ []))))) ts → IsExpr 0 parens (max d g + 1) (fines ts) (f a b)
  two_tokens parens ts low h =
      let word = head (pieces.plain kind o.bare) (pieces.plain k.LeftParen tt ∷ (x.qs ++ (pieces.plain k.Comma tt ∷ (y.qs ++ (pieces.plain k.RightParen tt ∷ []))))) ts h in
      let first = head (pieces.plain k.LeftParen tt) (x.qs ++ (pieces.plain k.Comma tt ∷ (y.qs ++ (pieces.plain k.RightParen tt ∷ [])))) word.more word.rest in
      let left = cut x.qs (pieces.plain k.Comma tt ∷ (y.qs ++ (pieces.plain k.RightParen tt ∷ []))) first.more first.rest in
      let middle = head (pieces.plain k.Comma tt) (y.qs ++ (pieces.plain k.RightParen tt ∷ [])) left.back left.second in
      let right = cut y.qs (pieces.plain k.RightParen tt ∷ []) middle.more middle.rest in
      let end = head (pieces.plain k.RightParen tt) [] right.back right.second in
      let split : ts ≡ word.one ∷ first.one ∷ (left.front ++ (middle.one ∷ (right.front ++ (end.one ∷ [])))) =
      word.split ∙ ap (λ (z : List Token). word.one ∷ z) (first.split ∙ ap (λ (z : List Token). first.one ∷ z) (left.split ∙ ap (λ (z : List Token). left.front ++ z) (middle.split ∙ ap (λ (z : List Token). middle.one ∷ z)
      (right.split ∙ ap (λ (z : List Token). right.front ++ z) (end.split ∙ ap (λ (z : List Token). end.one ∷ z) (no_more end.more end.rest)))))) in
      rw (split, two_fines word.one first.one middle.one end.one left.front right.front)
      (rw (parens_is parens (omega arith)) at (rw (deep_is (max d g + 1) shallow) at
      (with_two parens d g word.one first.one middle.one end.one f (fines left.front) (fines right.front) a b (ap (λ r. start_of r word.one) word.is.kind ∙ o.starts word.one) first.is.kind
      (loosest (x.derives (parens + 1) left.front (omega arith) left.first)) middle.is.kind (loosest (y.derives (parens + 1) right.front (omega arith) right.first)) end.is.kind)))

  two_prints : Prints p (max d g + 1) (f a b) (cs ++ es)
  two_prints = record {
    qs = pieces.plain kind o.bare ∷ pieces.plain k.LeftParen tt ∷ (x.qs ++ (pieces.plain k.Comma tt ∷ (y.qs ++ (pieces.plain k.RightParen tt ∷ []))));
    carries = between_loads k.Comma tt x.qs y.qs ∙ ap (λ z. z ++ loads y.qs) x.carries ∙ ap (λ z. cs ++ z) y.carries;
    low = omega arith;
    high = shallow;
    spelled = λ z rest at s. rw (o.text p a b, two_spelled (kind_text kind) (expr_text p a) (expr_text p b) z, two_pieces (pieces.plain kind o.bare) (pieces.plain k.LeftParen tt) (pieces.plain k.Comma tt) (pieces.plain k.RightParen tt) x.qs y.qs rest)
        (piece p (pieces.plain kind o.bare) _ _ (o.fronts p _) (left_paren p _ _ (x.spelled _ _ refl (comma p _ _ (space p _ _ (y.spelled _ _ refl (right_paren p z rest s)))))));
    derives = λ parens ts low h. two_tokens parens ts low h;
  }

-- ---- every expression

some_append : (ms ns : List Marked) → Some-Marked ms → Some-Marked (ms ++ ns)
some_append [] ns h = absurd h
some_append (m ∷ ms) ns h = tt

pub expr_some : (n p d : ℕ) (ms : List Marked) (e : Expr) → IsExpr n p d ms e → Some-Marked ms
expr_some _ _ _ _ _ (whole p t e h) = tt
expr_some _ _ _ _ _ (rows p w h) = tt
expr_some _ _ _ _ _ (row_count p w a b h i j) = tt
expr_some _ _ _ _ _ (parenthesized p d a b ms e h x i) = tt
expr_some _ _ _ _ _ (with_one p d w a b f ms e h i x j) = tt
expr_some _ _ _ _ _ (with_two p d g w a b c f ms ns x y h i l j m q) = tt
expr_some _ _ _ _ _ (alone n p d ms e x) = expr_some n p d ms e x
expr_some _ _ _ _ _ (chain n p d g t o ms ns a b h x i y) = some_append ms _ (expr_some (suc n) p d ms a x)
expr_some _ _ _ _ _ (compare n p d g t o ms ns a b h x i y) = some_append ms _ (expr_some n p d ms a x)

pub carries_none : (t : Token) (kind : Kind) → t.kind ≡ kind → Bare kind → carried t ≡ []
carries_none t k.Int is bare = absurd bare
carries_none t k.Name is bare = absurd bare
carries_none t k.Text is bare = absurd bare
carries_none t k.Read is bare = absurd bare
carries_none t _ is bare = rw is refl

-- what a mark or a word carries between two parts
cargo_between : (t : Token) (ms ns : List Marked) (too : Bool) → carried t ≡ [] → cargo (ms ++ token t ∷ ends_deep too ns) ≡ cargo ms ++ cargo ns
cargo_between t ms ns too none = cargo-append ms (token t ∷ ends_deep too ns) ∙ ap (λ z. cargo ms ++ z) (ap (λ z. z ++ cargo (ends_deep too ns)) none ∙ cargo_deep too ns)

module _ (p : Program) (d g : ℕ) (n : ℕ) (t : Token) (o : Op) (ms ns : List Marked) (a b : Expr) (is : operator_at n t.kind ≡ Some o) (some : Some-Marked ns) where
  infix_prints : (AllFine ms → AllGood p (cargo ms) → Prints p d a (cargo ms)) → (AllFine ns → AllGood p (cargo ns) → Prints p g b (cargo ns))
      → AllFine (ms ++ token t ∷ ends_deep (is_deep (max d g + 1)) ns) → AllGood p (cargo (ms ++ token t ∷ ends_deep (is_deep (max d g + 1)) ns))
      → Prints p (max d g + 1) (apply_two o a b) (cargo (ms ++ token t ∷ ends_deep (is_deep (max d g + 1)) ns))
  infix_prints left right ok good =
      let i = infix_of n t.kind o is in
      let cs = cargo_between t ms ns (is_deep (max d g + 1)) (carries_none t t.kind refl i.bare) in
      let parts = fine_parts ms (token t ∷ ends_deep (is_deep (max d g + 1)) ns) ok in
      let deep = deep_fine (is_deep (max d g + 1)) ns some parts.1.1 in
      let goods = good_parts p (cargo ms) (cargo ns) (subst (AllGood p) cs good) in
      subst (Prints p (max d g + 1) (apply_two o a b)) (sym cs)
      (between_prints p d g a b (cargo ms) (cargo ns) (left parts.0 goods.0) (right deep.1 goods.1) (shallow (max d g + 1) deep.0) n t.kind o is i)

pub rows_kind : (kind : Kind) (t : Token) → start_of kind t ≡ row_word → Bare kind
rows_kind k.Rows t h = tt
rows_kind _ t h = absurd cc

pub inner_kind : (kind : Kind) (t : Token) → start_of kind t ≡ inner → Bare kind
inner_kind k.LeftParen t h = tt
inner_kind _ t h = absurd cc

-- tokens that carry nothing, before a list
pub none_before : (t : Token) (m : Mark) (ms : List Marked) → carried t ≡ [] → cargo ((t, m) ∷ ms) ≡ cargo ms
none_before t m ms none = ap (λ z. z ++ cargo ms) none

pub none_behind : (t : Token) (m : Mark) (ms : List Marked) → carried t ≡ [] → cargo (ms ++ (t, m) ∷ []) ≡ cargo ms
none_behind t m ms none = cargo-append ms ((t, m) ∷ []) ∙ ap (λ z. cargo ms ++ z) (none_before t m [] none) ∙ append-nil (cargo ms)

one_deep : (too : Bool) (t : Token) → AllFine (ends_deep too (token t ∷ [])) → too ≡ false
one_deep too t h = (deep_fine too (token t ∷ []) tt h).0

pub prints : (p : Program) (n q d : ℕ) (ms : List Marked) (e : Expr) → IsExpr n q d ms e → AllFine ms → AllGood p (cargo ms) → Prints p d e (cargo ms)
prints p _ _ _ _ _ (whole q t e h) ok good =
    subst (Prints p 1 e) (sym (append-nil (carried t))) (leaf_of p t e t.kind h (good_parts p (carried t) [] good).0)
prints p _ _ _ _ _ (rows q w h) ok good = subst (Prints p 1 expr.Rows) (sym (none_before w fine [] (carries_none w w.kind refl (rows_kind w.kind w h)))) (rows_leaf p)
prints p _ _ _ _ _ (row_count q w a b h i j) ok good =
    subst (Prints p 1 expr.RowCount)
    (sym (none_before w fine ((a, by_parens q) ∷ token b ∷ []) (carries_none w w.kind refl (rows_kind w.kind w h)) ∙ none_before a (by_parens q) (token b ∷ []) (carries_none a k.LeftParen i tt) ∙ none_before b fine [] (carries_none b k.RightParen j tt)))
    (count_leaf p)
prints p _ _ _ _ _ (parenthesized q d a b ms e h x i) ok good =
    let parts = fine_parts ms (token b ∷ []) ok.1 in
    let is = none_before a (by_parens q) (ms ++ token b ∷ []) (carries_none a a.kind refl (inner_kind a.kind a h)) ∙ none_behind b fine ms (carries_none b k.RightParen i tt) in
    subst (Prints p d e) (sym is) (prints p top (q + 1) d ms e x parts.0 (subst (AllGood p) is good))
prints p _ _ _ _ _ (with_one q d w a b f ms e h i x j) ok good =
    let o = one_of w.kind w f h in
    let parts = fine_parts ms (ends_deep (is_deep (d + 1)) (token b ∷ [])) ok.1.1 in
    let is = none_before w fine ((a, by_parens q) ∷ ms ++ ends_deep (is_deep (d + 1)) (token b ∷ [])) (carries_none w w.kind refl o.bare) ∙ none_before a (by_parens q) (ms ++ ends_deep (is_deep (d + 1)) (token b ∷ [])) (carries_none a k.LeftParen i tt)
    ∙ none_behind b _ ms (carries_none b k.RightParen j tt) in
    subst (Prints p (d + 1) (f e)) (sym is)
    (one_prints p d e (cargo ms) (prints p top (q + 1) d ms e x parts.0 (subst (AllGood p) is good)) (shallow (d + 1) (one_deep (is_deep (d + 1)) b parts.1)) w.kind f o)
prints p _ _ _ _ _ (with_two q d g w a b c f ms ns x y h i l j m r) ok good =
    let o = two_of w.kind w f h in
    let last = ends_deep (is_deep (max d g + 1)) (token c ∷ []) in
    let parts = fine_parts ms (token b ∷ ns ++ last) ok.1.1 in
    let more = fine_parts ns last parts.1.1 in
    let is : cargo (token w ∷ (a, by_parens q) ∷ ms ++ (token b ∷ ns ++ last)) ≡ cargo ms ++ cargo ns =
    none_before w fine ((a, by_parens q) ∷ ms ++ (token b ∷ ns ++ last)) (carries_none w w.kind refl o.bare) ∙ none_before a (by_parens q) (ms ++ (token b ∷ ns ++ last)) (carries_none a k.LeftParen i tt)
    ∙ cargo-append ms (token b ∷ ns ++ last) ∙ ap (λ z. cargo ms ++ z) (none_before b fine (ns ++ last) (carries_none b k.Comma j tt) ∙ none_behind c _ ns (carries_none c k.RightParen r tt)) in
    let goods = good_parts p (cargo ms) (cargo ns) (subst (AllGood p) is good) in
    subst (Prints p (max d g + 1) (f x y)) (sym is)
    (two_prints p d g x y (cargo ms) (cargo ns) (prints p top (q + 1) d ms x l parts.0 goods.0) (prints p top (q + 1) g ns y m more.0 goods.1) (shallow (max d g + 1) (one_deep (is_deep (max d g + 1)) c more.1)) w.kind f o)
prints p _ _ _ _ _ (alone n q d ms e x) ok good = prints p n q d ms e x ok good
prints p _ _ _ _ _ (chain n q d g t o ms ns a b h x i y) ok good =
    infix_prints p d g (suc n) t o ms ns a b i (expr_some n q g ns b y) (λ u v. prints p (suc n) q d ms a x u v) (λ u v. prints p n q g ns b y u v) ok good
prints p _ _ _ _ _ (compare n q d g t o ms ns a b h x i y) ok good =
    infix_prints p d g (suc n) t o ms ns a b i (expr_some n q g ns b y) (λ u v. prints p n q d ms a x u v) (λ u v. prints p n q g ns b y u v) ok good
