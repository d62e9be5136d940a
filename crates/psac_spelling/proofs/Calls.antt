-- Headers and calls are spelled and read back as themselves, and so are all statements.
use Rattle.std.proofs.Common.{◌≡◌, ℕ, false, List, [], ◌∷◌, ◌++◌, append-nil, append_assoc, map, refl, sym, ap, ◌∙◌}
use Rattle.std.specs.Prelude.{codes}
use Rattle.psac_syntax.specs.declared.program.Expr.{Expr}
use Rattle.psac_syntax.specs.declared.program.Stmt.TheVariants as stmt
use Rattle.psac_syntax.specs.declared.program.Program.{Program}
use Rattle.psac_tokens.specs.declared.token.Kind.TheVariants as k
use Rattle.psac_tokens.specs.declared.token.Token.{Token}
use Rattle.psac_tokens.specs.Lex.{reserved}
use Rattle.psac_grammar.specs.Marked.{fine, Marked, token, by_statements}
use Rattle.psac_grammar.specs.Grammar.{call_dests, IsNames, IsValues, IsStmts}
use Rattle.psac_spelling.specs.Canonical.{expr_text, name_text, joined, dests_text, header_text}
use Rattle.psac_spelling.proofs.Layers.{call_text}
use Rattle.psac_spelling.proofs.Unlined.{unlined_call}
use Rattle.psac_spelling.proofs.Pieces as pieces
use Rattle.psac_spelling.proofs.Pieces.{Piece, name, block, Bare, Spelled, space, feed, piece}
use Rattle.psac_spelling.proofs.Words.{Break, fixed}
use Rattle.psac_spelling.proofs.Found.{IsName}
use Rattle.psac_spelling.proofs.Replays.{AreTokens}
use Rattle.psac_spelling.proofs.Tokens.{loads, loads-append, cut, head, no_more, fines, fines-append, length_is}
use Rattle.psac_spelling.proofs.Prints.{left_paren, right_paren}
use Rattle.psac_spelling.proofs.Lists.{Part, name_spelled}
use Rattle.psac_spelling.proofs.Statements.{semicolon, Adds, One, moved}

-- destinations stand behind a space
pub dests_part : (p : Program) (ds : List ℕ) (cs : List Piece) (D : List Token → Type 0) → Part p (joined (map (name_text p) ds)) cs D → Part p (dests_text p ds) cs D
dests_part p [] cs D y = y
dests_part p (d ∷ ds) cs D y = record { qs = y.qs; carries = y.carries; spelled = λ z rest at s. space p _ _ (y.spelled z rest at s); derives = y.derives }

-- a name, values and destinations
pub record HeaderAgain (V D : List Token → Type 0) (x : ℕ) (ts : List Token) : Type 0 where
  pub t : Token
  pub a : Token
  pub vs : List Token
  pub s : Token
  pub ds : List Token
  pub z : Token
  pub split : ts ≡ t ∷ a ∷ (vs ++ (s ∷ (ds ++ (z ∷ []))))
  pub t_is : t.kind ≡ k.Name
  pub index : t.index ≡ x
  pub over : t.over ≡ false
  pub a_is : a.kind ≡ k.LeftParen
  pub values : V vs
  pub s_is : s.kind ≡ k.Semicolon
  pub dests : D ds
  pub z_is : z.kind ≡ k.RightParen

header_join : (x v d z : List ℕ) → (x ++ codes "(" ++ v ++ codes ";" ++ d ++ codes ")") ++ z ≡ x ++ (40 ∷ (v ++ (59 ∷ (d ++ (41 ∷ z)))))
header_join x v d z = simp append_assoc

header_pieces : (a b c e : Piece) (xs ys rest : List Piece) → (a ∷ b ∷ (xs ++ (c ∷ (ys ++ (e ∷ []))))) ++ rest ≡ a ∷ b ∷ (xs ++ (c ∷ (ys ++ (e ∷ rest))))
header_pieces a b c e xs ys rest = simp append_assoc

break_dests : (p : Program) (ds : List ℕ) (z : List ℕ) → Break (dests_text p ds ++ (41 ∷ z))
break_dests p [] z = refl
break_dests p (d ∷ ds) z = refl

pub header_part : (p : Program) (x : ℕ) (vt : List (List ℕ)) (dests : List ℕ) (cs es : List Piece) (V D : List Token → Type 0) → IsName (name_text p x) → Part p (joined vt) cs V → Part p (dests_text p dests) es D
    → Part p (header_text p x vt dests) (name x ∷ (cs ++ es)) (HeaderAgain V D x)
header_part p x vt dests cs es V D good y u = record {
  qs = name x ∷ pieces.plain k.LeftParen tt ∷ (y.qs ++ (pieces.plain k.Semicolon tt ∷ (u.qs ++ (pieces.plain k.RightParen tt ∷ []))));
  carries = ap (λ z. name x ∷ z) (loads-append y.qs (pieces.plain k.Semicolon tt ∷ (u.qs ++ (pieces.plain k.RightParen tt ∷ []))) ∙ ap (λ z. loads y.qs ++ z) (loads-append u.qs (pieces.plain k.RightParen tt ∷ []) ∙ append-nil (loads u.qs)) ∙ ap (λ z. z ++ loads u.qs) y.carries ∙ ap (λ z. cs ++ z) u.carries);
  spelled = λ z rest at s. rw (header_join (name_text p x) (joined vt) (dests_text p dests) z, header_pieces (name x) (pieces.plain k.LeftParen tt) (pieces.plain k.Semicolon tt) (pieces.plain k.RightParen tt) y.qs u.qs rest)
      (name_spelled p x _ _ good refl (left_paren p _ _ (y.spelled _ _ refl (semicolon p _ _ (u.spelled _ _ refl (right_paren p z rest s))))));
  derives = λ ts h. derived ts h;
}
  where
    derived : (ts : List Token) → AreTokens (name x ∷ pieces.plain k.LeftParen tt ∷ (y.qs ++ (pieces.plain k.Semicolon tt ∷ (u.qs ++ (pieces.plain k.RightParen tt ∷ []))))) ts → HeaderAgain V D x ts
    derived ts h =
        let t = head (name x) (pieces.plain k.LeftParen tt ∷ (y.qs ++ (pieces.plain k.Semicolon tt ∷ (u.qs ++ (pieces.plain k.RightParen tt ∷ []))))) ts h in
        let a = head (pieces.plain k.LeftParen tt) (y.qs ++ (pieces.plain k.Semicolon tt ∷ (u.qs ++ (pieces.plain k.RightParen tt ∷ [])))) t.more t.rest in
        let f = cut y.qs (pieces.plain k.Semicolon tt ∷ (u.qs ++ (pieces.plain k.RightParen tt ∷ []))) a.more a.rest in
        let s = head (pieces.plain k.Semicolon tt) (u.qs ++ (pieces.plain k.RightParen tt ∷ [])) f.back f.second in
        let g = cut u.qs (pieces.plain k.RightParen tt ∷ []) s.more s.rest in
        let z = head (pieces.plain k.RightParen tt) [] g.back g.second in
        record {
          t = t.one;
          a = a.one;
          vs = f.front;
          s = s.one;
          ds = g.front;
          z = z.one;
          split = t.split ∙ ap (λ (r : List Token). t.one ∷ r) (a.split ∙ ap (λ (r : List Token). a.one ∷ r) (f.split ∙ ap (λ (r : List Token). f.front ++ r) (s.split ∙ ap (λ (r : List Token). s.one ∷ r) (g.split ∙ ap (λ (r : List Token). g.front ++ r) (z.split ∙ ap (λ (r : List Token). z.one ∷ r) (no_more z.more z.rest))))));
          t_is = t.is.kind;
          index = t.is.holds;
          over = t.is.fits;
          a_is = a.is.kind;
          values = y.derives f.front f.first;
          s_is = s.is.kind;
          dests = u.derives g.front g.first;
          z_is = z.is.kind;
        }

pub header_fines : (t a s z : Token) (vs ds : List Token) (back : List Marked) → fines (t ∷ a ∷ (vs ++ (s ∷ (ds ++ (z ∷ []))))) ++ back ≡ token t ∷ token a ∷ (fines vs ++ (token s ∷ (fines ds ++ (token z ∷ back))))
header_fines t a s z vs ds back =
    ap (λ (r : List Marked). token t ∷ token a ∷ r)
    (ap (λ (r : List Marked). r ++ back) (fines-append vs (s ∷ (ds ++ (z ∷ [])))) ∙ append_assoc (fines vs) (token s ∷ fines (ds ++ (z ∷ []))) back
    ∙ ap (λ (r : List Marked). fines vs ++ (token s ∷ r)) (ap (λ (r : List Marked). r ++ back) (fines-append ds (z ∷ [])) ∙ append_assoc (fines ds) (token z ∷ []) back))

call_join : (h z : List ℕ) → (codes "call " ++ h ++ codes ";") ++ 10 ∷ z ≡ codes "call " ++ (h ++ (59 ∷ 10 ∷ z))
call_join h z = simp append_assoc

call_pieces : (a b : Piece) (xs rest : List Piece) → (a ∷ (xs ++ (b ∷ []))) ++ rest ≡ a ∷ (xs ++ (b ∷ rest))
call_pieces a b xs rest = simp append_assoc

module _ (p : Program) (b n c : ℕ) (low : by_statements c ≡ fine) where
  pub call_one : (line x : ℕ) (values : List Expr) (dests : List ℕ) (cs es : List Piece) → IsName (name_text p x) → Part p (joined (map (expr_text p) values)) cs (λ ts. IsValues (fines ts) values)
      → Part p (joined (map (name_text p) dests)) es (λ ts. IsNames call_dests 0 (fines ts) dests) → One p b n n c (stmt.Call line x values dests) (name x ∷ (cs ++ es))
  unfolding reserved
  call_one line x values dests cs es good y u = by (header_part p x (map (expr_text p) values) dests cs es (λ ts. IsValues (fines ts) values) (λ ts. IsNames call_dests 0 (fines ts) dests) good y (dests_part p dests es (λ ts. IsNames call_dests 0 (fines ts) dests) u))
    where
      by : Part p (header_text p x (map (expr_text p) values) dests) (name x ∷ (cs ++ es)) (HeaderAgain (λ ts. IsValues (fines ts) values) (λ ts. IsNames call_dests 0 (fines ts) dests) x) → One p b n n c (stmt.Call line x values dests) (name x ∷ (cs ++ es))
      by g = record {
        qs = pieces.plain k.Call tt ∷ (g.qs ++ (pieces.plain k.Semicolon tt ∷ []));
        carries = loads-append g.qs (pieces.plain k.Semicolon tt ∷ []) ∙ append-nil (loads g.qs) ∙ g.carries;
        spelled = λ margin z rest h s. rw (call_text p line x values dests margin, call_join (header_text p x (map (expr_text p) values) dests) z, call_pieces (pieces.plain k.Call tt) (pieces.plain k.Semicolon tt) g.qs rest)
            (piece p (pieces.plain k.Call tt) _ _ (fixed p _ k.Call tt refl refl refl) (space p _ _ (g.spelled _ _ refl (semicolon p _ _ (feed p z rest s)))));
        adds = λ ts h. adds ts h;
      }
        where
          adds : (ts : List Token) → AreTokens (pieces.plain k.Call tt ∷ (g.qs ++ (pieces.plain k.Semicolon tt ∷ []))) ts → Adds b n n c ts (stmt.Call line x values dests)
          adds ts h =
              let w = head (pieces.plain k.Call tt) (g.qs ++ (pieces.plain k.Semicolon tt ∷ [])) ts h in
              let f = cut g.qs (pieces.plain k.Semicolon tt ∷ []) w.more w.rest in
              let e = head (pieces.plain k.Semicolon tt) [] f.back f.second in
              let i = g.derives f.front f.first in
              let split : ts ≡ w.one ∷ ((i.t ∷ i.a ∷ (i.vs ++ (i.s ∷ (i.ds ++ (i.z ∷ []))))) ++ (e.one ∷ [])) =
              w.split ∙ ap (λ (r : List Token). w.one ∷ r) (f.split ∙ ap (λ (r : List Token). r ++ f.back) i.split ∙ ap (λ (r : List Token). (i.t ∷ i.a ∷ (i.vs ++ (i.s ∷ (i.ds ++ (i.z ∷ []))))) ++ r) (e.split ∙ ap (λ (r : List Token). e.one ∷ r) (no_more e.more e.rest))) in
              record {
                new = stmt.Call w.one.line i.t.index values dests;
                same = unlined_call w.one.line i.t.index values dests ∙ ap (λ j. stmt.Call 0 j values dests) i.index ∙ sym (unlined_call line x values dests);
                good = λ back ss more. moved (ap (λ (r : List Token). fines r ++ back) split ∙ ap (λ (r : List Marked). token w.one ∷ r)
                    (ap (λ (r : List Marked). r ++ back) (fines-append (i.t ∷ i.a ∷ (i.vs ++ (i.s ∷ (i.ds ++ (i.z ∷ []))))) (e.one ∷ [])) ∙ append_assoc (fines (i.t ∷ i.a ∷ (i.vs ++ (i.s ∷ (i.ds ++ (i.z ∷ [])))))) (token e.one ∷ []) back
                    ∙ header_fines i.t i.a i.s i.z i.vs i.ds (token e.one ∷ back)))
                    (rw (length_is fine i.t i.over refl) at (rw low at (IsStmts.call b n c w.one i.t i.a i.s i.z e.one (fines i.vs) (fines i.ds) back values dests ss w.is.kind i.t_is i.a_is i.values i.s_is i.dests i.z_is e.is.kind more)));
              }
