-- Functions are spelled and read back as themselves, but for their lines.
use Rattle.std.proofs.Common.{◌≡◌, ℕ, ◌+◌, List, [], ◌∷◌, ◌++◌, append_assoc, length, map, refl, sym, ap, subst, ◌∙◌}
use Rattle.std.specs.Prelude.{codes, flat_map}
use Rattle.psac_syntax.specs.declared.program.Stmt.{Stmt}
use Rattle.psac_syntax.specs.declared.program.Func.{Func}
use Rattle.psac_syntax.specs.declared.program.Program.{Program}
use Rattle.psac_tokens.specs.declared.token.Kind.TheVariants as k
use Rattle.psac_tokens.specs.declared.token.Token.{Token}
use Rattle.psac_tokens.specs.Lex.{reserved}
use Rattle.psac_grammar.specs.Marked.{fine, Marked, token, AllFine, by_name, by_bodies, by_funcs}
use Rattle.psac_grammar.specs.Grammar.{header_values, header_dests, IsNames, IsFuncs, function}
use Rattle.psac_spelling.specs.Canonical.{name_text, header_text, body_text, stmt_text, func_text}
use Rattle.psac_spelling.specs.Unlined.{unlined, func_unlined}
use Rattle.psac_spelling.proofs.Pieces as pieces
use Rattle.psac_spelling.proofs.Pieces.{Piece, name, Spelled, space, feed, piece}
use Rattle.psac_spelling.proofs.Words.{fixed}
use Rattle.psac_spelling.proofs.Replays.{AreTokens}
use Rattle.psac_spelling.proofs.Tokens.{loads, loads-append, cargo, AllGood, good_parts, cut, head, no_more, fines, fines-append, fine_parts, length_is}
use Rattle.psac_spelling.proofs.Prints.{carries_none, none_before}
use Rattle.psac_spelling.proofs.Lists.{Part, names_part}
use Rattle.psac_spelling.proofs.Statements.{Body, body_of, body_fines}
use Rattle.psac_spelling.proofs.Calls.{HeaderAgain, header_part, header_fines, dests_part}
use Rattle.psac_spelling.proofs.Bodies.{stmts, then_none, name_before}

-- functions of the grammar that are these but for their lines
pub record FuncsAgain (c : ℕ) (ms : List Marked) (fs : List Func) : Type 0 where
  pub new : List Func
  pub good : IsFuncs c ms new
  pub same : map func_unlined new ≡ map func_unlined fs

pub record Funcs (p : Program) (c : ℕ) (fs : List Func) (cs : List Piece) : Type 0 where
  pub qs : List Piece
  pub carries : loads qs ≡ cs
  pub spelled : (z : List ℕ) (rest : List Piece) → Spelled p z rest → Spelled p (flat_map (func_text p) fs ++ z) (qs ++ rest)
  pub derives : (ts : List Token) → AreTokens qs ts → FuncsAgain c (fines ts) fs

func_join : (h b y z : List ℕ) → ((codes "func " ++ h ++ codes " " ++ b ++ codes "\n") ++ y) ++ z ≡ codes "func " ++ (h ++ (32 ∷ (b ++ (10 ∷ (y ++ z)))))
func_join h b y z = simp append_assoc

func_pieces : (a : Piece) (xs ys zs rest : List Piece) → (a ∷ (xs ++ (ys ++ zs))) ++ rest ≡ a ∷ (xs ++ (ys ++ (zs ++ rest)))
func_pieces a xs ys zs rest = simp append_assoc

abbrev Values : List ℕ → List Token → Type 0
Values values ts = IsNames header_values 0 (fines ts) values

abbrev Dests : List ℕ → List ℕ → List Token → Type 0
Dests values dests ts = IsNames header_dests (length values) (fines ts) dests

module _ (p : Program) (c : ℕ) (low : by_funcs c ≡ fine) (deep : by_bodies 0 ≡ fine) (line x : ℕ) (values dests : List ℕ) (ss : List Stmt) (fs : List Func) (hs bs es : List Piece)
    (y : Part p (header_text p x (map (name_text p) values) dests) hs (HeaderAgain (Values values) (Dests values dests) x)) (b : Body p 1 (length values + length dests) ss bs) (r : Funcs p (c + 1) fs es) where
  one_func : Funcs p c (record { name = x; values = values; dests = dests; body = ss; line = line } ∷ fs) (hs ++ (bs ++ es))
  unfolding reserved
  one_func = record {
    qs = pieces.plain k.Func tt ∷ (y.qs ++ (b.qs ++ r.qs));
    carries = loads-append y.qs (b.qs ++ r.qs) ∙ ap (λ z. loads y.qs ++ z) (loads-append b.qs r.qs) ∙ ap (λ z. z ++ (loads b.qs ++ loads r.qs)) y.carries ∙ ap (λ z. hs ++ (z ++ loads r.qs)) b.carries ∙ ap (λ z. hs ++ (bs ++ z)) r.carries;
    spelled = λ z rest s. rw (func_join (header_text p x (map (name_text p) values) dests) (body_text (map (stmt_text p) ss) []) (flat_map (func_text p) fs) z, func_pieces (pieces.plain k.Func tt) y.qs b.qs r.qs rest)
        (piece p (pieces.plain k.Func tt) _ _ (fixed p _ k.Func tt refl refl refl) (space p _ _ (y.spelled _ _ refl (space p _ _ (b.spelled [] _ _ tt (feed p _ _ (r.spelled z rest s)))))));
    derives = λ ts h. derived ts h;
  }
    where
      derived : (ts : List Token) → AreTokens (pieces.plain k.Func tt ∷ (y.qs ++ (b.qs ++ r.qs))) ts → FuncsAgain c (fines ts) (record { name = x; values = values; dests = dests; body = ss; line = line } ∷ fs)
      derived ts h =
          let w = head (pieces.plain k.Func tt) (y.qs ++ (b.qs ++ r.qs)) ts h in
          let f = cut y.qs (b.qs ++ r.qs) w.more w.rest in
          let g = cut b.qs r.qs f.back f.second in
          let i = y.derives f.front f.first in
          let u = b.derives g.front g.first in
          let v = r.derives g.back g.second in
          let header = i.t ∷ i.a ∷ (i.vs ++ (i.s ∷ (i.ds ++ (i.z ∷ [])))) in
          let body = u.l ∷ (u.inside ++ (u.r ∷ [])) in
          let split : ts ≡ w.one ∷ (header ++ (body ++ g.back)) =
          w.split ∙ ap (λ (z : List Token). w.one ∷ z) (f.split ∙ ap (λ (z : List Token). z ++ f.back) i.split ∙ ap (λ (z : List Token). header ++ z) (g.split ∙ ap (λ (z : List Token). z ++ g.back) u.split)) in
          let shape : fines ts ≡ token w.one ∷ token i.t ∷ token i.a ∷ (fines i.vs ++ (token i.s ∷ (fines i.ds ++ (token i.z ∷ token u.l ∷ (fines u.inside ++ (token u.r ∷ fines g.back)))))) =
          ap fines split ∙ ap (λ (z : List Marked). token w.one ∷ z) (fines-append header (body ++ g.back) ∙ ap (λ (z : List Marked). fines header ++ z) (fines-append body g.back ∙ body_fines u.l u.r u.inside (fines g.back)) ∙ header_fines i.t i.a i.s i.z i.vs i.ds (token u.l ∷ (fines u.inside ++ (token u.r ∷ fines g.back)))) in
          record {
            new = function w.one i.t values dests u.again.new ∷ v.new;
            good = subst (λ m. IsFuncs c m (function w.one i.t values dests u.again.new ∷ v.new)) (sym shape)
                (rw (length_is fine i.t i.over refl) at (rw deep at (rw low at (IsFuncs.func c w.one i.t i.a i.s i.z u.l u.r (fines i.vs) (fines i.ds) (fines u.inside) (fines g.back) values dests u.again.new v.new w.is.kind i.t_is i.a_is i.values i.s_is i.dests i.z_is u.l_is u.again.good u.r_is v.good))));
            same = ap (λ (z : List Func). z ++ map func_unlined v.new) (ap (λ j. record { name = j; values = values; dests = dests; body = map unlined u.again.new; line = 0 } ∷ []) i.index ∙ ap (λ j. record { name = x; values = values; dests = dests; body = j; line = 0 } ∷ []) u.again.same)
                ∙ ap (λ (z : List Func). record { name = x; values = values; dests = dests; body = map unlined ss; line = 0 } ∷ z) v.same;
          }

no_funcs : (p : Program) (c : ℕ) → Funcs p c [] []
no_funcs p c = record {
  qs = [];
  carries = refl;
  spelled = λ z rest s. s;
  derives = λ ts h. rw (no_more ts h) (record { new = []; good = IsFuncs.none c; same = refl });
}

pub funcs : (p : Program) (c : ℕ) (ms : List Marked) (fs : List Func) → IsFuncs c ms fs → AllFine ms → AllGood p (cargo ms) → Funcs p c fs (cargo ms)
funcs p _ _ _ (IsFuncs.none c) ok good = no_funcs p c
funcs p _ _ _ (IsFuncs.func c w t a s z l r vs ds body ns values dests ss fs hw ht ha y hs u hz hl v hr more) ok good =
    let is : cargo ((w, by_funcs c) ∷ (t, by_name t) ∷ token a ∷ vs ++ (token s ∷ ds ++ (token z ∷ (l, by_bodies 0) ∷ body ++ token r ∷ ns))) ≡ (name t.index ∷ (cargo vs ++ cargo ds)) ++ (cargo body ++ cargo ns) =
    none_before w (by_funcs c) ((t, by_name t) ∷ token a ∷ vs ++ (token s ∷ ds ++ (token z ∷ (l, by_bodies 0) ∷ body ++ token r ∷ ns))) (carries_none w k.Func hw tt)
    ∙ name_before t (by_name t) (token a ∷ vs ++ (token s ∷ ds ++ (token z ∷ (l, by_bodies 0) ∷ body ++ token r ∷ ns))) ht
    ∙ ap (λ i. name t.index ∷ i) (none_before a fine (vs ++ (token s ∷ ds ++ (token z ∷ (l, by_bodies 0) ∷ body ++ token r ∷ ns))) (carries_none a k.LeftParen ha tt)
    ∙ then_none vs s fine (ds ++ (token z ∷ (l, by_bodies 0) ∷ body ++ token r ∷ ns)) (carries_none s k.Semicolon hs tt)
    ∙ ap (λ i. cargo vs ++ i) (then_none ds z fine ((l, by_bodies 0) ∷ body ++ token r ∷ ns) (carries_none z k.RightParen hz tt) ∙ ap (λ i. cargo ds ++ i) (none_before l (by_bodies 0) (body ++ token r ∷ ns) (carries_none l k.LeftBrace hl tt) ∙ then_none body r fine ns (carries_none r k.RightBrace hr tt)))
    ∙ sym (append_assoc (cargo vs) (cargo ds) (cargo body ++ cargo ns))) in
    let goods = good_parts p (name t.index ∷ (cargo vs ++ cargo ds)) (cargo body ++ cargo ns) (subst (AllGood p) is good) in
    let sides = good_parts p (cargo vs) (cargo ds) goods.0.1 in
    let inner = good_parts p (cargo body) (cargo ns) goods.1 in
    let parts = fine_parts vs (token s ∷ ds ++ (token z ∷ (l, by_bodies 0) ∷ body ++ token r ∷ ns)) ok.1.1.1 in
    let later = fine_parts ds (token z ∷ (l, by_bodies 0) ∷ body ++ token r ∷ ns) parts.1.1 in
    let last = fine_parts body (token r ∷ ns) later.1.1.1 in
    let header = header_part p t.index (map (name_text p) values) dests (cargo vs) (cargo ds) (Values values) (Dests values dests) goods.0.0 (names_part p header_values 0 vs values y parts.0 sides.0)
    (dests_part p dests (cargo ds) (Dests values dests) (names_part p header_dests (length values) ds dests u later.0 sides.1)) in
    subst (Funcs p c (function w t values dests ss ∷ fs)) (sym is)
    (one_func p c ok.0 later.1.1.0 w.line t.index values dests ss fs (name t.index ∷ (cargo vs ++ cargo ds)) (cargo body) (cargo ns) header
    (body_of p 1 (length values + length dests) ss (cargo body) (stmts p 1 (length values + length dests) 0 body ss v last.0 inner.0)) (funcs p (c + 1) ns fs more last.1.1 inner.1))
