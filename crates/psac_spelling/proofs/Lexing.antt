-- Pieces that are spelled with spaces between them are read as these tokens.
use Rattle.std.proofs.Common.{◌≡◌, ℕ, suc, zero, ◌<◌, false, cond, eqb, List, [], ◌∷◌, ◌++◌, length, length-append, refl, sym, ap, subst, arith}
use Rattle.std.proofs.lemmas.List.{take_at, drop_at}
use Rattle.std.proofs.lemmas.Bool.{ne_eqb}
use Rattle.psac_syntax.specs.declared.program.Program.{Program}
use Rattle.psac_tokens.specs.declared.place.Place.{Place}
use Rattle.psac_tokens.specs.declared.token.Kind.{Kind}
use Rattle.psac_tokens.specs.Lex.{Lexeme, skip, front, after, past, lexemes_from}
use Rattle.psac_spelling.proofs.Pieces.{Piece, kind_of, spell, Spelled, nothing, space, feed, piece, Lexes}

no_end : (size : ℕ) (more : List Lexeme) → 0 < size → cond (eqb size 0) [] more ≡ more
no_end size more some = rw (ne_eqb size 0 (λ e. omega arith)) refl

-- a token at the front, and what is read behind it
taken : (n : ℕ) (s z : List ℕ) (at : Place) (kind : Kind) → skip false (s ++ z) at ≡ (s ++ z, at) → front (s ++ z) ≡ (kind, length s) → 0 < length s
    → lexemes_from (suc n) (s ++ z) at ≡ record { kind = kind; text = s; line = at.line; column = at.column } ∷ lexemes_from n z (past (length s) at)
unfolding lexemes_from
taken n s z at kind still token some =
    rw (still, token, take_at s z (length s) refl, drop_at s z (length s) refl)
    (let x : Lexeme = record { kind = kind; text = s; line = at.line; column = at.column } in ap (λ (r : List Lexeme). x ∷ r) (no_end (length s) (lexemes_from n z (past (length s) at)) some))

pub lexes : (p : Program) (n : ℕ) (z : List ℕ) (qs : List Piece) (at : Place) → length z < n → Spelled p z qs → Lexes p qs (lexemes_from n z at)
unfolding lexemes_from front
lexes p zero z qs at low s = absurd (omega arith)
lexes _ (suc n) _ _ at low (nothing p) = (refl, refl)
lexes _ (suc n) _ _ at low (space p z qs s) = lexes p (suc n) z qs (after 32 at) (omega arith) s
lexes _ (suc n) _ _ at low (feed p z qs s) = lexes p (suc n) z qs (after 10 at) (omega arith) s
lexes _ (suc n) _ _ at low (piece p q z qs f s) =
    subst (Lexes p (q ∷ qs)) (sym (taken n (spell p q) z at (kind_of q) (f.still at) f.token f.some))
    (refl, refl, lexes p n z qs (past (length (spell p q)) at) (omega (arith, length-append (spell p q) z, f.some)) s)
