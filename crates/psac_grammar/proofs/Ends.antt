-- The tokens of a text end with its end, or with what can't be read.
use Rattle.std.proofs.Common.{◌≡◌, ℕ, zero, suc, ◌+◌, ◌<◌, ◌≤◌, Bool, true, false, cond, not, eqb, ◌||◌, List, [], ◌∷◌, ◌++◌, take, drop, length, Option, Some, None, refl, sym, ap, ◌∙◌, arith}
use Rattle.std.specs.Prelude.{slice_index}
use Rattle.std.specs.Str.{is_utf8}
use Rattle.std.proofs.lemmas.Bool.{eqb-true}
use Rattle.std.proofs.lemmas.List.{length-drop}
use Rattle.psac_tokens.specs.declared.place.Place.{Place}
use Rattle.psac_tokens.specs.declared.token.Kind.{Kind}
use Rattle.psac_tokens.specs.declared.token.Kind.TheVariants as kinds
use Rattle.psac_tokens.specs.declared.token.Token.{Token}
use Rattle.psac_tokens.specs.Lex.{Lexeme, after, is_blank, skip, is_letter, is_digit, word_len, digits_len, reserved, closing, content, quoted, with_equals, single, mark, front, lexeme, past, lexemes_from, lexemes}
use Rattle.psac_tokens.specs.Number.{token_of, names_with, texts_with, reads_with, tokens_after, tokens}
use Rattle.psac_grammar.proofs.Fills.{lasts}

-- ---- blanks

skip_shorter : (in_comment : Bool) (z : List ℕ) (p : Place) → length (skip in_comment z p).0 ≤ length z
skip_shorter true [] p = omega arith
skip_shorter false [] p = omega arith
skip_shorter true (b ∷ z) p = let h = skip_shorter (not (eqb b 10)) z (after b p) in omega (arith, h)
skip_shorter false (b ∷ z) p = by (eqb b 35) (is_blank b) (skip_shorter true z (after b p)) (skip_shorter false z (after b p))
  where
    by : (c d : Bool) → length (skip true z (after b p)).0 ≤ length z → length (skip false z (after b p)).0 ≤ length z → length (cond c (skip true z (after b p)) (cond d (skip false z (after b p)) (b ∷ z, p))).0 ≤ length (b ∷ z)
    by true d h j = omega (arith, h)
    by false true h j = omega (arith, j)
    by false false h j = omega arith

-- ---- the token at the front

-- where the token has no length, it is a last one
abbrev LastIf : Kind × ℕ → Type 0
LastIf x = x.1 ≡ 0 → lasts x.0 ≡ true

some_letters : (c : Bool) (d : Bool) (n : ℕ) → c ≡ true → cond {A = ℕ} (c || d) (1 + n) 0 ≡ 0 → ⊥
some_letters true d n is h = omega (arith, h)
some_letters false d n is h = cc

some_digits : (c : Bool) (n : ℕ) → c ≡ true → cond {A = ℕ} c (1 + n) 0 ≡ 0 → ⊥
some_digits true n is h = omega (arith, h)
some_digits false n is h = cc

quoted_last : (bytes : List ℕ) (o : Option ℕ) → LastIf (quoted bytes o)
quoted_last bytes None = λ h. refl
quoted_last bytes (Some len) = by (is_utf8 bytes)
  where
    by : (b : Bool) → LastIf (cond b (kinds.Text, len + 1) (kinds.Unreadable, 0))
    by true h = absurd (omega (arith, h))
    by false h = refl

some_mark : (b : Bool) (x y : Kind) → LastIf (cond b (x, 2) (y, 1))
some_mark true x y h = absurd (omega (arith, h))
some_mark false x y h = absurd (omega (arith, h))

single_last : (a b c d e f g h i j k : Bool)
    → LastIf (cond a kinds.LeftBrace (cond b kinds.RightBrace (cond c kinds.LeftParen (cond d kinds.RightParen (cond e kinds.Semicolon (cond f kinds.Comma (cond g kinds.Plus (cond h kinds.Minus (cond i kinds.Star (cond j kinds.Slash (cond k kinds.Percent kinds.Unreadable)))))))))), cond (a || b || c || d || e || f || g || h || i || j || k) 1 0)
single_last true b c d e f g h i j k z = absurd cc
single_last false true c d e f g h i j k z = absurd cc
single_last false false true d e f g h i j k z = absurd cc
single_last false false false true e f g h i j k z = absurd cc
single_last false false false false true f g h i j k z = absurd cc
single_last false false false false false true g h i j k z = absurd cc
single_last false false false false false false true h i j k z = absurd cc
single_last false false false false false false false true i j k z = absurd cc
single_last false false false false false false false false true j k z = absurd cc
single_last false false false false false false false false false true k z = absurd cc
single_last false false false false false false false false false false true z = absurd cc
single_last false false false false false false false false false false false z = refl

mark_last : (b next : ℕ) → LastIf (mark b next)
mark_last b next = by (eqb b 61) (eqb b 60) (eqb b 62) (eqb b 33)
  where
    others : Kind × ℕ
    others = (single b, cond (eqb b 123 || eqb b 125 || eqb b 40 || eqb b 41 || eqb b 59 || eqb b 44 || eqb b 43 || eqb b 45 || eqb b 42 || eqb b 47 || eqb b 37) 1 0)

    unequal : (q : Bool) → LastIf (cond q (kinds.Unequal, 2) (kinds.Unreadable, 0))
    unequal true h = absurd (omega (arith, h))
    unequal false h = refl

    by : (c d e f : Bool)
        → LastIf (cond c (with_equals next kinds.Equal kinds.Assign 1) (cond d (with_equals next kinds.AtMost kinds.Less 1) (cond e (with_equals next kinds.AtLeast kinds.Greater 1) (cond f (with_equals next kinds.Unequal kinds.Unreadable 0) others))))
    by true d e f = some_mark (eqb next 61) kinds.Equal kinds.Assign
    by false true e f = some_mark (eqb next 61) kinds.AtMost kinds.Less
    by false false true f = some_mark (eqb next 61) kinds.AtLeast kinds.Greater
    by false false false true = unequal (eqb next 61)
    by false false false false = single_last (eqb b 123) (eqb b 125) (eqb b 40) (eqb b 41) (eqb b 59) (eqb b 44) (eqb b 43) (eqb b 45) (eqb b 42) (eqb b 47) (eqb b 37)

front_last : (z : List ℕ) → LastIf (front z)
unfolding front
front_last [] = λ h. refl
front_last (b ∷ z) = by (is_letter b) (is_digit b) (eqb b 34) refl refl
  where
    word : Kind × ℕ
    word = (reserved (take (word_len (b ∷ z)) (b ∷ z)), word_len (b ∷ z))

    number : Kind × ℕ
    number = (kinds.Int, digits_len (b ∷ z))

    by : (c d e : Bool) → is_letter b ≡ c → is_digit b ≡ d → LastIf (cond c word (cond d number (cond e (quoted (content false z) (closing false 0 z)) (mark b (slice_index z 0)))))
    by true d e is other = λ h. absurd (some_letters (is_letter b) (is_digit b) (word_len z) is h)
    by false true e is other = λ h. absurd (some_digits (is_digit b) (digits_len z) other h)
    by false false true is other = quoted_last (content false z) (closing false 0 z)
    by false false false is other = mark_last b (slice_index z 0)

-- ---- all tokens

abbrev EndLexemes : List Lexeme → Type 0
EndLexemes [] = ⊥
EndLexemes (x ∷ []) = lasts x.kind ≡ true
EndLexemes (x ∷ y ∷ xs) = EndLexemes (y ∷ xs)

abbrev pub EndsTokens : List Token → Type 0
EndsTokens [] = ⊥
EndsTokens (t ∷ []) = lasts t.kind ≡ true
EndsTokens (t ∷ u ∷ ts) = EndsTokens (u ∷ ts)

lexemes_behind : (x : Lexeme) (xs : List Lexeme) → EndLexemes xs → EndLexemes (x ∷ xs)
lexemes_behind x [] h = absurd h
lexemes_behind x (y ∷ xs) h = h

tokens_behind : (t : Token) (ts : List Token) → EndsTokens ts → EndsTokens (t ∷ ts)
tokens_behind t [] h = absurd h
tokens_behind t (u ∷ ts) h = h

no_token : (z : List ℕ) → z ≡ [] → (front z).1 ≡ 0
unfolding front
no_token z is = rw is refl

-- what is left behind a token is shorter
shorter : (m k : ℕ) (z : List ℕ) → length z ≤ m → (k ≡ 0 → ⊥) → (z ≡ [] → k ≡ 0) → length (drop k z) < m
shorter m k [] le some none = absurd (some (none refl))
shorter m zero (b ∷ z) le some none = absurd (some refl)
shorter m (suc k) (b ∷ z) le some none = let h = length-drop k z in omega (arith, h, le)

lexemes_end : (n : ℕ) (z : List ℕ) (p : Place) → length z < n → EndLexemes (lexemes_from n z p)
unfolding lexemes_from
lexemes_end zero z p lt = absurd (omega (arith, lt))
lexemes_end (suc n) z p lt = by (eqb (front ahead.0).1 0) refl (λ q r l. lexemes_end n q r l)
  where
    ahead : List ℕ × Place
    ahead = skip false z p

    by : (b : Bool) → eqb (front ahead.0).1 0 ≡ b → ((q : List ℕ) (r : Place) → length q < n → EndLexemes (lexemes_from n q r))
        → EndLexemes (lexeme (front ahead.0) ahead ∷ cond b [] (lexemes_from n (drop (front ahead.0).1 ahead.0) (past (front ahead.0).1 ahead.1)))
    by true is ih = front_last ahead.0 (eqb-true (front ahead.0).1 0 is)
    by false is ih =
        let le : length ahead.0 ≤ n = omega (arith, lt, skip_shorter false z p) in
        lexemes_behind (lexeme (front ahead.0) ahead) (lexemes_from n (drop (front ahead.0).1 ahead.0) (past (front ahead.0).1 ahead.1)) (ih (drop (front ahead.0).1 ahead.0) (past (front ahead.0).1 ahead.1) (shorter n (front ahead.0).1 ahead.0 le (λ none. let e : true ≡ false = sym (ap (λ m. eqb m 0) none) ∙ is in cc) (no_token ahead.0)))

token_kind : (names texts : List (List ℕ)) (reads : ℕ) (kind : Kind) (text : List ℕ) (line column : ℕ) → (token_of names texts reads kind text line column).kind ≡ kind
token_kind names texts reads kinds.Int text line column = refl
token_kind names texts reads kinds.Name text line column = refl
token_kind names texts reads kinds.Text text line column = refl
token_kind names texts reads kinds.Read text line column = refl
token_kind names texts reads kind text line column = refl

numbered_end : (names texts : List (List ℕ)) (reads : ℕ) (xs : List Lexeme) → EndLexemes xs → EndsTokens (tokens_after names texts reads xs)
numbered_end names texts reads [] h = absurd h
numbered_end names texts reads (x ∷ []) h = ap lasts (token_kind names texts reads x.kind x.text x.line x.column) ∙ h
numbered_end names texts reads (x ∷ y ∷ xs) h =
    tokens_behind (token_of names texts reads x.kind x.text x.line x.column) (tokens_after (names_with names x.kind x.text) (texts_with texts x.kind x.text) (reads_with reads x.kind) (y ∷ xs))
    (numbered_end (names_with names x.kind x.text) (texts_with texts x.kind x.text) (reads_with reads x.kind) (y ∷ xs) h)

pub tokens_end : (bytes : List ℕ) → EndsTokens (tokens bytes)
tokens_end bytes = numbered_end [] [] 0 (lexemes bytes) (lexemes_end (length bytes + 1) bytes (record { line = 1; column = 1 }) (omega arith))

pub last_kind : (pre : List Token) (t : Token) → EndsTokens (pre ++ t ∷ []) → lasts t.kind ≡ true
last_kind [] t h = h
last_kind (u ∷ []) t h = h
last_kind (u ∷ v ∷ pre) t h = last_kind (v ∷ pre) t h
