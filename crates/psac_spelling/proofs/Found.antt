-- What the lexer finds of names and texts.
use Rattle.std.proofs.Common.{◌≡◌, ℕ, suc, zero, ◌+◌, ◌<◌, Bool, true, false, not, cond, ◌&&◌, ◌||◌, List, [], ◌∷◌, take, drop, refl, sym, ap, subst, arith, ◌⊎◌, inl, inr, ◌-◌, Option, Some, None}
use Rattle.std.specs.Prelude.{◌==◌, nat_lt, if◌then◌else◌, slice_index}
use Rattle.std.specs.List.{prefix_len}
use Rattle.std.specs.Str.{is_utf8}
use Rattle.std.proofs.lemmas.Bool.{and_from, not_from_false, cond_both, or_right}
use Rattle.std.proofs.lemmas.Bool.Decides.{nat_tests}
use Rattle.psac_tokens.specs.declared.place.Place.{Place}
use Rattle.psac_tokens.specs.declared.token.Kind.{Kind}
use Rattle.psac_tokens.specs.declared.token.Kind.TheVariants as k
use Rattle.psac_tokens.specs.Lex.{Lexeme, skip, front, closing, content, lookup, reserved_words, reserved, mark, with_equals, single, past, lexeme, lexemes_from, is_letter, is_digit, word_len, digits_len, same}
use Rattle.psac_tokens.specs.Lex as lex
use Rattle.psac_tokens.specs.Number.{text_of}
use Rattle.psac_spelling.proofs.Words.{is_word, all_pass, is_word_text}
use Rattle.psac_spelling.proofs.Quotes.{is_shown}

abbrev pub IsName : List ℕ → Type 0
IsName w = (is_word_text w ≡ true) × (reserved w ≡ k.Name)

abbrev pub IsShown : List ℕ → Type 0
IsShown bs = (is_utf8 bs ≡ true) × (all_pass is_shown bs ≡ true)

-- what a token of this kind is spelled as
abbrev pub Sound : Kind → List ℕ → Type 0
Sound k.Name w = IsName w
Sound k.Text w = IsShown (text_of w)
Sound _ w = Unit {0}

abbrev Quiet : Kind → Type 0
Quiet k.Name = ⊥
Quiet k.Text = ⊥
Quiet _ = Unit {0}

quiet_sound : (kind : Kind) (w : List ℕ) → Quiet kind → Sound kind w
quiet_sound k.Name w h = absurd h
quiet_sound k.Text w h = absurd h
quiet_sound _ w h = tt

-- ---- words

abbrev AllQuiet : List (List ℕ × Kind) → Type 0
AllQuiet [] = Unit {0}
AllQuiet (r ∷ rs) = Quiet r.1 × AllQuiet rs

found_quiet : (rs : List (List ℕ × Kind)) (w : List ℕ) → AllQuiet rs → (lookup rs w ≡ k.Name) ⊎ Quiet (lookup rs w)
found_quiet [] w h = inl refl
found_quiet (r ∷ rs) w h = by (same r.0 w) (found_quiet rs w h.1)
  where
    by : (b : Bool) → (lookup rs w ≡ k.Name) ⊎ Quiet (lookup rs w) → ((if b then r.1 else lookup rs w) ≡ k.Name) ⊎ Quiet (if b then r.1 else lookup rs w)
    by true rest = inr h.0
    by false rest = rest

reserved_quiet : (w : List ℕ) → (reserved w ≡ k.Name) ⊎ Quiet (reserved w)
unfolding reserved
reserved_quiet w = found_quiet reserved_words w (search (arith))

sound_word : (w : List ℕ) → is_word_text w ≡ true → Sound (reserved w) w
sound_word w is = by (reserved_quiet w)
  where
    by : (reserved w ≡ k.Name) ⊎ Quiet (reserved w) → Sound (reserved w) w
    by (inl n) = subst (λ r. Sound r w) (sym n) (is, n)
    by (inr q) = quiet_sound (reserved w) w q

taken_pass : (test : ℕ → Bool) (z : List ℕ) → all_pass test (take (prefix_len test z) z) ≡ true
taken_pass test [] = refl
taken_pass test (b ∷ z) = by (test b) refl (taken_pass test z)
  where
    by : (c : Bool) → test b ≡ c → all_pass test (take (prefix_len test z) z) ≡ true → all_pass test (take (cond c (1 + prefix_len test z) 0) (b ∷ z)) ≡ true
    by true is rest = let one : 1 + prefix_len test z ≡ suc (prefix_len test z) = omega arith in rw (one, is, rest) refl
    by false is rest = refl

front_word : (b : ℕ) (z : List ℕ) → is_letter b ≡ true → is_word_text (take (word_len (b ∷ z)) (b ∷ z)) ≡ true
front_word b z first =
    let one : 1 + prefix_len is_word z ≡ suc (prefix_len is_word z) = omega arith in
    rw (first, one) (rw first (taken_pass is_word z))

-- ---- texts

escaped_shown : (b : ℕ) → (b == 34 || b == 92 || b == 110) ≡ true → is_shown (if b == 110 then 10 else b) ≡ true
escaped_shown b h = cond_both (b == 110) 10 b (λ c. is_shown c ≡ true) (λ is. refl) (λ not. grind (arith, nat_tests))

shown_content : (is_escaped : Bool) (at n : ℕ) (z : List ℕ) → closing is_escaped at z ≡ Some n → all_pass is_shown (content is_escaped z) ≡ true
shown_content is_escaped at n [] h = absurd cc
shown_content true at n (b ∷ z) h = by (b == 34 || b == 92 || b == 110) refl (λ g. shown_content false (at + 1) n z g) h
  where
    by : (c : Bool) → (b == 34 || b == 92 || b == 110) ≡ c → (closing false (at + 1) z ≡ Some n → all_pass is_shown (content false z) ≡ true)
        → (if c then closing false (at + 1) z else None) ≡ Some n → (is_shown (if b == 110 then 10 else b) && all_pass is_shown (content false z)) ≡ true
    by true is rest h = and_from _ _ (escaped_shown b is) (rest h)
    by false is rest h = absurd cc
shown_content false at n (b ∷ z) h = by (b == 34) (b == 92) (nat_lt b 32 || b == 127) refl (λ g. shown_content true (at + 1) n z g) (λ g. shown_content false (at + 1) n z g) h
  where
    by : (q s c : Bool) → (nat_lt b 32 || b == 127) ≡ c → (closing true (at + 1) z ≡ Some n → all_pass is_shown (content true z) ≡ true) → (closing false (at + 1) z ≡ Some n → all_pass is_shown (content false z) ≡ true)
        → (if q then Some (at + 1) else (if s then closing true (at + 1) z else (if c then None else closing false (at + 1) z))) ≡ Some n
        → all_pass is_shown (if q then [] else (if s then content true z else b ∷ content false z)) ≡ true
    by true s c is one more h = refl
    by false true c is one more h = one h
    by false false true is one more h = absurd cc
    by false false false is one more h = and_from _ _ (or_right (b == 10) (not (nat_lt b 32 || b == 127)) (not_from_false (nat_lt b 32 || b == 127) is)) (more h)

-- the bytes up to the closing quote say what it stands for
record Closes (is_escaped : Bool) (at n : ℕ) (z : List ℕ) : Type 0 where
  past : at < n
  same : content is_escaped (take (n - at) z) ≡ content is_escaped z

closes : (is_escaped : Bool) (at n : ℕ) (z : List ℕ) → closing is_escaped at z ≡ Some n → Closes is_escaped at n z
closes is_escaped at n [] h = absurd cc
closes true at n (b ∷ z) h = by (b == 34 || b == 92 || b == 110) (λ g. closes false (at + 1) n z g) h
  where
    by : (c : Bool) → (closing false (at + 1) z ≡ Some n → Closes false (at + 1) n z) → (if c then closing false (at + 1) z else None) ≡ Some n → Closes true at n (b ∷ z)
    by true rest h =
        let r = rest h in
        let low : at < n = omega (arith, r.past) in
        let one : n - at ≡ suc (n - (at + 1)) = omega (arith, r.past) in
        record { past = low; same = rw one (ap (λ y. (if b == 110 then 10 else b) ∷ y) r.same) }
    by false rest h = absurd cc
closes false at n (b ∷ z) h = by (b == 34) refl (b == 92) refl (nat_lt b 32 || b == 127) (λ g. closes true (at + 1) n z g) (λ g. closes false (at + 1) n z g) h
  where
    by : (q : Bool) → (b == 34) ≡ q → (s : Bool) → (b == 92) ≡ s → (c : Bool) → (closing true (at + 1) z ≡ Some n → Closes true (at + 1) n z) → (closing false (at + 1) z ≡ Some n → Closes false (at + 1) n z)
        → (if q then Some (at + 1) else (if s then closing true (at + 1) z else (if c then None else closing false (at + 1) z))) ≡ Some n → Closes false at n (b ∷ z)
    by true q_is s s_is c one more h =
        let e : at + 1 ≡ n = cc in
        let first : n - at ≡ suc (n - (at + 1)) = omega arith in
        record { past = omega arith; same = rw first (rw q_is refl) }
    by false q_is true s_is c one more h =
        let r = one h in
        let first : n - at ≡ suc (n - (at + 1)) = omega (arith, r.past) in
        record { past = omega (arith, r.past); same = rw first (rw (q_is, s_is) r.same) }
    by false q_is false s_is true one more h = absurd cc
    by false q_is false s_is false one more h =
        let r = more h in
        let first : n - at ≡ suc (n - (at + 1)) = omega (arith, r.past) in
        record { past = omega (arith, r.past); same = rw first (rw (q_is, s_is) (ap (λ y. b ∷ y) r.same)) }

-- ---- marks

quiet_marks : (c0 c1 c2 c3 c4 c5 c6 c7 c8 c9 c10 : Bool) → Quiet (cond c0 k.LeftBrace (cond c1 k.RightBrace (cond c2 k.LeftParen (cond c3 k.RightParen (cond c4 k.Semicolon (cond c5 k.Comma (cond c6 k.Plus (cond c7 k.Minus (cond c8 k.Star (cond c9 k.Slash (cond c10 k.Percent k.Unreadable)))))))))))
quiet_marks true c1 c2 c3 c4 c5 c6 c7 c8 c9 c10 = tt
quiet_marks false true c2 c3 c4 c5 c6 c7 c8 c9 c10 = tt
quiet_marks false false true c3 c4 c5 c6 c7 c8 c9 c10 = tt
quiet_marks false false false true c4 c5 c6 c7 c8 c9 c10 = tt
quiet_marks false false false false true c5 c6 c7 c8 c9 c10 = tt
quiet_marks false false false false false true c6 c7 c8 c9 c10 = tt
quiet_marks false false false false false false true c7 c8 c9 c10 = tt
quiet_marks false false false false false false false true c8 c9 c10 = tt
quiet_marks false false false false false false false false true c9 c10 = tt
quiet_marks false false false false false false false false false true c10 = tt
quiet_marks false false false false false false false false false false true = tt
quiet_marks false false false false false false false false false false false = tt

quiet_long : (t : Kind × ℕ) → Quiet t.0 → (m a b c d : Bool) → Quiet (cond a (cond m (k.Equal, 2) (k.Assign, 1)) (cond b (cond m (k.AtMost, 2) (k.Less, 1)) (cond c (cond m (k.AtLeast, 2) (k.Greater, 1)) (cond d (cond m (k.Unequal, 2) (k.Unreadable, 0)) t)))).0
quiet_long t h true true b c d = tt
quiet_long t h false true b c d = tt
quiet_long t h true false true c d = tt
quiet_long t h false false true c d = tt
quiet_long t h true false false true d = tt
quiet_long t h false false false true d = tt
quiet_long t h true false false false true = tt
quiet_long t h false false false false true = tt
quiet_long t h m false false false false = h

quiet_mark : (b next : ℕ) → Quiet (mark b next).0
quiet_mark b next =
    quiet_long _ (quiet_marks (b == 123) (b == 125) (b == 40) (b == 41) (b == 59) (b == 44) (b == 43) (b == 45) (b == 42) (b == 47) (b == 37)) (next == 61) (b == 61) (b == 60) (b == 62) (b == 33)

-- ---- tokens

quoted_sound : (b : ℕ) (z : List ℕ) → Sound (lex.quoted (content false z) (closing false 0 z)).0 (take (lex.quoted (content false z) (closing false 0 z)).1 (b ∷ z))
quoted_sound b z = by (closing false 0 z) refl
  where
    text : (len : ℕ) → closing false 0 z ≡ Some len → is_utf8 (content false z) ≡ true → IsShown (text_of (take (len + 1) (b ∷ z)))
    text len is utf8 =
        let one : len + 1 ≡ suc len = omega arith in
        let whole : len - 0 ≡ len = omega arith in
        let same = subst (λ n. content false (take n z) ≡ content false z) whole (closes false 0 len z is).same in
        rw one (rw same (utf8, shown_content false 0 len z is))

    by : (o : Option ℕ) → closing false 0 z ≡ o → Sound (lex.quoted (content false z) o).0 (take (lex.quoted (content false z) o).1 (b ∷ z))
    by None is = tt
    by (Some len) is = cond_both (is_utf8 (content false z)) (k.Text, len + 1) (k.Unreadable, 0) (λ (t : Kind × ℕ). Sound t.0 (take t.1 (b ∷ z))) (λ utf8. text len is utf8) (λ no. tt)

pub front_sound : (z : List ℕ) → Sound (front z).0 (take (front z).1 z)
unfolding front
front_sound [] = tt
front_sound (b ∷ z) =
    let P : Kind × ℕ → Type 0 = λ (t : Kind × ℕ). Sound t.0 (take t.1 (b ∷ z)) in
    cond_both (is_letter b) _ _ P
    (λ letter. sound_word (take (word_len (b ∷ z)) (b ∷ z)) (front_word b z letter))
    (λ no. cond_both (is_digit b) _ _ P (λ digit. tt) (λ none. cond_both (b == 34) _ _ P (λ quote. quoted_sound b z) (λ other. quiet_sound _ _ (quiet_mark b (slice_index z 0)))))

-- each lexeme is spelled as its kind says
abbrev pub AllSound : List Lexeme → Type 0
AllSound [] = Unit {0}
AllSound (x ∷ xs) = Sound x.kind x.text × AllSound xs

pub all_sound : (n : ℕ) (z : List ℕ) (at : Place) → AllSound (lexemes_from n z at)
unfolding lexemes_from
all_sound zero z at = tt
all_sound (suc n) z at =
    let ahead = skip false z at in
    let token = front ahead.0 in
    (front_sound ahead.0, cond_both (token.1 == 0) [] (lexemes_from n (drop token.1 ahead.0) (past token.1 ahead.1)) AllSound (λ none. tt) (λ some. all_sound n (drop token.1 ahead.0) (past token.1 ahead.1)))
