-- A TEXT is read back from its canonical spelling.
use Rattle.std.proofs.Common.{◌≡◌, ℕ, ◌+◌, Bool, true, false, not, eqb, ◌||◌, List, [], ◌∷◌, ◌++◌, append_assoc, length, length-append, refl, sym, ap, subst, ◌∙◌, arith, Some}
use Rattle.std.specs.Prelude.{◌==◌, flat_map, nat_lt}
use Rattle.std.specs.Str.{is_utf8}
use Rattle.std.proofs.lemmas.Bool.{and_parts, eqb-true}
use Rattle.std.proofs.lemmas.Bool.Decides.{nat_tests}
use Rattle.psac_syntax.specs.declared.program.Program.{Program}
use Rattle.psac_tokens.specs.declared.token.Kind.TheVariants as k
use Rattle.psac_tokens.specs.Lex.{front, closing, content}
use Rattle.psac_spelling.specs.Canonical.{escaped, bytes_at}
use Rattle.psac_spelling.proofs.Pieces.{text, Fronts}
use Rattle.psac_spelling.proofs.Words.{all_pass, fronts_at}

-- a byte that a TEXT may stand for
abbrev pub is_shown : ℕ → Bool
is_shown b = b == 10 || not (nat_lt b 32 || b == 127)

one_content : (b : ℕ) (y : List ℕ) → content false (escaped b ++ y) ≡ b ∷ content false y
one_content b y = by (eqb b 34) (eqb b 92) (eqb b 10) refl refl refl
  where
    by : (q s f : Bool) → eqb b 34 ≡ q → eqb b 92 ≡ s → eqb b 10 ≡ f → content false (escaped b ++ y) ≡ b ∷ content false y
    by true s f q_is s_is f_is = subst (λ c. content false (escaped c ++ y) ≡ c ∷ content false y) (sym (eqb-true b 34 q_is)) refl
    by false true f q_is s_is f_is = subst (λ c. content false (escaped c ++ y) ≡ c ∷ content false y) (sym (eqb-true b 92 s_is)) refl
    by false false true q_is s_is f_is = subst (λ c. content false (escaped c ++ y) ≡ c ∷ content false y) (sym (eqb-true b 10 f_is)) refl
    by false false false q_is s_is f_is = rw (q_is, s_is, f_is) (rw (q_is, s_is) refl)

one_closing : (b at : ℕ) (y : List ℕ) → is_shown b ≡ true → closing false at (escaped b ++ y) ≡ closing false (at + length (escaped b)) y
one_closing b at y shown = by (eqb b 34) (eqb b 92) (eqb b 10) refl refl refl
  where
    by : (q s f : Bool) → eqb b 34 ≡ q → eqb b 92 ≡ s → eqb b 10 ≡ f → closing false at (escaped b ++ y) ≡ closing false (at + length (escaped b)) y
    by true s f q_is s_is f_is = subst (λ c. closing false at (escaped c ++ y) ≡ closing false (at + length (escaped c)) y) (sym (eqb-true b 34 q_is)) (ap (λ n. closing false n y) (omega arith))
    by false true f q_is s_is f_is = subst (λ c. closing false at (escaped c ++ y) ≡ closing false (at + length (escaped c)) y) (sym (eqb-true b 92 s_is)) (ap (λ n. closing false n y) (omega arith))
    by false false true q_is s_is f_is = subst (λ c. closing false at (escaped c ++ y) ≡ closing false (at + length (escaped c)) y) (sym (eqb-true b 10 f_is)) (ap (λ n. closing false n y) (omega arith))
    by false false false q_is s_is f_is =
        let low : (nat_lt b 32 || b == 127) ≡ false = grind (arith, nat_tests) in
        rw (q_is, s_is, f_is) (rw (q_is, s_is, low) refl)

pub content_is : (bs z : List ℕ) → content false (flat_map escaped bs ++ 34 ∷ z) ≡ bs
content_is [] z = refl
content_is (b ∷ bs) z = rw (append_assoc (escaped b) (flat_map escaped bs) (34 ∷ z)) (one_content b (flat_map escaped bs ++ 34 ∷ z) ∙ ap (λ y. b ∷ y) (content_is bs z))

closing_is : (bs z : List ℕ) (at : ℕ) → all_pass is_shown bs ≡ true → closing false at (flat_map escaped bs ++ 34 ∷ z) ≡ Some (at + length (flat_map escaped bs) + 1)
closing_is [] z at h = ap Some (omega arith)
closing_is (b ∷ bs) z at h =
    let parts = and_parts (is_shown b) (all_pass is_shown bs) h in
    rw (append_assoc (escaped b) (flat_map escaped bs) (34 ∷ z)) (one_closing b at (flat_map escaped bs ++ 34 ∷ z) parts.0 ∙ closing_is bs z (at + length (escaped b)) parts.1
    ∙ ap Some (omega (arith, length-append (escaped b) (flat_map escaped bs))))

text_front : (bs z : List ℕ) → is_utf8 bs ≡ true → all_pass is_shown bs ≡ true → front (34 ∷ (flat_map escaped bs ++ 34 ∷ z)) ≡ (k.Text, length (flat_map escaped bs) + 1 + 1)
unfolding front
text_front bs z utf8 shown = rw (content_is bs z, closing_is bs z 0 shown, utf8) (ap (λ (n : ℕ). (k.Text, n)) (omega arith))

pub text_fronts : (p : Program) (place : ℕ) (z : List ℕ) → is_utf8 (bytes_at p.texts place) ≡ true → all_pass is_shown (bytes_at p.texts place) ≡ true → Fronts p (text place) z
text_fronts p place z utf8 shown =
    let bs = bytes_at p.texts place in
    fronts_at p (text place) 34 (flat_map escaped bs ++ 34 ∷ []) z refl refl
    (ap (λ y. front (34 ∷ y)) (append_assoc (flat_map escaped bs) (34 ∷ []) z) ∙ text_front bs z utf8 shown ∙ ap (λ (n : ℕ). (k.Text, n)) (omega (arith, length-append (flat_map escaped bs) (34 ∷ []))))
