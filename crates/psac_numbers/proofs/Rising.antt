-- What rises, and what is a part of it.
use Rattle.std.proofs.Common.{◌≡◌, ◌≢◌, ◌≤◌, ◌<◌, ℕ, ◌+◌, List, [], ◌∷◌, ◌++◌, All, AllPairs, refl, ap, sym, ◌∙◌, subst, inl, inr, arith, append_assoc}
use Rattle.std.proofs.lemmas.List.Elements.{All-nil, All-cons}
use Rattle.std.proofs.lemmas.List.Kept.{AllPairs-cons}
use Rattle.psac_tokens.specs.declared.token.Kind.{Kind}
use Rattle.psac_tokens.specs.declared.token.Kind.TheVariants as k
use Rattle.psac_tokens.specs.declared.token.Token.{Token}
use Rattle.psac_tokens.specs.Lex.{Lexeme}
use Rattle.psac_tokens.specs.Number.{token_of, tokens_after, names_with, texts_with, reads_with}
use Rattle.psac_grammar.specs.Marked.{Marked, plain}
use Rattle.psac_numbers.specs.Rising.{Rising, IsPart, read_number, numbers_in, marked_in}

pub part_behind : (zs xs ys : List ℕ) → IsPart xs ys → IsPart xs (zs ++ ys)
part_behind [] xs ys h = h
part_behind (z ∷ zs) [] ys h = tt
part_behind (z ∷ zs) (x ∷ xs) ys h = inr (part_behind zs (x ∷ xs) ys h)

pub part_both : (a b c d : List ℕ) → IsPart a c → IsPart b d → IsPart (a ++ b) (c ++ d)
part_both [] b c d h k = part_behind c b d k
part_both (x ∷ a) b [] d h k = absurd h
part_both (x ∷ a) b (y ∷ c) d (inl h) k = inl (h.0, part_both a b c d h.1 k)
part_both (x ∷ a) b (y ∷ c) d (inr h) k = inr (part_both (x ∷ a) b c d h k)

lower : (m n : ℕ) (xs : List ℕ) → m ≤ n → Rising n xs → Rising m xs
lower m n [] h k = tt
lower m n (x ∷ xs) h k = let at = k.0 in (omega arith, k.1)

pub part_rising : (n : ℕ) (xs ys : List ℕ) → IsPart xs ys → Rising n ys → Rising n xs
part_rising n [] ys h k = tt
part_rising n (x ∷ xs) [] h k = absurd h
part_rising n (x ∷ xs) (y ∷ ys) (inl h) k =
    (subst (λ z. n ≤ z) (sym h.0) k.0, part_rising (x + 1) xs ys h.1 (subst (λ z. Rising (z + 1) ys) (sym h.0) k.1))
part_rising n (x ∷ xs) (y ∷ ys) (inr h) k = let at = k.0 in lower n (y + 1) (x ∷ xs) (omega arith) (part_rising (y + 1) (x ∷ xs) ys h k.1)

all_above : (x m : ℕ) (ys : List ℕ) → x < m → Rising m ys → All (λ y. x ≢ y) ys
all_above x m [] h k = All-nil (λ y. x ≢ y)
all_above x m (y ∷ ys) h k = let at = k.0 in All-cons (λ z. x ≢ z) y ys (λ e. omega arith) (all_above x (y + 1) ys (omega arith) k.1)

pub rising_distinct : (n : ℕ) (xs : List ℕ) → Rising n xs → AllPairs (λ x y. x ≢ y) xs
rising_distinct n [] h = λ i j d lt within. omega arith
rising_distinct n (x ∷ xs) h = AllPairs-cons (λ a b. a ≢ b) x xs (all_above x (x + 1) xs (omega arith) h.1) (rising_distinct (x + 1) xs h.1)

-- the numbers of the tokens of a text rise
number_is : (names texts : List (List ℕ)) (n : ℕ) (kind : Kind) (text : List ℕ) (line column : ℕ) → (let t : Token = token_of names texts n kind text line column in read_number t.kind t.index) ≡ read_number kind n
number_is names texts n k.Int text line column = refl
number_is names texts n k.Name text line column = refl
number_is names texts n k.Text text line column = refl
number_is names texts n k.Read text line column = refl
number_is names texts n _ text line column = refl

step_rising : (kind : Kind) (n : ℕ) (rest : ℕ → List ℕ) → ((m : ℕ) → Rising m (rest m)) → Rising n (read_number kind n ++ rest (reads_with n kind))
step_rising k.Read n rest h = (omega arith, h (n + 1))
step_rising _ n rest h = h n

pub tokens_rising : (names texts : List (List ℕ)) (n : ℕ) (xs : List Lexeme) → Rising n (numbers_in (tokens_after names texts n xs))
tokens_rising names texts n [] = tt
tokens_rising names texts n (x ∷ xs) =
    subst (λ z. Rising n (z ++ numbers_in (tokens_after (names_with names x.kind x.text) (texts_with texts x.kind x.text) (reads_with n x.kind) xs))) (sym (number_is names texts n x.kind x.text x.line x.column))
    (step_rising x.kind n (λ m. numbers_in (tokens_after (names_with names x.kind x.text) (texts_with texts x.kind x.text) m xs)) (λ m. tokens_rising (names_with names x.kind x.text) (texts_with texts x.kind x.text) m xs))

pub marked_is : (ms : List Marked) → marked_in ms ≡ numbers_in (plain ms)
marked_is [] = refl
marked_is (m ∷ ms) = ap (λ z. read_number m.0.kind m.0.index ++ z) (marked_is ms)

pub marked_append : (a b : List Marked) → marked_in (a ++ b) ≡ marked_in a ++ marked_in b
marked_append [] b = refl
marked_append (m ∷ a) b =
    ap (λ z. read_number m.0.kind m.0.index ++ z) (marked_append a b) ∙ sym (append_assoc (read_number m.0.kind m.0.index) (marked_in a) (marked_in b))
