-- The numbers and the places that tokens carry.
use Rattle.std.specs.Prelude.{ℕ, ℤ, pos, ◌+◌, ◌-◌, ◌*◌, ◌^◌, Bool, true, false, ◌==◌, nat_lt, if◌then◌else◌, List, [], ◌∷◌, ◌++◌, length, drop, Option, Some, None}
use Rattle.std.specs.List.{position_or_len}
use Rattle.std.specs.Str.{bytes_eq}
use Rattle.psac_tokens.specs.declared.token.Token.{Token}
use Rattle.psac_tokens.specs.declared.token.Kind.{Kind}
use Rattle.psac_tokens.specs.declared.token.Kind.TheVariants as k
use Rattle.psac_tokens.specs.Lex.{Lexeme, lexemes, content}

-- the number that decimal digits write: each digit counts ten times as much as the one behind it
abbrev pub digits_value : List ℕ → ℕ
digits_value [] = 0
digits_value (digit ∷ more) = (digit - 48) * 10 ^ length more + digits_value more

-- a number below 2^63
abbrev pub in_63 : ℕ → Option ℕ
in_63 n = if nat_lt n (2 ^ 63) then Some n else None

abbrev pub int_of : List ℕ → Option ℕ
int_of digits = in_63 (digits_value digits)

abbrev pub max_name : ℕ
max_name = 32

-- the first place of the word, or the length
abbrev pub place_of : List ℕ → List (List ℕ) → ℕ
place_of word words = position_or_len (bytes_eq word) words

-- a word that is new goes to the end
abbrev pub with_word : List (List ℕ) → List ℕ → List (List ℕ)
with_word words word = if place_of word words == length words then words ++ word ∷ [] else words

abbrev pub names_with : List (List ℕ) → Kind → List ℕ → List (List ℕ)
names_with names k.Name text = with_word names text
names_with names _ text = names

-- the bytes that a TEXT stands for that is spelled so
abbrev pub text_of : List ℕ → List ℕ
text_of spelled = content false (drop 1 spelled)

abbrev pub texts_with : List (List ℕ) → Kind → List ℕ → List (List ℕ)
texts_with texts k.Text spelled = with_word texts (text_of spelled)
texts_with texts _ spelled = texts

abbrev pub reads_with : ℕ → Kind → ℕ
reads_with reads k.Read = reads + 1
reads_with reads _ = reads

abbrev pub number_or_zero : Option ℕ → ℤ
number_or_zero (Some n) = pos n
number_or_zero None = pos 0

abbrev pub is_over : Option ℕ → Bool
is_over (Some n) = false
is_over None = true

abbrev pub plain_token : Kind → ℕ → ℕ → Token
plain_token kind line column = record { kind = kind; number = pos 0; index = 0; line = line; column = column; over = false }

-- a token behind these names and texts and this many reads
abbrev pub token_of : List (List ℕ) → List (List ℕ) → ℕ → Kind → List ℕ → ℕ → ℕ → Token
token_of names texts reads k.Int text line column =
    record { kind = k.Int; number = number_or_zero (int_of text); index = 0; line = line; column = column; over = is_over (int_of text) }
token_of names texts reads k.Name text line column =
    record { kind = k.Name; number = pos 0; index = place_of text names; line = line; column = column; over = nat_lt max_name (length text) }
token_of names texts reads k.Text text line column = record { kind = k.Text; number = pos 0; index = place_of (text_of text) texts; line = line; column = column; over = false }
token_of names texts reads k.Read text line column = record { kind = k.Read; number = pos 0; index = reads; line = line; column = column; over = false }
token_of names texts reads kind text line column = plain_token kind line column

abbrev pub tokens_after : List (List ℕ) → List (List ℕ) → ℕ → List Lexeme → List Token
tokens_after names texts reads [] = []
tokens_after names texts reads (x ∷ xs) =
    token_of names texts reads x.kind x.text x.line x.column ∷ tokens_after (names_with names x.kind x.text) (texts_with texts x.kind x.text) (reads_with reads x.kind) xs

abbrev pub names_after : List (List ℕ) → List Lexeme → List (List ℕ)
names_after names [] = names
names_after names (x ∷ xs) = names_after (names_with names x.kind x.text) xs

abbrev pub texts_after : List (List ℕ) → List Lexeme → List (List ℕ)
texts_after texts [] = texts
texts_after texts (x ∷ xs) = texts_after (texts_with texts x.kind x.text) xs

abbrev pub reads_after : ℕ → List Lexeme → ℕ
reads_after reads [] = reads
reads_after reads (x ∷ xs) = reads_after (reads_with reads x.kind) xs

-- The tokens of a text. A NAME carries its place among the names, a TEXT that of its bytes among the texts, a `read` how many reads stand before it.
abbrev pub tokens : List ℕ → List Token
tokens text = tokens_after [] [] 0 (lexemes text)

-- the names of a text, each once, in the order of first appearance
abbrev pub names : List ℕ → List (List ℕ)
names text = names_after [] (lexemes text)

-- the bytes that the TEXTs of a text stand for, each once, in the order of first appearance
abbrev pub texts : List ℕ → List (List ℕ)
texts text = texts_after [] (lexemes text)

-- how many reads a text has
abbrev pub reads : List ℕ → ℕ
reads text = reads_after 0 (lexemes text)
