-- Tokens: the longest that can be read at each place.
use Rattle.std.specs.Prelude.{◌<◌, ◌^◌, ℕ, zero, suc, ◌+◌, Bool, true, false, not, ◌&&◌, ◌||◌, if◌then◌else◌, ◌==◌, nat_le, nat_lt, List, [], ◌∷◌, take, drop, length, slice_index, codes, Option, Some, None}
use Rattle.std.specs.List.{prefix_len}
use Rattle.std.specs.Str.{bytes_eq, is_utf8}
use Rattle.psac_tokens.specs.declared.place.Place.{Place}
use Rattle.psac_tokens.specs.declared.token.Kind.{Kind}
use Rattle.psac_tokens.specs.declared.token.Kind.TheVariants.{Int, Name, Text, LeftBrace, RightBrace, LeftParen, RightParen, Semicolon, Comma, Assign, Equal, Unequal, Less, AtMost, Greater, AtLeast, Plus, Minus, Star, Slash, Percent, Unreadable, End}
use Rattle.psac_tokens.specs.declared.token.Kind.TheVariants as k

-- this many more bytes can be counted
abbrev pub FitsPlace : ℕ → Place → Type 0
FitsPlace n p = (p.line + n < 2 ^ 32) × (p.column + n < 2 ^ 32)

-- a line feed ends a line
abbrev pub after : ℕ → Place → Place
after b p = if b == 10 then record { line = p.line + 1; column = 1 } else record { line = p.line; column = p.column + 1 }

abbrev pub is_blank : ℕ → Bool
is_blank b = b == 32 || b == 9 || b == 13 || b == 10

-- What is left behind blanks and comments, and its place. A comment ends before a line feed.
abbrev pub skip : Bool → List ℕ → Place → List ℕ × Place
skip in_comment [] p = ([], p)
skip true (b ∷ z) p = skip (not (b == 10)) z (after b p)
skip false (b ∷ z) p = if b == 35 then skip true z (after b p) else (if is_blank b then skip false z (after b p) else (b ∷ z, p))

abbrev pub is_letter : ℕ → Bool
is_letter b = (nat_le 97 b && nat_le b 122) || b == 95

abbrev pub is_digit : ℕ → Bool
is_digit b = nat_le 48 b && nat_le b 57

abbrev pub word_len : List ℕ → ℕ
word_len = prefix_len (λ b. is_letter b || is_digit b)

abbrev pub digits_len : List ℕ → ℕ
digits_len = prefix_len is_digit

abbrev pub same : List ℕ → List ℕ → Bool
same = bytes_eq

abbrev pub lookup : List (List ℕ × Kind) → List ℕ → Kind
lookup [] word = Name
lookup (k ∷ ks) word = if same k.0 word then k.1 else lookup ks word

-- the words that are no names
abbrev pub reserved_words : List (List ℕ × Kind)
reserved_words =
    (codes "func", k.Func) ∷ (codes "let", k.Let) ∷ (codes "new", k.New) ∷ (codes "write", k.Write) ∷ (codes "read", k.Read) ∷ (codes "as", k.As) ∷
    (codes "if", k.If) ∷ (codes "else", k.Else) ∷ (codes "par", k.Par) ∷ (codes "call", k.Call) ∷ (codes "true", k.True) ∷ (codes "false", k.False) ∷
    (codes "nil", k.Nil) ∷ (codes "rows", k.Rows) ∷ (codes "cols", k.Cols) ∷ (codes "cell", k.Cell) ∷ (codes "and", k.And) ∷ (codes "or", k.Or) ∷
    (codes "not", k.Not) ∷ (codes "neg", k.Neg) ∷ (codes "abs", k.Abs) ∷ (codes "min", k.Min) ∷ (codes "max", k.Max) ∷ (codes "len", k.Len) ∷
    (codes "pair", k.Pair) ∷ (codes "fst", k.Fst) ∷ (codes "snd", k.Snd) ∷ []

unfoldable pub reserved : List ℕ → Kind
reserved = lookup reserved_words

-- the length up to the closing quote and with it
abbrev pub closing : Bool → ℕ → List ℕ → Option ℕ
closing is_escaped at [] = None
closing true at (b ∷ z) = if b == 34 || b == 92 || b == 110 then closing false (at + 1) z else None
closing false at (b ∷ z) = if b == 34 then Some (at + 1) else (if b == 92 then closing true (at + 1) z else (if nat_lt b 32 || b == 127 then None else closing false (at + 1) z))

abbrev pub with_equals : ℕ → Kind → Kind → ℕ → Kind × ℕ
with_equals next longer shorter len = if next == 61 then (longer, 2) else (shorter, len)

abbrev pub single : ℕ → Kind
single b =
    if b == 123 then LeftBrace else (if b == 125 then RightBrace else (if b == 40 then LeftParen else (if b == 41 then RightParen else (if b == 59 then Semicolon
    else (if b == 44 then Comma else (if b == 43 then Plus else (if b == 45 then Minus else (if b == 42 then Star else (if b == 47 then Slash
    else (if b == 37 then Percent else Unreadable))))))))))

-- a mark, or no token of length 0
abbrev pub mark : ℕ → ℕ → Kind × ℕ
mark b next =
    if b == 61 then with_equals next Equal Assign 1 else (if b == 60 then with_equals next AtMost Less 1 else (if b == 62 then with_equals next AtLeast Greater 1
    else (if b == 33 then with_equals next Unequal Unreadable 0 else (single b, if b == 123 || b == 125 || b == 40 || b == 41 || b == 59 || b == 44 || b == 43 || b == 45 || b == 42 || b == 47 || b == 37 then 1 else 0))))

-- the bytes that a TEXT stands for, from behind its opening quote on
abbrev pub content : Bool → List ℕ → List ℕ
content is_escaped [] = []
content true (b ∷ z) = (if b == 110 then 10 else b) ∷ content false z
content false (b ∷ z) = if b == 34 then [] else (if b == 92 then content true z else b ∷ content false z)

abbrev pub quoted : List ℕ → Option ℕ → Kind × ℕ
quoted bytes None = (Unreadable, 0)
quoted bytes (Some len) = if is_utf8 bytes then (Text, len + 1) else (Unreadable, 0)

-- the kind and the length of the token at the front
unfoldable pub front : List ℕ → Kind × ℕ
front [] = (End, 0)
front (b ∷ z) =
    if is_letter b then (reserved (take (word_len (b ∷ z)) (b ∷ z)), word_len (b ∷ z)) else (if is_digit b then (Int, digits_len (b ∷ z))
    else (if b == 34 then quoted (content false z) (closing false 0 z) else mark b (slice_index z 0)))

-- a token as it is spelled, with its place; the last one is spelled by nothing
pub record Lexeme : Type 0 where
  pub kind : Kind
  pub text : List ℕ
  pub line : ℕ
  pub column : ℕ

abbrev pub lexeme : Kind × ℕ → List ℕ × Place → Lexeme
lexeme token ahead = record { kind = token.0; text = take token.1 ahead.0; line = ahead.1.line; column = ahead.1.column }

-- No token but a comment holds a line feed.
abbrev pub past : ℕ → Place → Place
past len p = record { line = p.line; column = p.column + len }

-- The tokens from here on, up to the first of length 0; the number bounds them.
unfoldable pub lexemes_from : ℕ → List ℕ → Place → List Lexeme
lexemes_from zero z p = []
lexemes_from (suc n) z p =
    let ahead = skip false z p in
    let token = front ahead.0 in
    lexeme token ahead ∷ (if token.1 == 0 then [] else lexemes_from n (drop token.1 ahead.0) (past token.1 ahead.1))

abbrev pub lexemes : List ℕ → List Lexeme
lexemes z = lexemes_from (length z + 1) z (record { line = 1; column = 1 })
