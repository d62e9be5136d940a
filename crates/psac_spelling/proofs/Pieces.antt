-- The pieces of a printed text, and how each is spelled.
use Rattle.std.proofs.Common.{◌≡◌, ℕ, ℤ, ◌<◌, List, [], ◌∷◌, ◌++◌, length}
use Rattle.std.specs.Prelude.{codes, false}
use Rattle.std.specs.Fmt.{signed_decimal}
use Rattle.psac_syntax.specs.declared.program.Program.{Program}
use Rattle.psac_tokens.specs.declared.place.Place.{Place}
use Rattle.psac_tokens.specs.declared.token.Kind.{Kind}
use Rattle.psac_tokens.specs.declared.token.Kind.TheVariants as k
use Rattle.psac_tokens.specs.Lex.{Lexeme, skip, front}
use Rattle.psac_spelling.specs.Canonical.{bytes_at, name_text, quoted}

-- a kind whose tokens have no number and are no name, text or read
abbrev pub Bare : Kind → Type 0
Bare k.Int = ⊥
Bare k.Name = ⊥
Bare k.Text = ⊥
Bare k.Read = ⊥
Bare _ = Unit {0}

-- A token without its place. A name and a text go by their places in the program, a read block by its number.
pub data Piece : Type 0 where
  number : (n : ℤ) → Piece
  name : (place : ℕ) → Piece
  text : (place : ℕ) → Piece
  block : (count : ℕ) → Piece
  plain : (kind : Kind) → Bare kind → Piece

abbrev pub kind_of : Piece → Kind
kind_of (number n) = k.Int
kind_of (name place) = k.Name
kind_of (text place) = k.Text
kind_of (block count) = k.Read
kind_of (plain kind bare) = kind

-- the spelling of a kind that has one alone
abbrev pub kind_text : Kind → List ℕ
kind_text k.Func = codes "func"
kind_text k.Let = codes "let"
kind_text k.New = codes "new"
kind_text k.Write = codes "write"
kind_text k.As = codes "as"
kind_text k.If = codes "if"
kind_text k.Else = codes "else"
kind_text k.Par = codes "par"
kind_text k.Call = codes "call"
kind_text k.True = codes "true"
kind_text k.False = codes "false"
kind_text k.Nil = codes "nil"
kind_text k.Rows = codes "rows"
kind_text k.Cols = codes "cols"
kind_text k.Cell = codes "cell"
kind_text k.And = codes "and"
kind_text k.Or = codes "or"
kind_text k.Not = codes "not"
kind_text k.Neg = codes "neg"
kind_text k.Abs = codes "abs"
kind_text k.Min = codes "min"
kind_text k.Max = codes "max"
kind_text k.Len = codes "len"
kind_text k.Pair = codes "pair"
kind_text k.Fst = codes "fst"
kind_text k.Snd = codes "snd"
kind_text k.LeftBrace = codes "{"
kind_text k.RightBrace = codes "}"
kind_text k.LeftParen = codes "("
kind_text k.RightParen = codes ")"
kind_text k.Semicolon = codes ";"
kind_text k.Comma = codes ","
kind_text k.Assign = codes "="
kind_text k.Equal = codes "=="
kind_text k.Unequal = codes "!="
kind_text k.Less = codes "<"
kind_text k.AtMost = codes "<="
kind_text k.Greater = codes ">"
kind_text k.AtLeast = codes ">="
kind_text k.Plus = codes "+"
kind_text k.Minus = codes "-"
kind_text k.Star = codes "*"
kind_text k.Slash = codes "/"
kind_text k.Percent = codes "%"
kind_text _ = []

abbrev pub spell : Program → Piece → List ℕ
spell p (number n) = signed_decimal n
spell p (name place) = name_text p place
spell p (text place) = quoted (bytes_at p.texts place)
spell p (block count) = codes "read"
spell p (plain kind bare) = kind_text kind

-- The longest token at the front of the text is the piece, whatever the text goes on with.
pub record Fronts (p : Program) (q : Piece) (z : List ℕ) : Type 0 where
  pub still : (at : Place) → skip false (spell p q ++ z) at ≡ (spell p q ++ z, at)
  pub token : front (spell p q ++ z) ≡ (kind_of q, length (spell p q))
  pub some : 0 < length (spell p q)

-- the text is these pieces, with spaces and line feeds before, between and behind them
pub data Spelled : Program → List ℕ → List Piece → Type 0 where
  nothing : (p : Program) → Spelled p [] []
  space : (p : Program) (z : List ℕ) (qs : List Piece) → Spelled p z qs → Spelled p (32 ∷ z) qs
  feed : (p : Program) (z : List ℕ) (qs : List Piece) → Spelled p z qs → Spelled p (10 ∷ z) qs
  piece : (p : Program) (q : Piece) (z : List ℕ) (qs : List Piece) → Fronts p q z → Spelled p z qs → Spelled p (spell p q ++ z) (q ∷ qs)

-- the lexemes are the pieces, and then the end
abbrev pub Lexes : Program → List Piece → List Lexeme → Type 0
Lexes p qs [] = ⊥
Lexes p [] (x ∷ xs) = (x.kind ≡ k.End) × (xs ≡ [])
Lexes p (q ∷ qs) (x ∷ xs) = (x.kind ≡ kind_of q) × (x.text ≡ spell p q) × Lexes p qs xs
