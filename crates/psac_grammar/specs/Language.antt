-- Which bytes are a program, and which one; and where the first fault of other bytes stands.
use Rattle.std.specs.Prelude.{◌≡◌, ◌≤◌, ◌<◌, ◌⊎◌, ℕ, List, [], ◌∷◌, ◌++◌, length}
use Rattle.psac_syntax.specs.declared.program.Func.{Func}
use Rattle.psac_syntax.specs.declared.program.Program.{Program}
use Rattle.psac_tokens.specs.declared.token.Token.{Token}
use Rattle.psac_tokens.specs.Number.{tokens, names, texts, reads}
use Rattle.psac_grammar.specs.Marked.{Mark, over, late, Marked, AllFine, plain}
use Rattle.psac_grammar.specs.Grammar.{IsText}
use Rattle.psac_grammar.specs.Machine.{first_of}

abbrev pub max_bytes : ℕ
max_bytes = 65536

-- the program of a text with these functions
abbrev pub program : List ℕ → List Func → Program
program bytes fs = record { names = names bytes; texts = texts bytes; funcs = fs; blocks = reads bytes }

-- The bytes are a text of the grammar within the limits, and p is its program.
pub record IsProgram (bytes : List ℕ) (p : Program) : Type 0 where
  pub ms : List Marked
  pub funcs : List Func
  pub short : length bytes ≤ max_bytes
  pub tokens : plain ms ≡ tokens bytes
  pub grammar : IsText ms funcs
  pub limits : AllFine ms
  pub is : p ≡ program bytes funcs

-- the program of some text of the grammar within the limits
abbrev pub IsParsed : Program → Type 0
IsParsed p = (bytes : List ℕ) × IsProgram bytes p

-- A text of the grammar, limits aside, begins with these tokens.
pub record Begins (ts : List Token) : Type 0 where
  pub ms : List Marked
  pub funcs : List Func
  pub more : List Token
  pub grammar : IsText ms funcs
  pub tokens : plain ms ≡ ts ++ more

-- In every text of the grammar that begins with these tokens, none of them exceeds a limit.
abbrev pub WithinLimits : List Token → Type 0
WithinLimits ts = (front back : List Marked) (fs : List Func) → IsText (front ++ back) fs → plain front ≡ ts → AllFine front

-- The tokens before the place begin a text of the grammar, within the limits, and none begins with them and the token at the place.
pub record SyntaxAt (bytes : List ℕ) (line column : ℕ) : Type 0 where
  pub before : List Token
  pub here : Token
  pub behind : List Token
  pub short : length bytes ≤ max_bytes
  pub tokens : tokens bytes ≡ before ++ here ∷ behind
  pub line_is : line ≡ here.line
  pub column_is : column ≡ here.column
  pub begins : Begins before
  pub limits : WithinLimits before
  pub nothing : Begins (before ++ here ∷ []) → ⊥

-- in no text of the grammar that begins with these tokens the last of them makes an expression too deep
abbrev pub EndsNoneTooDeep : List Token → Token → Type 0
EndsNoneTooDeep before t = (front back : List Marked) (fs : List Func) → IsText (front ++ (t, late 5) ∷ back) fs → plain front ≡ before → ⊥

-- The text goes on with the next token, which so decides what the one before it exceeds; or no text does, and it exceeds the lowest that it does in any.
abbrev pub Decides : ℕ → List Token → Token → List Token → List Marked → Type 0
Decides which before t behind back =
    ((more : List Token) × (plain back ≡ first_of behind ∷ more))
    ⊎ ((Begins (before ++ t ∷ first_of behind ∷ []) → ⊥) × ((which ≡ 5) ⊎ EndsNoneTooDeep before t))

-- The token at the place exceeds the limit in a text of the grammar, and none before it exceeds one.
pub record TokenLimitAt (bytes : List ℕ) (which line : ℕ) : Type 0 where
  pub front : List Marked
  pub here : Token
  pub mark : Mark
  pub back : List Marked
  pub funcs : List Func
  pub behind : List Token
  pub short : length bytes ≤ max_bytes
  pub tokens : tokens bytes ≡ plain front ++ here ∷ behind
  pub line_is : line ≡ here.line
  pub grammar : IsText (front ++ (here, mark) ∷ back) funcs
  pub limits : AllFine front
  pub exceeds : (mark ≡ over which) ⊎ ((mark ≡ late which) × Decides which (plain front) here behind back)

abbrev pub TooLong : List ℕ → ℕ → ℕ → Type 0
TooLong bytes which line = (max_bytes < length bytes) × (which ≡ 1) × (line ≡ 1)

-- The text is too long, or a token exceeds the limit first of all.
abbrev pub LimitAt : List ℕ → ℕ → ℕ → Type 0
LimitAt bytes which line = TooLong bytes which line ⊎ TokenLimitAt bytes which line

-- what bytes are, or where their first fault stands
pub data Verdict : Type 0 where
  whole_program : Program → Verdict
  syntax_fault : (line column : ℕ) → Verdict
  limit_fault : (which line : ℕ) → Verdict

abbrev pub Fits : List ℕ → Verdict → Type 0
Fits bytes (whole_program p) = IsProgram bytes p
Fits bytes (syntax_fault line column) = SyntaxAt bytes line column
Fits bytes (limit_fault which line) = LimitAt bytes which line

-- One verdict fits the bytes, and no other.
pub record HasOneVerdict (bytes : List ℕ) : Type 0 where
  pub verdict : Verdict
  pub fits : Fits bytes verdict
  pub only : (other : Verdict) → Fits bytes other → other ≡ verdict
