-- Which bytes are a program that is run, and what is written of others.
use Rattle.std.specs.Prelude.{◌≡◌, ℕ, List, Ok, Err}
use Rattle.psac_syntax.specs.declared.program.Program.{Program}
use Rattle.psac_grammar.specs.Language.{IsProgram, SyntaxAt, LimitAt}
use Rattle.psac_model.specs.Series.{Fault, meets}
use Rattle.psac_report.specs.Refused.{syntax_line, limit_line, breach_line}
use Rattle.psac_open.specs.declared.refusal.Refusal.{Refusal}
use Rattle.psac_open.specs.declared.refusal.Refusal.TheVariants as refusal

-- a text of the grammar within the limits, whose program meets the series rule
pub record IsAccepted (bytes : List ℕ) (p : Program) : Type 0 where
  pub is_program : IsProgram bytes p
  pub is_met : meets p ≡ Ok tt

-- no program has these bytes
abbrev pub IsNone : List ℕ → Type 0
IsNone bytes = (p : Program) → IsProgram bytes p → ⊥

-- the line of bytes that aren't accepted: of the first fault of the text, or of the program that it is
pub data Refuses (bytes text : List ℕ) : Type 0 where
  Syntax : (line column : ℕ) → IsNone bytes → SyntaxAt bytes line column → text ≡ syntax_line line column → Refuses bytes text
  Limit : (which line : ℕ) → IsNone bytes → LimitAt bytes which line → text ≡ limit_line which line → Refuses bytes text
  Breach : (p : Program) (first : Fault) → IsProgram bytes p → meets p ≡ Err first → text ≡ breach_line first.0 first.1 → Refuses bytes text

-- the line of a refusal is such a line
abbrev pub MeansLine : (List ℕ → Type 0) → Refusal → Type 0
MeansLine is_line (refusal.Line text) = is_line text.items
MeansLine is_line refusal.NoMemory = Unit {0}
