-- The answer of a whole text.
use Rattle.std.proofs.Common.{◌≡◌, ◌≤◌, ℕ, List, [], ◌∷◌, length, sym, ap, ◌∙◌}
use Rattle.psac_syntax.specs.declared.program.Func.{Func}
use Rattle.psac_syntax.specs.declared.program.Program.{Program}
use Rattle.psac_tokens.specs.declared.token.Token.{Token}
use Rattle.psac_tokens.specs.Number.{tokens}
use Rattle.psac_grammar.specs.Language.{IsProgram, program, max_bytes, SyntaxAt, LimitAt}
use Rattle.psac_grammar.specs.Machine.{of_funcs, Fault, syntax, limit, accepted, failed, start, begun, nothing_behind, all_limits, run_with}
use Rattle.psac_grammar.proofs.Places.{syntax_place, limit_place}
use Rattle.psac_grammar.proofs.Whole.{program_accepted}

module _ (bytes : List ℕ) (p : Program) (x : IsProgram bytes p) where
  pub not_failed : (f : Fault) (left : List Token) → run_with all_limits (tokens bytes) nothing_behind start begun ≡ failed f left → ⊥
  not_failed f left h = let no : failed f left ≡ accepted (of_funcs x.funcs ∷ []) = sym h ∙ program_accepted bytes p x in cc

  funcs_are : (fs : List Func) → run_with all_limits (tokens bytes) nothing_behind start begun ≡ accepted (of_funcs fs ∷ []) → x.funcs ≡ fs
  funcs_are fs h = let e : accepted (of_funcs x.funcs ∷ []) ≡ accepted (of_funcs fs ∷ []) = sym (program_accepted bytes p x) ∙ h in cc

  pub is_program : (fs : List Func) → run_with all_limits (tokens bytes) nothing_behind start begun ≡ accepted (of_funcs fs ∷ []) → p ≡ program bytes fs
  is_program fs h = x.is ∙ ap (program bytes) (funcs_are fs h)

pub at_place : (bytes : List ℕ) (line column l k : ℕ) (left : List Token) → length bytes ≤ max_bytes → run_with all_limits (tokens bytes) nothing_behind start begun ≡ failed (syntax line column) left → line ≡ l → column ≡ k → SyntaxAt bytes l k
at_place bytes line column l k left short h a b = rw (← a, ← b) (syntax_place bytes line column left short h)

pub at_limit : (bytes : List ℕ) (which line w l : ℕ) (left : List Token) → length bytes ≤ max_bytes → run_with all_limits (tokens bytes) nothing_behind start begun ≡ failed (limit which line) left → which ≡ w → line ≡ l → LimitAt bytes w l
at_limit bytes which line w l left short h a b = rw (← a, ← b) (limit_place bytes which line left short h)
