-- Whole texts: what the machine accepts within the limits, and what it makes of it.
use Rattle.std.proofs.Common.{◌≡◌, ℕ, ◌≤◌, false, List, [], ◌∷◌, length, Option, Some, None, ◌⊎◌, inl, inr, refl, sym, ap, subst, ◌∙◌}
use Rattle.std.proofs.lemmas.List.{append-nil}
use Rattle.psac_syntax.specs.declared.program.Func.{Func}
use Rattle.psac_syntax.specs.declared.program.Program.{Program}
use Rattle.psac_tokens.specs.Number.{tokens}
use Rattle.psac_grammar.specs.Marked.{fine, over, late, Marked, plain, AllFine}
use Rattle.psac_grammar.specs.Grammar.{IsText}
use Rattle.psac_grammar.specs.Language.{IsProgram, program, max_bytes}
use Rattle.psac_grammar.specs.Machine.{last, Item, of_funcs, Behind, nothing_behind, behind, Answer, accepted, failed, Counted, no_limits, all_limits, settled, done, start, begun, step, run_with}
use Rattle.psac_grammar.proofs.Through.{through}
use Rattle.psac_grammar.proofs.Bodies.{text_follows}
use Rattle.psac_grammar.proofs.Sound.{accepted_text}
use Rattle.psac_grammar.proofs.Same.{Limited, run_same}

-- what there is behind the last token of a text
unfoldable pub at_end : (c : Counted) (fs : List Func) (l : Behind) → Answer
at_end c fs l = run_with c [] l [] (of_funcs fs ∷ [])

pub text_read : (c : Counted) (ms : List Marked) (fs : List Func) → IsText ms fs → run_with c (plain ms) nothing_behind start begun ≡ through c nothing_behind ms [] (at_end c fs)
unfolding at_end
text_read c ms fs good =
    let h = text_follows c ms fs good in
    ap (λ r. run_with c r nothing_behind start begun) (sym (append-nil (plain ms))) ∙ h.runs nothing_behind

end_fine : (c : Counted) (fs : List Func) (l : Behind) → l.late ≡ None → at_end c fs l ≡ accepted (of_funcs fs ∷ [])
unfolding at_end run_with step
end_fine c fs l h = rw h refl

pub lax_end : (fs : List Func) (l : Behind) → at_end no_limits fs l ≡ accepted (of_funcs fs ∷ [])
unfolding at_end run_with step
lax_end fs l = by l.late
  where
    by : (o : Option ℕ) → last (settled false o l.line (done (of_funcs fs ∷ []))) ≡ accepted (of_funcs fs ∷ [])
    by None = refl
    by (Some w) = refl

fine_through : (fs : List Func) (l : Behind) (ms : List Marked) → l.late ≡ None → AllFine ms → through all_limits l ms [] (at_end all_limits fs) ≡ accepted (of_funcs fs ∷ [])
fine_through fs l [] h all = end_fine all_limits fs l h
fine_through fs l ((t, fine) ∷ ms) h all = rw h (fine_through fs (behind t fine) ms refl all.1)
fine_through fs l ((t, over w) ∷ ms) h all = absurd (let e : over w ≡ fine = all.0 in cc)
fine_through fs l ((t, late w) ∷ ms) h all = absurd (let e : late w ≡ fine = all.0 in cc)

pub text_accepted : (ms : List Marked) (fs : List Func) → IsText ms fs → AllFine ms → run_with all_limits (plain ms) nothing_behind start begun ≡ accepted (of_funcs fs ∷ [])
text_accepted ms fs good limits = text_read all_limits ms fs good ∙ fine_through fs nothing_behind ms refl limits

-- Where the machine accepts, no token exceeds a limit.
late_end : (fs : List Func) (w line : ℕ) (ws : List Item) → at_end all_limits fs (record { line = line; late = Some w }) ≡ accepted ws → ⊥
unfolding at_end run_with step
late_end fs w line ws h = cc

late_on : (fs : List Func) (w line : ℕ) (ms : List Marked) (ws : List Item) → through all_limits (record { line = line; late = Some w }) ms [] (at_end all_limits fs) ≡ accepted ws → ⊥
late_on fs w line [] ws h = late_end fs w line ws h
late_on fs w line ((t, m) ∷ ms) ws h = cc

all_fine : (fs : List Func) (o : Option ℕ) (line : ℕ) (ms : List Marked) (ws : List Item) → through all_limits (record { line = line; late = o }) ms [] (at_end all_limits fs) ≡ accepted ws → AllFine ms
all_fine fs o line [] ws h = tt
all_fine fs (Some w) line ((t, m) ∷ ms) ws h = absurd cc
all_fine fs None line ((t, fine) ∷ ms) ws h = (refl, all_fine fs None t.line ms ws h)
all_fine fs None line ((t, over w) ∷ ms) ws h = absurd cc
all_fine fs None line ((t, late w) ∷ ms) ws h = absurd (late_on fs w t.line ms ws h)

funcs_are : (fs gs : List Func) → of_funcs fs ∷ [] ≡ of_funcs gs ∷ [] → fs ≡ gs
funcs_are fs gs e = cc

-- The bytes of which the machine makes these functions are a program.
pub accepted_program : (bytes : List ℕ) (fs : List Func) → length bytes ≤ max_bytes → run_with all_limits (tokens bytes) nothing_behind start begun ≡ accepted (of_funcs fs ∷ []) → IsProgram bytes (program bytes fs)
accepted_program bytes fs short h = by (run_same all_limits no_limits (tokens bytes) nothing_behind start begun (tt, tt))
  where
    from : run_with all_limits (tokens bytes) nothing_behind start begun ≡ run_with no_limits (tokens bytes) nothing_behind start begun → IsProgram bytes (program bytes fs)
    from same =
        let a = accepted_text (tokens bytes) nothing_behind (of_funcs fs ∷ []) (sym same ∙ h) in
        let t = a.text in
        let is : a.fs ≡ fs = funcs_are a.fs fs a.is in
        let P : List Func → Type 0 = λ gs. IsText t.ms gs in
        let grammar = subst P is t.grammar in
        record {
          ms = t.ms;
          funcs = fs;
          short = short;
          tokens = t.tokens;
          grammar = grammar;
          limits = all_fine fs None 0 t.ms (of_funcs fs ∷ []) (sym (text_read all_limits t.ms fs grammar) ∙ ap (λ r. run_with all_limits r nothing_behind start begun) t.tokens ∙ h);
          is = refl;
        }

    by : Limited (run_with all_limits (tokens bytes) nothing_behind start begun) ⊎ (run_with all_limits (tokens bytes) nothing_behind start begun ≡ run_with no_limits (tokens bytes) nothing_behind start begun) → IsProgram bytes (program bytes fs)
    by (inl x) = absurd (let no : failed x.0 x.1 ≡ accepted (of_funcs fs ∷ []) = sym x.2 ∙ h in cc)
    by (inr same) = from same

-- Of a program the machine makes its functions.
pub program_accepted : (bytes : List ℕ) (p : Program) (x : IsProgram bytes p) → run_with all_limits (tokens bytes) nothing_behind start begun ≡ accepted (of_funcs x.funcs ∷ [])
program_accepted bytes p x = ap (λ r. run_with all_limits r nothing_behind start begun) (sym x.tokens) ∙ text_accepted x.ms x.funcs x.grammar x.limits

accepted_is : (fs gs : List Func) (a : Answer) → a ≡ accepted (of_funcs fs ∷ []) → a ≡ accepted (of_funcs gs ∷ []) → fs ≡ gs
accepted_is fs gs a i j = let e : accepted (of_funcs fs ∷ []) ≡ accepted (of_funcs gs ∷ []) = sym i ∙ j in cc

-- The bytes determine the program.
pub one_program : (bytes : List ℕ) (p q : Program) → IsProgram bytes p → IsProgram bytes q → p ≡ q
one_program bytes p q x y =
    x.is ∙ ap (program bytes) (accepted_is x.funcs y.funcs (run_with all_limits (tokens bytes) nothing_behind start begun) (program_accepted bytes p x) (program_accepted bytes q y)) ∙ sym y.is
