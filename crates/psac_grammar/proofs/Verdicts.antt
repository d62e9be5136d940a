-- One verdict fits each list of bytes: what the machine answers.
use Rattle.std.proofs.Common.{◌≡◌, ℕ, ◌<◌, ◌≤◌, leb, true, false, List, [], ◌∷◌, length, ◌⊎◌, inl, inr, refl, sym, ap, ◌∙◌, arith}
use Rattle.std.proofs.lemmas.Bool.Decides.{leb_tells}
use Rattle.psac_syntax.specs.declared.program.Func.{Func}
use Rattle.psac_tokens.specs.declared.token.Token.{Token}
use Rattle.psac_tokens.specs.Number.{tokens}
use Rattle.psac_grammar.specs.Language.{program, Verdict, whole_program, syntax_fault, limit_fault, Fits, HasOneVerdict, max_bytes}
use Rattle.psac_grammar.specs.Machine.{Item, of_funcs, syntax, limit, Answer, accepted, failed, no_limits, all_limits, nothing_behind, start, begun, run_with}
use Rattle.psac_grammar.proofs.Same.{Limited, run_same}
use Rattle.psac_grammar.proofs.Sound.{accepted_text}
use Rattle.psac_grammar.proofs.Whole.{accepted_program, program_accepted}
use Rattle.psac_grammar.proofs.Places.{syntax_place, limit_place}
use Rattle.psac_grammar.proofs.Exact.{syntax_answer, limit_answer}

abbrev answer : List ℕ → Answer
answer bytes = run_with all_limits (tokens bytes) nothing_behind start begun

-- what the machine accepts is what was built of functions
accepted_funcs : (bytes : List ℕ) (ws : List Item) → answer bytes ≡ accepted ws → (fs : List Func) × (answer bytes ≡ accepted (of_funcs fs ∷ []))
accepted_funcs bytes ws h = by (run_same all_limits no_limits (tokens bytes) nothing_behind start begun (tt, tt))
  where
    by : Limited (answer bytes) ⊎ (answer bytes ≡ run_with no_limits (tokens bytes) nothing_behind start begun) → (fs : List Func) × (answer bytes ≡ accepted (of_funcs fs ∷ []))
    by (inl x) = absurd (let e : failed x.0 x.1 ≡ accepted ws = sym x.2 ∙ h in cc)
    by (inr same) = let a = accepted_text (tokens bytes) nothing_behind ws (sym same ∙ h) in (a.fs, h ∙ ap accepted (sym a.is))

funcs_same : {fs gs : List Func} → accepted (of_funcs fs ∷ []) ≡ accepted (of_funcs gs ∷ []) → fs ≡ gs
funcs_same h = cc

-- a program, and nothing else
of_program : (bytes : List ℕ) (fs : List Func) → length bytes ≤ max_bytes → answer bytes ≡ accepted (of_funcs fs ∷ []) → HasOneVerdict bytes
of_program bytes fs short h = record { verdict = whole_program (program bytes fs); fits = accepted_program bytes fs short h; only = only }
  where
    only : (other : Verdict) → Fits bytes other → other ≡ whole_program (program bytes fs)
    only (whole_program p) x = ap whole_program (x.is ∙ ap (program bytes) (funcs_same (sym (program_accepted bytes p x) ∙ h)))
    only (syntax_fault line column) x = absurd (let y = syntax_answer bytes line column x in let e : failed (syntax line column) y.0 ≡ accepted (of_funcs fs ∷ []) = sym y.1 ∙ h in cc)
    only (limit_fault which line) (inl x) = absurd (omega (arith, short, x.0))
    only (limit_fault which line) (inr x) = absurd (let y = limit_answer bytes which line x in let e : failed (limit which line) y.0 ≡ accepted (of_funcs fs ∷ []) = sym y.1 ∙ h in cc)

syntax_same : {i j a b : ℕ} {xs ys : List Token} → failed (syntax i j) xs ≡ failed (syntax a b) ys → syntax_fault i j ≡ syntax_fault a b
syntax_same {i} {j} {a} {b} {xs} {ys} h = let x : i ≡ a = cc in let y : j ≡ b = cc in cc

limit_same : {i j a b : ℕ} {xs ys : List Token} → failed (limit i j) xs ≡ failed (limit a b) ys → limit_fault i j ≡ limit_fault a b
limit_same {i} {j} {a} {b} {xs} {ys} h = let x : i ≡ a = cc in let y : j ≡ b = cc in cc

of_syntax : (bytes : List ℕ) (i j : ℕ) (left : List Token) → length bytes ≤ max_bytes → answer bytes ≡ failed (syntax i j) left → HasOneVerdict bytes
of_syntax bytes i j left short h = record { verdict = syntax_fault i j; fits = syntax_place bytes i j left short h; only = only }
  where
    only : (other : Verdict) → Fits bytes other → other ≡ syntax_fault i j
    only (whole_program p) x = absurd (let e : accepted (of_funcs x.funcs ∷ []) ≡ failed (syntax i j) left = sym (program_accepted bytes p x) ∙ h in cc)
    only (syntax_fault line column) x = let y = syntax_answer bytes line column x in syntax_same (sym y.1 ∙ h)
    only (limit_fault which line) (inl x) = absurd (omega (arith, short, x.0))
    only (limit_fault which line) (inr x) = absurd (let y = limit_answer bytes which line x in let e : failed (limit which line) y.0 ≡ failed (syntax i j) left = sym y.1 ∙ h in cc)

of_limit : (bytes : List ℕ) (i j : ℕ) (left : List Token) → length bytes ≤ max_bytes → answer bytes ≡ failed (limit i j) left → HasOneVerdict bytes
of_limit bytes i j left short h = record { verdict = limit_fault i j; fits = limit_place bytes i j left short h; only = only }
  where
    only : (other : Verdict) → Fits bytes other → other ≡ limit_fault i j
    only (whole_program p) x = absurd (let e : accepted (of_funcs x.funcs ∷ []) ≡ failed (limit i j) left = sym (program_accepted bytes p x) ∙ h in cc)
    only (syntax_fault line column) x = absurd (let y = syntax_answer bytes line column x in let e : failed (syntax line column) y.0 ≡ failed (limit i j) left = sym y.1 ∙ h in cc)
    only (limit_fault which line) (inl x) = absurd (omega (arith, short, x.0))
    only (limit_fault which line) (inr x) = let y = limit_answer bytes which line x in limit_same (sym y.1 ∙ h)

too_long : (bytes : List ℕ) → max_bytes < length bytes → HasOneVerdict bytes
too_long bytes long = record { verdict = limit_fault 1 1; fits = inl (long, refl, refl); only = only }
  where
    only : (other : Verdict) → Fits bytes other → other ≡ limit_fault 1 1
    only (whole_program p) x = absurd (omega (arith, long, x.short))
    only (syntax_fault line column) x = absurd (omega (arith, long, x.short))
    only (limit_fault which line) (inl x) = rw (x.1, x.2) refl
    only (limit_fault which line) (inr x) = absurd (omega (arith, long, x.short))

pub one_verdict : (bytes : List ℕ) → HasOneVerdict bytes
one_verdict bytes = by (leb_tells (length bytes) max_bytes)
  where
    said : (a : Answer) → length bytes ≤ max_bytes → answer bytes ≡ a → HasOneVerdict bytes
    said (accepted ws) short h = let y = accepted_funcs bytes ws h in of_program bytes y.0 short y.1
    said (failed (syntax i j) left) short h = of_syntax bytes i j left short h
    said (failed (limit i j) left) short h = of_limit bytes i j left short h

    by : ((leb (length bytes) max_bytes ≡ true) × (length bytes ≤ max_bytes)) ⊎ ((leb (length bytes) max_bytes ≡ false) × (max_bytes < length bytes)) → HasOneVerdict bytes
    by (inl x) = said (answer bytes) x.1 refl
    by (inr x) = too_long bytes x.1
