-- Where all is accepted and nothing failed, all is done, or the script is too long, or memory is wanting.
use Rattle.std.proofs.Common.{◌≡◌, ◌⊎◌, inl, inr, sym, ap, ◌∙◌, subst, arith, ℕ, List, Option, Some, None, Result, Ok, Err}
use Rattle.psac_base.specs.Outside.{IsFile}
use Rattle.psac_syntax.specs.declared.program.Program.{Program}
use Rattle.psac_grammar.proofs.Whole.{one_program}
use Rattle.psac_model.specs.Series.{Fault, meets}
use Rattle.psac_command.specs.Asked.{Asked}
use Rattle.psac_open.specs.Accept.{Breach, IsAccepted, Limit, Refuses, Syntax}
use Rattle.psac_open.specs.Loaded.{Files, Words}
use Rattle.psac_run.specs.Reported.{Answers, AreAccepted, HasText, InputRefused, IsInputFile, IsStatus, ProgramRefused, Report, Reported, Usage, Wrote}

same_asked : (a b : Asked) → Some a ≡ Some b → a ≡ b
same_asked a b e = cc

none_asked : (a : Asked) → Some a ≡ None → ⊥
none_asked a e = cc

ok_not_err : (r : Result (Unit {0}) Fault) (first : Fault) → r ≡ Ok tt → r ≡ Err first → ⊥
ok_not_err r first ok broken = let e : Ok tt ≡ Err first = sym ok ∙ broken in cc

not_met : (p q : Program) (first : Fault) → p ≡ q → meets p ≡ Ok tt → meets q ≡ Err first → ⊥
not_met p q first same met broken = ok_not_err (meets p) first met (ap meets same ∙ broken)

-- bytes that are accepted aren't refused
accepted_not_refused : (bytes text : List ℕ) (p : Program) → IsAccepted bytes p → Refuses bytes text → ⊥
accepted_not_refused bytes text p is (Syntax line column none at told) = none p is.is_program
accepted_not_refused bytes text p is (Limit which line none at told) = none p is.is_program
accepted_not_refused bytes text p is (Breach q first program broken told) = not_met p q first (one_program bytes p q is.is_program program) is.is_met broken

five_not_four : (status : ℕ) → status ≡ 5 → status ≡ 4 → ⊥
five_not_four status five four = absurd (omega arith)

input_file : (status : ℕ) (files : Files) (a : Asked) (input : List ℕ) → status ≡ 5 → (status ≡ 4) ⊎ IsInputFile files (Some a) input → IsFile files a.input input
input_file status files a input five (inl four) = absurd (five_not_four status five four)
input_file status files a input five (inr is_input) = is_input

zero_of : (report : Report) (status : ℕ) (text : List ℕ) (files : Files) (a : Asked) (program input script : List ℕ)
    → ((bytes : List ℕ) → IsFile files a.program bytes → (p : Program) × IsAccepted bytes p)
    → AreAccepted files (Some a) → IsFile files a.program program → (status ≡ 4) ⊎ IsInputFile files (Some a) input
    → Answers report (Some a) program input script status text → status ≡ 0
zero_of report status text files a program input script takes accepted is_program is_input
    (Usage none two same) = absurd (none_asked a none)
zero_of report status text files a program input script takes accepted is_program is_input
    (ProgramRefused b words refuses four) =
    let told = takes program is_program in absurd (accepted_not_refused program text told.0 told.1 refuses)
zero_of report status text files a program input script takes accepted is_program is_input
    (InputRefused b p words is refuses five) =
    let same : accepted.asked ≡ b = same_asked accepted.asked b (sym accepted.words_are ∙ words) in
    let own : a ≡ b = same_asked a b words in
    let file : IsFile files accepted.asked.input input =
    subst (λ (x : Asked). IsFile files x.input input) (own ∙ sym same) (input_file status files a input five is_input)
    in
    absurd (accepted.input input text p file (rw same refuses))
zero_of report status text files a program input script takes accepted is_program is_input
    (Reported b p w g texts words is opens zero told) = zero

pub zero : (report : Report) (status : ℕ) (files : Files) (words : Words) (told before now : Option (List ℕ))
    → AreAccepted files words
    → Wrote report status files words told before now → status ≡ 0
zero report status files None told before now accepted wrote = absurd
    (let e : None ≡ Some accepted.asked = accepted.words_are in cc)
zero report status files (Some a) told before now accepted wrote =
    let own : accepted.asked ≡ a = sym (same_asked a accepted.asked accepted.words_are) in
    zero_of report status wrote.text files a wrote.is_answer.program wrote.is_answer.input wrote.is_answer.script
    (subst (λ (x : Asked). (bytes : List ℕ) → IsFile files x.program bytes → (p : Program) × IsAccepted bytes p) own
    accepted.program)
    accepted wrote.is_answer.program_is wrote.is_answer.input_is wrote.is_answer.answer

pub complete : (report : Report) (code : ℕ) (files : Files) (words : Words) (told before now : Option (List ℕ))
    (failed broke rose : Type 0)
    → IsStatus code → (HasText code → Wrote report code files words told before now) → (code ≡ 3 → failed)
    → (code ≡ 6 → broke) → (code ≡ 7 → rose)
    → AreAccepted files words → (failed → ⊥) → (broke → ⊥) → (rose → ⊥) → (code ≡ 0) ⊎ (code ≡ 8) ⊎ (code ≡ 9)
complete report code files words told before now failed broke rose (inl text) wrote shelf source sink accepted fine
    whole well =
    inl (zero report code files words told before now accepted (wrote text))
complete report code files words told before now failed broke rose (inr (inl (inl e))) wrote shelf source sink accepted
    fine whole well = absurd (whole (source e))
complete report code files words told before now failed broke rose (inr (inl (inr (inl e)))) wrote shelf source sink
    accepted fine whole well = absurd (well (sink e))
complete report code files words told before now failed broke rose (inr (inl (inr (inr e)))) wrote shelf source sink
    accepted fine whole well = inr (inl e)
complete report code files words told before now failed broke rose (inr (inr (inl e))) wrote shelf source sink accepted
    fine whole well = absurd (fine (shelf e))
complete report code files words told before now failed broke rose (inr (inr (inr e))) wrote shelf source sink accepted
    fine whole well = inr (inr e)
