-- Where the program is accepted and nothing failed, the report is written, or memory is wanting.
use Rattle.std.proofs.Common.{◌≡◌, ◌⊎◌, inl, inr, sym, ap, ◌∙◌, ℕ, List, Option, Some, None, Ok, Err}
use Rattle.psac_base.specs.Outside.{IsFile}
use Rattle.psac_syntax.specs.declared.program.Program.{Program}
use Rattle.psac_grammar.proofs.Whole.{one_program}
use Rattle.psac_model.specs.Series.{Fault, meets}
use Rattle.psac_command.specs.Bench.{BenchAsked}
use Rattle.psac_open.specs.Accept.{Breach, IsAccepted, Limit, Refuses, Syntax}
use Rattle.psac_open.specs.Loaded.{Files}
use Rattle.psac_bench.specs.Answer.{Answers, HasText, IsAcceptedBench, IsStatus, Refused, Reported, Usage, Words, Wrote}

none_asked : (a : BenchAsked) → Some a ≡ None → ⊥
none_asked a e = cc

not_met : (p q : Program) (first : Fault) → p ≡ q → meets p ≡ Ok tt → meets q ≡ Err first → ⊥
not_met p q first same met broken = let e : Ok tt ≡ Err first = sym met ∙ ap meets same ∙ broken in cc

-- bytes that are accepted aren't refused
accepted_not_refused : (bytes text : List ℕ) (p : Program) → IsAccepted bytes p → Refuses bytes text → ⊥
accepted_not_refused bytes text p is (Syntax line column none at told) = none p is.is_program
accepted_not_refused bytes text p is (Limit which line none at told) = none p is.is_program
accepted_not_refused bytes text p is (Breach q first program broken told) = not_met p q first (one_program bytes p q is.is_program program) is.is_met broken

zero_of : (status : ℕ) (text program : List ℕ) (a : BenchAsked) → (p : Program) × IsAccepted program p → Answers (Some a) program status text → status ≡ 0
zero_of status text program a accepted (Usage none two same) = absurd (none_asked a none)
zero_of status text program a accepted (Refused b words refuses four) = absurd (accepted_not_refused program text accepted.0 accepted.1 refuses)
zero_of status text program a accepted (Reported b p words is report zero) = zero

zero : (status : ℕ) (files : Files) (words : Words) (before now : Option (List ℕ)) → IsAcceptedBench files words → Wrote status files words before now → status ≡ 0
zero status files None before now accepted wrote = absurd (let e : None ≡ Some accepted.asked = accepted.words_are in cc)
zero status files (Some a) before now accepted wrote =
    let own : a ≡ accepted.asked = let e : Some a ≡ Some accepted.asked = accepted.words_are in cc in
    let file : IsFile files accepted.asked.program wrote.is_answer.program = rw own at wrote.is_answer.program_is in
    zero_of status wrote.text wrote.is_answer.program a (accepted.program wrote.is_answer.program file) wrote.is_answer.answer

pub complete : (code : ℕ) (files : Files) (words : Words) (before now : Option (List ℕ)) (failed rose : Type 0)
    → IsStatus code → (HasText code → Wrote code files words before now) → (code ≡ 3 → failed) → (code ≡ 7 → rose)
    → IsAcceptedBench files words → (failed → ⊥) → (rose → ⊥) → (code ≡ 0) ⊎ (code ≡ 9)
complete code files words before now failed rose (inl text) wrote shelf sink accepted fine well = inl (zero code files words before now accepted (wrote text))
complete code files words before now failed rose (inr (inl e)) wrote shelf sink accepted fine well = absurd (fine (shelf e))
complete code files words before now failed rose (inr (inr (inl e))) wrote shelf sink accepted fine well = absurd (well (sink e))
complete code files words before now failed rose (inr (inr (inr e))) wrote shelf sink accepted fine well = inr e
