-- What was written where a bench ends with a text.
use Rattle.std.proofs.Common.{◌≡◌, ◌⊎◌, inl, inr, ℕ, List, Option, Some, refl, arith, subst}
use Rattle.psac_base.specs.Outside.{Appended, AppendedPart, IsFile}
use Rattle.psac_syntax.specs.declared.program.Program.{Program}
use Rattle.psac_command.specs.Bench.{BenchAsked}
use Rattle.psac_open.specs.Accept.{IsAccepted}
use Rattle.psac_open.specs.Loaded.{Files}
use Rattle.psac_bench.specs.Answer.{HasText, IsAnswer, IsReport, Reported, Words, Wrote, WrotePart}
use Rattle.psac_bench.specs.Made.{WroteReport, WroteReportPart}

seven_has_none : HasText 7 → ⊥
seven_has_none (inl e) = absurd (omega arith)
seven_has_none (inr (inl e)) = absurd (omega arith)
seven_has_none (inr (inr e)) = absurd (omega arith)

nine_has_none : HasText 9 → ⊥
nine_has_none (inl e) = absurd (omega arith)
nine_has_none (inr (inl e)) = absurd (omega arith)
nine_has_none (inr (inr e)) = absurd (omega arith)

pub wrote : (code status : ℕ) (text told : List ℕ) (files : Files) (words : Words) (before now : Option (List ℕ)) → text ≡ told
    → IsAnswer status text files words → (code ≡ status) ⊎ (code ≡ 7) → (code ≡ status → Appended before now told)
    → HasText code → Wrote code files words before now
wrote code status text told files words before now same answer (inl is) whole has =
    rw is (record { text = told; is_answer = subst (λ t. IsAnswer status t files words) same answer; written = whole is })
wrote code status text told files words before now same answer (inr seven) whole has = absurd (seven_has_none (rw seven at has))

pub wrote_first : (status : ℕ) (text told : List ℕ) (files : Files) (words : Words) (before now : Option (List ℕ)) → text ≡ told
    → IsAnswer status text files words → AppendedPart before now told → WrotePart files words before now
wrote_first status text told files words before now same answer part =
    record { status = status; text = told; is_answer = subst (λ t. IsAnswer status t files words) same answer; written = part }

reported : (files : Files) (a : BenchAsked) (p : Program) (bytes text : List ℕ) → IsFile files a.program bytes → IsAccepted bytes p → IsReport p a text → IsAnswer 0 text files (Some a)
reported files a p bytes text file accepted report =
    record { program = bytes; answer = Reported a p refl accepted report refl; program_is = file }

pub wrote_report : (code : ℕ) (files : Files) (a : BenchAsked) (p : Program) (bytes : List ℕ) (before now : Option (List ℕ)) → IsFile files a.program bytes → IsAccepted bytes p
    → (code ≡ 0) ⊎ (code ≡ 7) ⊎ (code ≡ 9) → (code ≡ 0 → WroteReport p a before now) → HasText code → Wrote code files (Some a) before now
wrote_report code files a p bytes before now file accepted (inl zero) whole has =
    let report = whole zero in
    rw zero (record { text = report.text; is_answer = reported files a p bytes report.text file accepted report.is_report; written = report.written })
wrote_report code files a p bytes before now file accepted (inr (inl seven)) whole has = absurd (seven_has_none (rw seven at has))
wrote_report code files a p bytes before now file accepted (inr (inr nine)) whole has = absurd (nine_has_none (rw nine at has))

pub wrote_report_part : (files : Files) (a : BenchAsked) (p : Program) (bytes : List ℕ) (before now : Option (List ℕ)) → IsFile files a.program bytes → IsAccepted bytes p
    → WroteReportPart p a before now → WrotePart files (Some a) before now
wrote_report_part files a p bytes before now file accepted part =
    record { status = 0; text = part.text; is_answer = reported files a p bytes part.text file accepted part.is_report; written = part.written }
