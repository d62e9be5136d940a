-- What was written where a call ends with a text, or with a first part of one.
use Rattle.std.proofs.Common.{◌≡◌, ◌⊎◌, ◌≤◌, inl, inr, refl, ℕ, List, [], Option, None, Some, arith}
use Rattle.psac_base.specs.Outside.{Appended, AppendedPart}
use Rattle.psac_command.specs.Asked.{Asked}
use Rattle.psac_report.specs.Refused.{usage_line}
use Rattle.psac_session.specs.Answered.{IsScript}
use Rattle.psac_open.specs.declared.opening.Opened.{Opened}
use Rattle.psac_open.specs.Loaded.{Files, Words}
use Rattle.psac_open.specs.Named.{Began, OfInput, OfProgram, Refused}
use Rattle.psac_run.specs.Reported.{HasPart, HasText, InputRefused, IsAnswer, ProgramRefused, Report, Reported, Usage, Wrote, WrotePart}
use Rattle.psac_run.proofs.Parts.{some_script}

pub text_low : (code : ℕ) → HasText code → code ≤ 5
text_low code (inl e) = omega arith
text_low code (inr (inl e)) = omega arith
text_low code (inr (inr (inl e))) = omega arith
text_low code (inr (inr (inr e))) = omega arith

part_high : (code : ℕ) → HasPart code → 6 ≤ code
part_high code (inl e) = omega arith
part_high code (inr (inl e)) = omega arith
part_high code (inr (inr e)) = omega arith

pub text_has_none : (code : ℕ) → HasText code → HasPart code → ⊥
text_has_none code has part = let low = text_low code has in let high = part_high code part in absurd (omega (arith, low, high))

-- of the statuses of a refusal, the one behind a first part
seven : (code status : ℕ) → HasText status → (code ≡ status) ⊎ (code ≡ 7) → HasPart code → code ≡ 7
seven code status has (inl same) part = absurd (text_has_none status has (rw same at part))
seven code status has (inr e) part = e

pub has_text : (code : ℕ) → (code ≡ 4) ⊎ (code ≡ 5) → HasText code
has_text code (inl e) = inr (inr (inl e))
has_text code (inr e) = inr (inr (inr e))

pub wrote : (report : Report) (code status : ℕ) (text : List ℕ) (files : Files) (words : Words)
    (told before now : Option (List ℕ))
    → IsAnswer report status text files words told → (code ≡ status) ⊎ (code ≡ 7)
    → (code ≡ status → Appended before now text)
    → HasText code → Wrote report code files words told before now
wrote report code status text files words told before now answer (inl same) whole has = rw same
    (record { text = text; is_answer = answer; written = whole same })
wrote report code status text files words told before now answer (inr seven) whole has = absurd
    (text_has_none 7 (rw seven at has) (inr (inl refl)))

pub wrote_first : (report : Report) (code status : ℕ) (text : List ℕ) (files : Files) (words : Words)
    (told before now : Option (List ℕ))
    → IsAnswer report status text files words told → (code ≡ 7 → AppendedPart before now text) → code ≡ 7
    → WrotePart report files words told before now
wrote_first report code status text files words told before now answer part seven =
    record { status = status; text = text; is_answer = answer; written = part seven }

-- behind any status with a first part
pub wrote_some : (report : Report) (code status : ℕ) (text : List ℕ) (files : Files) (words : Words)
    (told before now : Option (List ℕ))
    → IsAnswer report status text files words told → HasText status → (code ≡ status) ⊎ (code ≡ 7)
    → (code ≡ 7 → AppendedPart before now text)
    → HasPart code → WrotePart report files words told before now
wrote_some report code status text files words told before now answer has at part some =
    wrote_first report code status text files words told before now answer part (seven code status has at some)

-- the answer to words that ask for nothing that is known
pub usage_answer : (report : Report) (files : Files) (words : Words) (text : List ℕ) (told : Option (List ℕ))
    → words ≡ None → text ≡ usage_line
    → IsAnswer report 2 text files words told
usage_answer report files words text told none is =
    rw none (record {
      program = [];
      input = [];
      script = (some_script told).0;
      answer = Usage refl refl is;
      program_is = tt;
      input_is = inr tt;
      script_is = (some_script told).1;
    })

-- that of a program or an input that isn't accepted
pub refused_answer : (report : Report) (files : Files) (a : Asked) (line : List ℕ) (code : ℕ) (told : Option (List ℕ))
    → Refused files a line code
    → IsAnswer report code line files (Some a) told
refused_answer report files a line code told (OfProgram program file refuses four) =
    record {
      program = program;
      input = [];
      script = (some_script told).0;
      answer = ProgramRefused a refl refuses four;
      program_is = file;
      input_is = inl four;
      script_is = (some_script told).1;
    }
refused_answer report files a line code told (OfInput input p has file refuses five) =
    record {
      program = has.0;
      input = input;
      script = (some_script told).0;
      answer = InputRefused a p refl has.2 refuses five;
      program_is = has.1;
      input_is = inr file;
      script_is = (some_script told).1;
    }

-- and that over what is opened
pub opened_answer : (report : Report) (files : Files) (a : Asked) (o : Opened) (b : Began files a o) (told : Option (List ℕ))
    (script text : List ℕ)
    → IsScript told script → report b.holds.world a.settings.caps b.holds.grid o.texts script text
    → IsAnswer report 0 text files (Some a) told
opened_answer report files a o b told script text is_script is_text =
    record {
      program = b.program.0;
      input = b.input;
      script = script;
      answer = Reported a b.accepted b.holds.world b.holds.grid o.texts refl b.program.2 b.holds.opens refl is_text;
      program_is = b.program.1;
      input_is = inr b.input_is;
      script_is = is_script;
    }
