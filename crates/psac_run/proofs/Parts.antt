-- The whole of a text, and nothing of it, as first parts.
use Rattle.std.proofs.Common.{◌≡◌, ◌⊎◌, inl, inr, ℕ, List, [], length, Option, Some, None, refl, sym, arith, subst}
use Rattle.std.proofs.lemmas.List.{append-nil, take_all}
use Rattle.psac_base.specs.Outside.{Appended, AppendedPart}
use Rattle.psac_inputs.specs.Texts.{Texts}
use Rattle.psac_command.specs.declared.request.Mode.{Mode}
use Rattle.psac_command.specs.declared.request.Mode.TheVariants.{Once}
use Rattle.psac_engine.specs.declared.engine.Engine.{Engine}
use Rattle.psac_session.specs.Answered.{IsScript}
use Rattle.psac_run.specs.Served.{Served, ServedPart, report_in}

pub nothing : (held : Option (List ℕ)) (text : List ℕ) → AppendedPart held held text
nothing None text = (0, omega arith, tt)
nothing (Some x) text = (0, omega arith, sym (append-nil x))

pub whole_part : (before now : Option (List ℕ)) (text : List ℕ) → Appended before now text → AppendedPart before now text
whole_part before now text all = (length text, omega arith, subst (λ t. Appended before now t) (sym (take_all (length text) text (omega arith))) all)

-- a script where it is told, and any where it isn't
pub some_script : (told : Option (List ℕ)) → (s : List ℕ) × IsScript told s
some_script None = ([], tt)
some_script (Some x) = (x, refl)

pub nothing_served : (mode : Mode) (e : Engine) (texts : Texts) (told held : Option (List ℕ)) → ServedPart mode e texts told held held
nothing_served mode e texts told held = record { script = (some_script told).0; is_script = (some_script told).1; written = nothing held _ }

pub once_served : (e : Engine) (texts : Texts) (told before now : Option (List ℕ)) → Appended before now (report_in Once e texts []) → Served Once e texts told before now
once_served e texts told before now all = record { script = (some_script told).0; is_script = (some_script told).1; written = all }

pub once_part : (e : Engine) (texts : Texts) (told before now : Option (List ℕ)) (text : List ℕ) → text ≡ report_in Once e texts [] → AppendedPart before now text → ServedPart Once e texts told before now
once_part e texts told before now text is some =
    record { script = (some_script told).0; is_script = (some_script told).1; written = subst (λ t. AppendedPart before now t) is some }

pub finished_part : (code : ℕ) (before now : Option (List ℕ)) (text : List ℕ) → (code ≡ 0) ⊎ (code ≡ 7)
    → (code ≡ 0 → Appended before now text) → (code ≡ 7 → AppendedPart before now text) → AppendedPart before now text
finished_part code before now text (inl e) all part = whole_part before now text (all e)
finished_part code before now text (inr e) all part = part e
