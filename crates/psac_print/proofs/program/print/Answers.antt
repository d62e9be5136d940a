use Rattle.std.proofs.Common.{◌≡◌, ℕ, ◌≤◌, List, length, arith, subst, sym, ap, ◌∙◌}
use Rattle.std.specs.Prelude.{flat_map}
use Rattle.std.proofs.lemmas.List.{take_all}
use Rattle.psac_syntax.specs.declared.program.Program.{Program}
use Rattle.psac_grammar.specs.Language.{IsProgram}
use Rattle.psac_spelling.specs.Canonical.{canonical, func_text}
use Rattle.psac_spelling.specs.Unlined.{ReadsBack}
use Rattle.psac_spelling.proofs.Law.{reads_back}
use Rattle.psac_print.proofs.program.print.Goals as goal

back : (p : Program) (text : List ℕ) → text ≡ canonical p → (bytes : List ℕ) → IsProgram bytes p → length text ≤ 65536 → ReadsBack p text
back p text is bytes h short = subst (ReadsBack p) (sym is) (reads_back p bytes h (subst (λ z. length z ≤ 65536) is short))

pub returns-clause-again : goal.returns-clause-again
returns-clause-again c =
    let p = c.args.program.now in
    back p c.loop-func.text.items (c.loop-func.invariant ∙ ap (flat_map (func_text p)) (take_all c.loop-func.func-index p.funcs (omega (arith, ap length c.as_slice-func-items.ensures))))
