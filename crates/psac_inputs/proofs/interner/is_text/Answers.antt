use Rattle.std.proofs.Common.{rules, ◌≡◌, ◌∙◌}
use Rattle.std.specs.Result.{is_ok}
use Rattle.psac_inputs.proofs.TextPlaces.{text_test}
use Rattle.psac_inputs.proofs.interner.is_text.Goals as goal

pub returns : goal.returns
returns c =
    let tested : c.is_ok.result ≡ is_ok c.from_utf8.result = search rules in
    tested ∙ text_test c.args.bytes.now _ _ (λ s h. h.1) (λ e h. h.0) c.from_utf8.result c.from_utf8.ensures.cases
