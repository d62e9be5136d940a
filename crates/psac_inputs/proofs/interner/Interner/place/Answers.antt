use Rattle.std.proofs.Common.{arith, ◌≤◌, ◌∙◌, length, ap, subst}
use Rattle.std.specs.Prelude.{sum_by}
use Rattle.std.proofs.lemmas.Iterator.Adapters.{position_from-zero}
use Rattle.std.specs.List.{position_from}
use Rattle.std.specs.Str.{bytes_eq}
use Rattle.psac_inputs.specs.Texts.{Texts}
use Rattle.psac_inputs.proofs.TextPlaces.{found_short, place-map, place_fits}
use Rattle.psac_inputs.proofs.interner.Interner.place.Goals as goal

pub returns-clause-value : goal.returns-clause-value
returns-clause-value c =
    c.get_index_of.ensures.index ∙ position_from-zero (λ k. bytes_eq c.args.bytes.now k.items) c.self.inside.texts.keys
    ∙ place-map (λ k. k.items) c.args.bytes.now 0 c.self.inside.texts.keys ∙ ap (position_from (bytes_eq c.args.bytes.now) 0) c.self.view_is

pub returns-clause-fits : goal.returns-clause-fits
returns-clause-fits c =
    let count : length c.args.self.now ≤ 65536 = subst (λ (ts : Texts). length ts ≤ 65536) c.self.view_is c.self.invariant.count in
    let short : sum_by length c.args.self.now ≤ 16777216 =
    subst (λ (ts : Texts). sum_by length ts ≤ 16777216) c.self.view_is (omega (arith, c.self.invariant.size, c.self.invariant.short)) in
    place_fits c.get_index_of.result _ _ _ _ (returns-clause-value c) (found_short c.args.bytes.now 0 c.args.self.now) count short
