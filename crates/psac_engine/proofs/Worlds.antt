-- The world of an engine, and the run that it keeps.
use Rattle.std.proofs.Common.{◌≡◌, ◌∙◌, ◌+◌, ◌≤◌, length, arith, refl, sym, ap, List, Option, Some, None, IsSome, option_map, unwrap_or}
use Rattle.psac_ops.specs.declared.plain.TextId.{TextId}
use Rattle.psac_syntax.specs.declared.program.Func.{Func}
use Rattle.psac_syntax.specs.declared.program.Program.{Program}
use Rattle.psac_model.specs.Fresh.{World, main_of, world_of}
use Rattle.psac_grammar.specs.Language.{IsParsed}
use Rattle.psac_scope.proofs.Acts.{fits_most}
use Rattle.psac_numbers.proofs.Scopes.{parsed_main_fits}
use Rattle.psac_engine.specs.Sound.{no_func, world_with}

by_main : (p : Program) (texts : List TextId) (main : Option Func) → IsSome main
    → option_map (λ f. record { program = p; texts = texts; main = f }) main
    ≡ Some (let w : World = record { program = p; texts = texts; main = unwrap_or main no_func } in w)
by_main p texts None none = absurd (cc)
by_main p texts (Some f) some = refl

pub world_known : (p : Program) (texts : List TextId) → IsSome (main_of p) → world_of p texts ≡ Some (world_with p texts)
world_known p texts some = by_main p texts (main_of p) some

pub world_is : (p : Program) (texts : List TextId) (w : World) → IsSome (main_of p) → world_of p texts ≡ Some w → world_with p texts ≡ w
world_is p texts w some world = let e = world_known p texts some in cc

-- the world of a program whose main this is
pub main_is : (p : Program) (texts : List TextId) (f : Func) → main_of p ≡ Some f → (world_with p texts).main ≡ f
main_is p texts f e = ap (λ o. unwrap_or o no_func) e

pub world_by : (p q : Program) (texts : List TextId) (f : Func) → q ≡ p → main_of q ≡ Some f → (let w : World = record { program = q; texts = texts; main = f } in w) ≡ world_with p texts
world_by p q texts f same e =
    ap (λ z. let w : World = record { program = q; texts = texts; main = z } in w) (sym (main_is q texts f e)) ∙ ap (λ z. world_with z texts) same

pub few_dests : (p : Program) (f : Func) → IsParsed p → main_of p ≡ Some f → length f.dests ≤ 24
few_dests p f parsed e =
    let most = fits_most f.body (length f.values + length f.dests) (parsed_main_fits p f parsed e) in
    omega (arith, most)
