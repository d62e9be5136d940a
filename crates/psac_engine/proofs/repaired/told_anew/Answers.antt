use Rattle.std.proofs.Common.{length, None, Some, refl}
use Rattle.psac_model.specs.Fresh.{fresh, outcome}
use Rattle.psac_engine.proofs.Outcomes.{wanting}
use Rattle.psac_engine.proofs.Kept.{kept_all}
use Rattle.psac_engine.proofs.Rising.{rises_same, none_rises}
use Rattle.psac_engine.proofs.repaired.told_anew.Goals as goal

pub returns-in-Ok-clause-run : goal.returns-in-Ok-clause-run
returns-in-Ok-clause-run c = λ w g h caps age ok run.
    let all = kept_all w h caps c.args.pass None age c.args.told _ c.in-Ok.is run in (
      c.cleared.ensures.all h (length w.main.dests) caps age ok all,
      c.cleared.ensures.clear h (length w.main.dests) caps age all,
      wanting caps (Some (fresh w g)) (outcome w caps h),
    )

pub returns-in-Ok-clause-rises : goal.returns-in-Ok-clause-rises
returns-in-Ok-clause-rises c =
    none_rises c.args.pass.values.knows c.cleared.result.values.knows c.requires.run.5.mods c.cleared.ensures.values

pub returns-in-Err-clause-rises : goal.returns-in-Err-clause-rises
returns-in-Err-clause-rises c = rises_same c.args.pass.values.knows.claims c.args.pass.values.knows.claims refl
