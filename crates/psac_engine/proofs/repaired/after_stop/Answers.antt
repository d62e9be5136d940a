use Rattle.std.proofs.Common.{◌≡◌, Some, Err, refl, ap, ◌∙◌, subst, arith}
use Rattle.psac_model.specs.Fresh.{World, fresh, outcome}
use Rattle.psac_trace.specs.declared.halt.Halt.TheVariants as halt
use Rattle.psac_repair.specs.declared.outcome.Stop.{Stop}
use Rattle.psac_repair.specs.declared.outcome.Stop.TheVariants as stop
use Rattle.psac_engine.specs.declared.answer.Answer.TheVariants as answer
use Rattle.psac_engine.specs.Mending.{Finished}
use Rattle.psac_engine.specs.Sound.{world_with}
use Rattle.psac_engine.proofs.Outcomes.{wanting}
use Rattle.psac_engine.proofs.Kept.{from_run, anew_run, stopped_run}
use Rattle.psac_engine.proofs.Modes.{run_anew}
use Rattle.psac_engine.proofs.Rising.{rises_same, rises_then}
use Rattle.psac_engine.proofs.repaired.after_stop.Goals as goal

pub told_anew-requires : goal.told_anew-requires
told_anew-requires g c =
    let need = c.requires in
    let w : World = world_with c.args.program.now c.args.texts.now in
    let few = need.4 in
    let f = need.5 in
    let ran = c.run_program-told.ensures.run need.1 need.2 f.0 in
    record {
      run = (
        w,
        c.args.grid.now,
        need.1,
        need.2,
        c.run_program-told.ensures.of,
        c.run_program-told.ensures.rested,
        omega (arith, few),
        from_run w c.args.grid.now need.1 c.run_program-told.result.1 need.2 c.run_program-told.result.0 ran,
      );
    }

pub returns-in-Fault-clause-run : goal.returns-in-Fault-clause-run
returns-in-Fault-clause-run g c = λ one caps age f.
    let w : World = world_with c.args.program.now c.args.texts.now in
    let same : c.args.stop ≡ stop.Halt (halt.Fault c.in-Fault.kind c.in-Fault.line) = c.in-Halt.is ∙ ap stop.Halt c.in-Fault.is in
    let told : Finished w one c.args.grid.now caps age c.args.tables.now c.args.pass (Err (stop.Halt (halt.Fault c.in-Fault.kind c.in-Fault.line))) =
    subst (λ (z : Stop). Finished w one c.args.grid.now caps age c.args.tables.now c.args.pass (Err z)) same f in
    stopped_run w one c.args.grid.now caps age c.args.tables.now c.args.pass (answer.Fault c.in-Fault.kind c.in-Fault.line) told.0 told.1

pub returns-in-NoMemory-clause-run : goal.returns-in-NoMemory-clause-run
returns-in-NoMemory-clause-run g c = λ one caps age f.
    let w : World = world_with c.args.program.now c.args.texts.now in
    stopped_run w one c.args.grid.now caps age c.args.tables.now c.args.pass answer.NoMemory f.0 (wanting caps (Some (fresh w one)) (outcome w caps c.args.grid.now))

pub returns-in-Full-clause-run : goal.returns-in-Full-clause-run
returns-in-Full-clause-run g c = λ one caps age f.
    let w : World = world_with c.args.program.now c.args.texts.now in
    let same : c.args.stop ≡ stop.Halt (halt.Full c.in-Full.field-0 c.in-Full.field-1) = c.in-Halt.is ∙ ap stop.Halt c.in-Full.is in
    let told : Finished w one c.args.grid.now caps age c.args.tables.now c.args.pass (Err (stop.Halt (halt.Full c.in-Full.field-0 c.in-Full.field-1))) =
    subst (λ (z : Stop). Finished w one c.args.grid.now caps age c.args.tables.now c.args.pass (Err z)) same f in
    anew_run w c.args.grid.now caps c.run_program.result.1 one age c.run_program.result.0 told.1 (c.run_program.ensures.run caps age told.0)

pub returns-in-Unsettled-clause-run : goal.returns-in-Unsettled-clause-run
returns-in-Unsettled-clause-run g c = λ one caps age f.
    let w : World = world_with c.args.program.now c.args.texts.now in
    let ran = c.run_program-told.ensures.run caps age f.0 in
    c.told_anew.ensures.run w one c.args.grid.now caps age c.rows.ensures.sound (from_run w c.args.grid.now caps c.run_program-told.result.1 age c.run_program-told.result.0 ran)

pub returns-in-Full-clause-anew : goal.returns-in-Full-clause-anew
returns-in-Full-clause-anew g c =
    let need = c.requires in
    let w : World = world_with c.args.program.now c.args.texts.now in
    let same : c.args.stop ≡ stop.Halt (halt.Full c.in-Full.field-0 c.in-Full.field-1) = c.in-Halt.is ∙ ap stop.Halt c.in-Full.is in
    let told : Finished w need.0 c.args.grid.now need.1 need.2 c.args.tables.now c.args.pass (Err (stop.Halt (halt.Full c.in-Full.field-0 c.in-Full.field-1))) =
    subst (λ (z : Stop). Finished w need.0 c.args.grid.now need.1 need.2 c.args.tables.now c.args.pass (Err z)) same need.5 in
    run_anew w c.args.grid.now need.1 need.2 c.run_program.result.1 c.run_program.result.0 (c.run_program.ensures.run need.1 need.2 told.0)

pub returns-in-Fault-clause-rises : goal.returns-in-Fault-clause-rises
returns-in-Fault-clause-rises g c = rises_same c.args.pass.values.knows.claims c.args.pass.values.knows.claims refl

pub returns-in-NoMemory-clause-rises : goal.returns-in-NoMemory-clause-rises
returns-in-NoMemory-clause-rises g c = rises_same c.args.pass.values.knows.claims c.args.pass.values.knows.claims refl

pub returns-in-Unsettled-clause-rises : goal.returns-in-Unsettled-clause-rises
returns-in-Unsettled-clause-rises g c =
    rises_then c.args.pass.values.knows.claims c.run_program-told.result.1.values.knows.claims c.told_anew.result.1.values.knows.claims
    c.run_program-told.ensures.rises c.told_anew.ensures.rises
