use Rattle.std.proofs.Common.{◌≡◌, ◌+◌, None, Ok, option_map, is_some, refl, ap, sym, ◌∙◌, subst, arith, IsSome}
use Rattle.psac_model.specs.declared.ends.Work.{Work}
use Rattle.psac_model.specs.Fresh.{World, main_of}
use Rattle.psac_model.specs.Series.{meets}
use Rattle.psac_record.specs.Shown.{kept_of}
use Rattle.psac_stage.specs.Resting.{MayRun}
use Rattle.psac_engine.specs.Mending.{HasRunFrom}
use Rattle.psac_engine.specs.Sound.{world_with}
use Rattle.psac_laws.proofs.Places.{some_is}
use Rattle.psac_record.specs.declared.record.Record.{Record}
use Rattle.psac_repair.specs.Going.{views}
use Rattle.psac_stage.specs.Staging.{changed}
use Rattle.psac_engine.specs.Repaired.{RepairsTo}
use Rattle.psac_engine.proofs.Kept.{from_run, older_run, staged_by, may_by}
use Rattle.psac_engine.proofs.Modes.{repairs_before}
use Rattle.psac_engine.proofs.Rests.{rest_run, rest_repairs}
use Rattle.psac_engine.proofs.Rising.{ages_from, ages_none, repair_ages, rises_same}
use Rattle.psac_engine.proofs.commit.commit_on.Goals as goal

pub stage_batch-pass-requires-clause-recorded : goal.stage_batch-pass-requires-clause-recorded
stage_batch-pass-requires-clause-recorded g c =
    let need = c.requires.keeps in
    (world_with c.args.program.now c.args.texts.now, kept_of c.in-Some.record, sym c.outputs_of-outs.ensures.many, need.4.recorded c.in-Some.record c.in-Some.is)

pub commit_kept-requires-after_bounds : goal.commit_kept-requires-after_bounds
commit_kept-requires-after_bounds g c κs within =
    let need = c.requires.keeps in
    let q = c.program.result.now in
    let some = subst (λ z. IsSome (main_of z)) c.program.ensures.same c.program.ensures.main in
    let rule = subst (λ z. meets z ≡ Ok tt) c.program.ensures.same c.program.ensures.met in
    let k = need.4 in
    let e = c.stage_batch-pass.ensures in
    let staged = staged_by c.args.program.now c.args.texts.now some rule c.args.grid.now c.is_at_rest.new.batch c.stage_batch-pass.new.grid c.outputs_of-outs.result need.0 need.1
    c.args.tables.now (kept_of c.in-Some.record) c.args.pass c.stage_batch-pass.result c.outputs_of-outs.ensures.many e.grid c.rows.ensures.sound c.rows-in-Some.ensures.sound
    c.is_at_rest.ensures.sound c.is_at_rest.ensures.goes need.2 k.all k.rested (k.recorded c.in-Some.record c.in-Some.is) e.of (e.all need.0 need.1) e.rested e.changes in
    (c.args.grid.now, need.0, need.1, need.3, staged)

pub run_program-requires-clause-may : goal.run_program-requires-clause-may
run_program-requires-clause-may g c κs within =
    let need = c.requires.keeps in
    let w : World = world_with c.args.program.now c.args.texts.now in
    let low = need.3 in
    let may = c.staged-pass.ensures.may need.0 need.1 (may_by w c.args.grid.now need.0 need.1 c.args.tables.now c.args.kept c.args.pass c.outputs_of-outs.result c.outputs_of-outs.ensures.many c.in-None.is need.4) in
    (need.0, need.1, need.2, omega (arith, low), subst (λ n. MayRun n c.staged-pass.new.grid need.0 need.1 c.args.tables.now c.staged-pass.result) c.outputs_of-outs.ensures.many may)

pub returns-else-is_at_rest-clause-run : goal.returns-else-is_at_rest-clause-run
returns-else-is_at_rest-clause-run g c = λ caps age fit low k.
    let w : World = world_with c.args.program.now c.args.texts.now in
    let some = subst (λ z. IsSome (main_of z)) c.program.ensures.same c.program.ensures.main in
    let rule = subst (λ z. meets z ≡ Ok tt) c.program.ensures.same c.program.ensures.met in
    let e = c.stage_batch-pass.ensures in
    let staged = staged_by c.args.program.now c.args.texts.now some rule c.args.grid.now c.is_at_rest.new.batch c.stage_batch-pass.new.grid c.outputs_of-outs.result caps age
    c.args.tables.now (kept_of c.in-Some.record) c.args.pass c.stage_batch-pass.result c.outputs_of-outs.ensures.many e.grid c.rows.ensures.sound c.rows-in-Some.ensures.sound
    c.is_at_rest.ensures.sound c.is_at_rest.ensures.goes fit k.all k.rested (k.recorded c.in-Some.record c.in-Some.is) e.of (e.all caps age) e.rested e.changes in
    subst (λ o. HasRunFrom w (option_map (λ r. c.args.grid.now) o) c.stage_batch-pass.new.grid caps (age + 1) c.commit_kept.result.1 c.commit_kept.result.0) (sym c.in-Some.is)
    (c.commit_kept.ensures.run c.args.grid.now caps age staged)

pub returns-in-None-clause-run : goal.returns-in-None-clause-run
returns-in-None-clause-run g c = λ caps age fit low k.
    let w : World = world_with c.args.program.now c.args.texts.now in
    let h = c.staged-pass.new.grid in
    let may = c.staged-pass.ensures.may caps age (may_by w c.args.grid.now caps age c.args.tables.now c.args.kept c.args.pass c.outputs_of-outs.result c.outputs_of-outs.ensures.many c.in-None.is k) in
    let ran = c.run_program.ensures.run caps age (subst (λ n. MayRun n h caps age c.args.tables.now c.staged-pass.result) c.outputs_of-outs.ensures.many may) in
    subst (λ o. HasRunFrom w (option_map (λ r. c.args.grid.now) o) h caps (age + 1) c.run_program.result.1 c.run_program.result.0) (sym c.in-None.is)
    (older_run w h caps c.run_program.result.1 None age c.run_program.result.0 (from_run w h caps c.run_program.result.1 age c.run_program.result.0 ran))

pub returns-then-is_at_rest-clause-run : goal.returns-then-is_at_rest-clause-run
returns-then-is_at_rest-clause-run g c = λ caps age fit low k.
    rest_run (world_with c.args.program.now c.args.texts.now) c.args.grid.now caps age c.args.tables.now c.args.kept c.args.pass k c.in-Some.record c.in-Some.is
    c.work_at_rest.result c.work_at_rest.ensures

pub returns-then-is_at_rest-clause-repairs : goal.returns-then-is_at_rest-clause-repairs
returns-then-is_at_rest-clause-repairs g c = λ caps age fit low k.
    rest_repairs (world_with c.args.program.now c.args.texts.now) c.args.grid.now caps age c.args.tables.now c.args.kept c.args.pass k c.in-Some.record c.in-Some.is
    c.work_at_rest.result

pub returns-else-is_at_rest-clause-repairs : goal.returns-else-is_at_rest-clause-repairs
returns-else-is_at_rest-clause-repairs g c = λ caps age fit low k x at.
    let w : World = world_with c.args.program.now c.args.texts.now in
    let some = subst (λ z. IsSome (main_of z)) c.program.ensures.same c.program.ensures.main in
    let rule = subst (λ z. meets z ≡ Ok tt) c.program.ensures.same c.program.ensures.met in
    let e = c.stage_batch-pass.ensures in
    let h = c.stage_batch-pass.new.grid in
    let staged = staged_by c.args.program.now c.args.texts.now some rule c.args.grid.now c.is_at_rest.new.batch h c.outputs_of-outs.result caps age
    c.args.tables.now (kept_of c.in-Some.record) c.args.pass c.stage_batch-pass.result c.outputs_of-outs.ensures.many e.grid c.rows.ensures.sound c.rows-in-Some.ensures.sound
    c.is_at_rest.ensures.sound c.is_at_rest.ensures.goes fit k.all k.rested (k.recorded c.in-Some.record c.in-Some.is) e.of (e.all caps age) e.rested e.changes in
    let told = c.commit_kept.result.0 in
    let q = views c.commit_kept.result.1 in
    subst (λ (y : Record). RepairsTo w h (kept_of y) (views c.args.pass) q told) (some_is (sym c.in-Some.is ∙ at))
    (repairs_before w h (kept_of c.in-Some.record) (views c.args.pass) (views c.stage_batch-pass.result) q
    (changed c.args.grid.now c.outputs_of-outs.result c.is_at_rest.new.batch) e.changes told
    (c.commit_kept.ensures.repairs c.args.grid.now caps age staged))

pub returns-then-is_at_rest-clause-ages : goal.returns-then-is_at_rest-clause-ages
returns-then-is_at_rest-clause-ages g c =
    let k = c.args.pass.values.knows.claims in
    repair_ages k k c.work_at_rest.result c.in-Some.record (ap (λ (x : Work). x.mode) c.work_at_rest.ensures) (rises_same k k refl)

pub returns-else-is_at_rest-clause-ages : goal.returns-else-is_at_rest-clause-ages
returns-else-is_at_rest-clause-ages g c =
    ages_from c.args.pass.values.knows.claims c.stage_batch-pass.result.values.knows.claims c.commit_kept.result.1.values.knows.claims
    c.commit_kept.result.0 c.stage_batch-pass.ensures.changes.same.claims c.commit_kept.ensures.ages

pub returns-in-None-clause-ages : goal.returns-in-None-clause-ages
returns-in-None-clause-ages g c =
    let need = c.requires.keeps in
    ages_none c.args.pass.values.knows.claims c.staged-pass.result.values.knows.claims c.run_program.result.1.values.knows.claims
    c.run_program.result.0 c.staged-pass.ensures.same.claims (need.4.cleared (ap is_some c.in-None.is)).mods c.run_program.ensures.rises
