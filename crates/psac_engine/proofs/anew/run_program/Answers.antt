use Rattle.std.proofs.Common.{◌≡◌, sym, subst, length, Some, arith}
use Rattle.psac_model.specs.Fresh.{World, main_of}
use Rattle.psac_laws.proofs.Checked.{is_checked}
use Rattle.psac_engine.specs.Running.{HasRun}
use Rattle.psac_stage.specs.Resting.{MayRun}
use Rattle.psac_engine.proofs.Worlds.{world_by, few_dests}
use Rattle.psac_engine.proofs.anew.run_program.Goals as goal

pub run_anew-requires-clause-checked : goal.run_anew-requires-clause-checked
run_anew-requires-clause-checked g c κs lives =
    let w : World = record { program = c.program-program.result.now; texts = c.args.texts.now; main = c.in-Some.main.now } in
    is_checked w c.program-program.ensures.met (sym c.in-Some.ensures)

pub run_anew-requires-clause-may : goal.run_anew-requires-clause-may
run_anew-requires-clause-may g c κs lives =
    let m = c.requires.may in
    let e : main_of c.program-program.result.now ≡ Some c.in-Some.main.now = sym c.in-Some.ensures in
    let same = world_by c.args.program.now c.program-program.result.now c.args.texts.now c.in-Some.main.now c.program-program.ensures.same e in
    (m.0, m.1, m.2, m.3, subst (λ (w : World). MayRun (length w.main.dests) c.args.grid.now m.0 m.1 c.args.tables.now c.args.pass) (sym same) m.4)

pub run_anew-requires-clause-few : goal.run_anew-requires-clause-few
run_anew-requires-clause-few g c κs lives =
    let few = few_dests c.program-program.result.now c.in-Some.main.now c.program-program.ensures.parsed (sym c.in-Some.ensures) in
    let fits = c.rows.ensures.sound.fits in
    omega (arith, few, fits)

pub returns-clause-run : goal.returns-clause-run
returns-clause-run g c caps age may =
    let e : main_of c.program-program.result.now ≡ Some c.in-Some.main.now = sym c.in-Some.ensures in
    let same = world_by c.args.program.now c.program-program.result.now c.args.texts.now c.in-Some.main.now c.program-program.ensures.same e in
    subst (λ (w : World). HasRun w c.args.grid.now caps age c.run_anew.result.1 c.run_anew.result.0) same
    (c.run_anew.ensures.run caps age (subst (λ (w : World). MayRun (length w.main.dests) c.args.grid.now caps age c.args.tables.now c.args.pass) (sym same) may))
