use Rattle.std.proofs.Common.{◌+◌, arith}
use Rattle.psac_model.specs.Fresh.{World}
use Rattle.psac_record.specs.Shown.{kept_of}
use Rattle.psac_engine.specs.Sound.{world_with}
use Rattle.psac_repair.specs.Going.{views}
use Rattle.psac_engine.proofs.Kept.{finished_ok, finished_err}
use Rattle.psac_engine.proofs.Modes.{repairs_ok, anew_repairs}
use Rattle.psac_engine.proofs.Rising.{ages_ok, ages_stop}
use Rattle.psac_engine.proofs.repaired.commit_kept.Goals as goal

pub finished-told-requires : goal.finished-told-requires
finished-told-requires g c =
    let need = c.requires in
    let low = need.3 in
    let w : World = world_with c.args.program.now c.args.texts.now in
    (w, need.0, c.args.grid.now, need.1, need.2, kept_of c.args.tree, c.args.pass, omega (arith, low), need.4, c.repaired-outcome.ensures need.0 need.1 need.2 need.4)

pub returns-in-Ok-clause-of : goal.returns-in-Ok-clause-of
returns-in-Ok-clause-of g c =
    let need = c.requires in
    let w : World = world_with c.args.program.now c.args.texts.now in
    let came = c.repaired-outcome.ensures need.0 need.1 need.2 need.4 in
    let f = c.finished-told.ensures.ends w need.0 c.args.grid.now need.1 need.2 (kept_of c.args.tree) c.args.pass need.4 came in
    (finished_ok w need.0 c.args.grid.now need.1 (need.2 + 1) c.args.tables.now c.finished-told.result.1 c.finished-told.result.0 f c.in-Ok.kept c.in-Ok.is).0

pub returns-in-Ok-clause-rested : goal.returns-in-Ok-clause-rested
returns-in-Ok-clause-rested g c =
    let need = c.requires in
    let w : World = world_with c.args.program.now c.args.texts.now in
    let came = c.repaired-outcome.ensures need.0 need.1 need.2 need.4 in
    let f = c.finished-told.ensures.ends w need.0 c.args.grid.now need.1 need.2 (kept_of c.args.tree) c.args.pass need.4 came in
    (finished_ok w need.0 c.args.grid.now need.1 (need.2 + 1) c.args.tables.now c.finished-told.result.1 c.finished-told.result.0 f c.in-Ok.kept c.in-Ok.is).1

pub returns-in-Ok-clause-run : goal.returns-in-Ok-clause-run
returns-in-Ok-clause-run g c = λ one caps age staged.
    let w : World = world_with c.args.program.now c.args.texts.now in
    let f = c.finished-told.ensures.ends w one c.args.grid.now caps age (kept_of c.args.tree) c.args.pass staged (c.repaired-outcome.ensures one caps age staged) in
    (finished_ok w one c.args.grid.now caps (age + 1) c.args.tables.now c.finished-told.result.1 c.finished-told.result.0 f c.in-Ok.kept c.in-Ok.is).2

pub after_stop-requires-after_bounds : goal.after_stop-requires-after_bounds
after_stop-requires-after_bounds g c κs within =
    let need = c.requires in
    let low = need.3 in
    let w : World = world_with c.args.program.now c.args.texts.now in
    let came = c.repaired-outcome.ensures need.0 need.1 need.2 need.4 in
    let f = c.finished-told.ensures.ends w need.0 c.args.grid.now need.1 need.2 (kept_of c.args.tree) c.args.pass need.4 came in
    (need.0, need.1, need.2 + 1, need.4.fit, omega (arith, low), finished_err w need.0 c.args.grid.now need.1 (need.2 + 1) c.args.tables.now c.finished-told.result.1 c.finished-told.result.0 f c.in-Err.stop c.in-Err.is)

pub returns-in-Err-clause-run : goal.returns-in-Err-clause-run
returns-in-Err-clause-run g c = λ one caps age staged.
    let w : World = world_with c.args.program.now c.args.texts.now in
    let f = c.finished-told.ensures.ends w one c.args.grid.now caps age (kept_of c.args.tree) c.args.pass staged (c.repaired-outcome.ensures one caps age staged) in
    c.after_stop.ensures.run one caps (age + 1) (finished_err w one c.args.grid.now caps (age + 1) c.args.tables.now c.finished-told.result.1 c.finished-told.result.0 f c.in-Err.stop c.in-Err.is)

pub returns-in-Ok-clause-repairs : goal.returns-in-Ok-clause-repairs
returns-in-Ok-clause-repairs g c = λ one caps age staged.
    let w : World = world_with c.args.program.now c.args.texts.now in
    let h = c.args.grid.now in
    let k = kept_of c.args.tree in
    let r = c.finished-told.ensures.repairs w one h caps age k c.args.pass staged (c.repaired-outcome.ensures one caps age staged) in
    repairs_ok w h k (views c.args.pass) (views c.finished-told.result.1) c.finished-told.result.0 c.in-Ok.kept c.in-Ok.is r

pub returns-in-Err-clause-repairs : goal.returns-in-Err-clause-repairs
returns-in-Err-clause-repairs g c = λ one caps age staged.
    let w : World = world_with c.args.program.now c.args.texts.now in
    anew_repairs w c.args.grid.now (kept_of c.args.tree) (views c.args.pass) (views c.after_stop.result.1) c.after_stop.result.0 c.after_stop.ensures.anew

pub returns-in-Ok-clause-ages : goal.returns-in-Ok-clause-ages
returns-in-Ok-clause-ages g c =
    let need = c.requires in
    let w : World = world_with c.args.program.now c.args.texts.now in
    let came = c.repaired-outcome.ensures need.0 need.1 need.2 need.4 in
    let ages = c.finished-told.ensures.ages w need.0 c.args.grid.now need.1 need.2 (kept_of c.args.tree) c.args.pass need.4 came in
    ages_ok c.args.pass.values.knows.claims c.finished-told.result.1.values.knows.claims c.finished-told.result.0 c.in-Ok.kept
    c.in-Ok.is ages

pub returns-in-Err-clause-ages : goal.returns-in-Err-clause-ages
returns-in-Err-clause-ages g c =
    let need = c.requires in
    let w : World = world_with c.args.program.now c.args.texts.now in
    let came = c.repaired-outcome.ensures need.0 need.1 need.2 need.4 in
    let ages = c.finished-told.ensures.ages w need.0 c.args.grid.now need.1 need.2 (kept_of c.args.tree) c.args.pass need.4 came in
    ages_stop c.args.pass.values.knows.claims c.finished-told.result.1.values.knows.claims c.after_stop.result.1.values.knows.claims
    c.finished-told.result.0 c.in-Err.stop c.in-Err.is c.after_stop.result.0 ages c.after_stop.ensures.rises
