use Rattle.std.proofs.lemmas.Result.{IfOk-weaker}
use Rattle.psac_engine.specs.Engine.{caps_in, grid_in, kept_in, world_in}
use Rattle.psac_cert.specs.Compared.{verdict_view}
use Rattle.psac_cert.proofs.Judging.{found_there, settled}
use Rattle.psac_cert.proofs.judge.judge.Goals as goal

pub returns : goal.returns
returns c =
    let e = c.args.engine.now in
    let w = world_in e in
    let done = settled w (caps_in e) (grid_in e) (kept_in e) c.requires c.grid-grid.ensures.sound in
    IfOk-weaker c.compare.result _ _
    (λ v is. found_there w.program c.program-program.result.now w.texts (grid_in e) c.grid-grid.result.now (caps_in e)
    c.args.texts.now c.args.text.now
    c.in-Some.tree.now (verdict_view v) c.program-program.ensures.value c.grid-grid.ensures.value c.in-Some.ensures.shows done is)
    c.compare.ensures
