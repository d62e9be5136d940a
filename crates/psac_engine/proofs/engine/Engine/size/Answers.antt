use Rattle.std.proofs.Common.{ap, is_some}
use Rattle.psac_engine.specs.Engine.{world_in}
use Rattle.psac_engine.proofs.Showing.{size_kept, size_told}
use Rattle.psac_engine.proofs.engine.Engine.size.Goals as goal

pub returns-in-Some : goal.returns-in-Some
returns-in-Some c =
    let e = c.args.self.now in
    let some = c.in-Some.is in
    size_told (world_in e) e.grid e.kept c.in-Some.record c.size.result some
    (size_kept (world_in e) e.grid e.caps c.in-Some.record c.size.result e.within (e.small (ap is_some some)) (e.shows c.in-Some.record some) c.size.ensures)
