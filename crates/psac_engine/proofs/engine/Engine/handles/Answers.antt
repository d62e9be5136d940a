use Rattle.std.proofs.Common.{◌≡◌, subst, Ok, IsSome}
use Rattle.psac_model.specs.Fresh.{main_of}
use Rattle.psac_model.specs.Series.{meets}
use Rattle.psac_engine.proofs.Kept.{world_checked}
use Rattle.psac_engine.proofs.Named.{are_named}
use Rattle.psac_engine.proofs.engine.Engine.handles.Goals as goal

pub returns : goal.returns
returns c =
    let e = c.args.self.now in
    are_named e c.room.ensures.sound
    (world_checked e.program e.consts.items (subst (λ z. IsSome (main_of z)) c.program.ensures.same c.program.ensures.main)
    (subst (λ z. meets z ≡ Ok tt) c.program.ensures.same c.program.ensures.met))
