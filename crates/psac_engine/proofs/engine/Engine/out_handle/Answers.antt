use Rattle.std.proofs.Common.{◌≡◌, ◌∙◌, ◌+◌, ◌*◌, ℕ, ap}
use Rattle.psac_plain.specs.Opened.{at_slot, first_output}
use Rattle.psac_engine.proofs.Handling.{out_named}
use Rattle.psac_engine.proofs.engine.Engine.out_handle.Goals as goal

pub returns : goal.returns
returns c =
    let e = c.args.self.now in
    let first : c.room.result * c.cols.result ≡ first_output e.grid =
    ap (λ a. a * c.cols.result) c.room.ensures.value ∙ ap (λ b. e.grid.room * b) c.cols.ensures.value in
    out_named e c.room.ensures.sound _ c.args.i c.requires (ap (λ (k : ℕ). at_slot (k + c.args.i)) first)
