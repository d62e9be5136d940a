use Rattle.std.proofs.Common.{sym, subst, [], None}
use Rattle.psac_traced.specs.Bodies.{IsCode}
use Rattle.psac_record.specs.Kept.{bare}
use Rattle.psac_repair.specs.Mends.{Needs}
use Rattle.psac_repair.specs.Going.{views, Before, Roomy}
use Rattle.psac_inputs.specs.Batch.{put_all}
use Rattle.psac_stage.specs.Recorded.{setting_at}
use Rattle.psac_stage.proofs.Founding.{coherent_now, founded_now}
use Rattle.psac_stage.proofs.Inputs.{inputs_in}
use Rattle.psac_stage.proofs.Mendable.{mendable}
use Rattle.psac_stage.proofs.Placed.{opened_kept, room_kept, cols_kept}
use Rattle.psac_stage.proofs.laws.staged_records_are_mendable.Goals as goal

pub returns-clause-mends : goal.returns-clause-mends
returns-clause-mends c w g b caps age k p q okg okh sound goes checked all now rested kept changes =
    let over : Roomy (views p) = (rested.mods.over, rested.links.over, rested.nodes.over) in
    mendable w g (put_all b g) okg okh checked caps age k _ (views p) (views q) all now rested.mods.whole rested.links.whole over kept
    changes
    (opened_kept b.edits g) (room_kept b.edits g) (cols_kept b.edits g)
    (inputs_in w g okg checked p.values.knows all.fixed all.grid b sound goes)

pub returns-clause-begins : goal.returns-clause-begins
returns-clause-begins c z w g k p same m =
    subst (λ s. Before (Needs s z.funcs.now (IsCode z.funcs.now z.main.now)) z.funcs.now [] None (bare k) k p) (sym same.0)
    (subst (λ fs. Before (Needs (setting_at w g) fs (IsCode fs z.main.now)) fs [] None (bare k) k p) (sym same.1)
    (subst (λ b. Before (Needs (setting_at w g) w.program.funcs (IsCode w.program.funcs b)) w.program.funcs [] None (bare k) k p)
    (sym same.2) m))

pub returns-clause-founds : goal.returns-clause-founds
returns-clause-founds c w g b caps age k p q ok sound goes checked all now rested kept changes =
    let whole = rested.mods.whole in (
      coherent_now w g b ok sound goes checked caps age k (views p) (views q) all now whole kept changes,
      founded_now w g b ok sound goes checked caps age k (views p) (views q) all now whole kept changes,
    )
