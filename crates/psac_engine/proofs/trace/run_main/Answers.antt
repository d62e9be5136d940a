use Rattle.std.proofs.Common.{◌∙◌, ap, ◌*◌, length, List, ℕ, rules, arith}
use Rattle.psac_plain.specs.Slots.{env_of}
use Rattle.psac_trace.specs.Asking.{setting_on}
use Rattle.psac_trace.specs.Told.{ended_of}
use Rattle.psac_record.specs.Kept.{E}
use Rattle.psac_engine.proofs.Mains.{begins_same, leaves_same, made_nothing}
use Rattle.psac_stage.proofs.Storing.{first_is}
use Rattle.psac_engine.proofs.trace.run_main.Goals as goal

pub overflow_cast-dests : goal.overflow_cast-dests
overflow_cast-dests g c =
    let e = ap (λ (xs : List ℕ). length xs) c.as_slice-dests.ensures in
    let few = c.requires.few in
    omega (arith, e, few)

pub ground-ground-requires : goal.ground-ground-requires
ground-ground-requires g c =
    let e = ap (λ (xs : List ℕ). length xs) c.as_slice-dests.ensures in
    let few = c.requires.few in
    omega (arith, e, few)

pub places-requires : goal.places-requires
places-requires g c =
    let e = ap (λ (xs : List ℕ). length xs) c.as_slice-dests.ensures in
    let f = first_is c.args.grid.now c.room.result c.cols.result c.room.ensures.value c.cols.ensures.value in
    let few = c.requires.few in
    omega (arith, e, f, few)

pub run_block-requires : goal.run_block-requires
run_block-requires g c = (
  search rules,
  (
    search rules,
    begins_same c.args.grid.now c.args.texts.now c.args.funcs.now c.args.main.now c.args.tables.now c.args.pass (setting_on c.ground-ground.result c.args.texts.now) c.as_slice.result.now (env_of c.deref.result.now) (c.room.result * c.cols.result) c.as_slice-dests.result.now
        (c.ground-ground.ensures c.args.texts.now) c.as_slice-dests.ensures c.as_slice.ensures (ap env_of c.deref.ensures.value ∙ c.in-Ok.ensures) (first_is c.args.grid.now c.room.result c.cols.result c.room.ensures.value c.cols.ensures.value) c.requires.begins,
  ),
)

pub returns-in-Ok : goal.returns-in-Ok
returns-in-Ok g c =
    let k = c.run_block.ensures in (
      k.0,
      leaves_same c.args.grid.now c.args.texts.now c.args.funcs.now c.args.main.now c.args.tables.now c.args.pass (setting_on c.ground-ground.result c.args.texts.now) c.as_slice.result.now (env_of c.deref.result.now) (c.room.result * c.cols.result) c.as_slice-dests.result.now
          (c.ground-ground.ensures c.args.texts.now) c.as_slice-dests.ensures c.as_slice.ensures (ap env_of c.deref.ensures.value ∙ c.in-Ok.ensures) (first_is c.args.grid.now c.room.result c.cols.result c.room.ensures.value c.cols.ensures.value) c.run_block.result.1 (ended_of k.0 c.run_block.result.0) k.1,
    )

pub returns-in-Err : goal.returns-in-Err
returns-in-Err g c =
    (E, made_nothing c.args.grid.now c.args.texts.now c.args.funcs.now c.args.main.now c.args.tables.now c.args.pass c.requires.begins)
