use Rattle.std.proofs.Common.{[], refl}
use Rattle.psac_plain.specs.Slots.{env_of, setting_by}
use Rattle.psac_plain.specs.Running.{places_of}
use Rattle.psac_plain.proofs.Tells.{plain_told}
use Rattle.psac_plain.proofs.plain.plain_run.Goals as goal

pub returns : goal.returns
returns c =
    plain_told c.args.program.now c.args.consts.now c.in-Some.main.now c.as_slice-dests.result.now c.as_slice-2.result.now c.as_slice.result.now c.args.grid.now (setting_by c.in_ok-opening.field-0.opening) (env_of c.in_ok-opening.field-0.env.items) (places_of c.in_ok-opening.field-0.heap.items) c.run_body.new.heap.items c.deref.result.now c.in_ok-end.end c.run_body.new.size c.in_ok-outputs.outputs.items _ c.room.ensures.sound c.in-Some.ensures c.as_slice-dests.ensures c.as_slice-2.ensures c.as_slice.ensures c.in_ok-opening.ensures.setting c.in_ok-opening.ensures.env c.in_ok-opening.ensures.places (c.in_ok-end.ensures []) c.counted.ensures (rw (c.room.ensures.value, c.cols.ensures.value) refl) c.deref.ensures.value c.in_ok-outputs.ensures
