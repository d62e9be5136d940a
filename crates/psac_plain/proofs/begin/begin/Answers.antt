use Rattle.std.proofs.Common.{ap, ◌∙◌, ◌++◌, refl}
use Rattle.psac_plain.specs.Running.{places_of}
use Rattle.psac_plain.specs.Opened.{cell_places}
use Rattle.psac_plain.proofs.Tells.{begins}
use Rattle.psac_plain.proofs.begin.begin.Goals as goal

pub returns : goal.returns
returns c =
    begins c.args.grid.now c.args.dests.now c.args.texts.now _ c.push_cells.new.heap.items c.push_outputs.new.heap.items c.in_ok-row_count.row_count c.opened.ensures.sound
    (c.in_ok-push_cells.ensures ∙ ap (λ x. places_of x ++ cell_places c.args.grid.now.cells) c.new-heap.ensures.items)
    c.in_ok-env.ensures.env c.in_ok-env.ensures.heap c.in_ok-row_count.ensures.made c.in_ok-row_count.ensures.heap
    c.opened.ensures.value c.room.ensures.value c.cols.ensures.value refl refl
