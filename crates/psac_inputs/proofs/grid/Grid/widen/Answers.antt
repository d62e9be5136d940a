use Rattle.std.proofs.Common.{arith, ◌≡◌, ◌≤◌, ◌∙◌, ap, refl}
use Rattle.std.specs.Prelude.{vec_len, length}
use Rattle.psac_inputs.specs.Grid.{Grid}
use Rattle.psac_inputs.proofs.GridRows.{flat_wide, grid-wide, resized}
use Rattle.psac_inputs.proofs.grid.Grid.widen.Goals as goal

pub invariant_of-result : goal.invariant_of-result
invariant_of-result c =
    let rows : c.self.inside.rows ≡ c.args.self.rows = ap (λ (g : Grid). g.rows) c.self.view_is in
    let cols : c.self.inside.cols ≡ c.args.self.cols = ap (λ (g : Grid). g.cols) c.self.view_is in
    let low : c.self.inside.rows ≤ c.args.room = omega arith in
    let size : vec_len c.self.inside.cells ≡ length c.self.inside.cells.items = omega arith in
    let cells = rw size at c.in_ok-resize.ensures.items ∙ resized c.self.inside c.args.room c.self.invariant low in
    flat_wide c.self.inside (record { opened = c.self.inside.opened; room = c.args.room; rows = c.self.inside.rows; cols = c.self.inside.cols; cells = c.resize.new.self }) c.self.invariant low (rw cols c.requires.fits) refl refl cells

pub returns : goal.returns
returns c =
    let rows : c.self.inside.rows ≡ c.args.self.rows = ap (λ (g : Grid). g.rows) c.self.view_is in
    let low : c.self.inside.rows ≤ c.args.room = omega arith in
    let size : vec_len c.self.inside.cells ≡ length c.self.inside.cells.items = omega arith in
    let cells = rw size at c.in_ok-resize.ensures.items ∙ resized c.self.inside c.args.room c.self.invariant low in
    grid-wide c.self.inside c.args.self c.args.room c.resize.new.self.items c.self.view_is c.self.invariant low cells
