-- What stands at a place of the table.
use Rattle.std.proofs.Common.{arith, ◌≡◌, ◌∙◌, ◌<◌, ℕ, List, length, map, sym, ap, IsTrue, slice_index_or}
use Rattle.std.proofs.Math.ListN.{get_or-map}
use Rattle.std.proofs.lemmas.List.{length-map}
use Rattle.std.proofs.lemmas.List.Sums.{AllPass-from_list_all}
use Rattle.std.specs.List.{list_all}
use Rattle.psac_ops.specs.declared.op.Op.{Op}
use Rattle.psac_ops.specs.declared.rows.OpRow.{OpRow}
use Rattle.psac_ops.specs.Rows.{in_order, is_right}

pub op_at : (rows : List OpRow) (i : ℕ) (d : OpRow) (o : Op) → map (λ row. row.op) rows ≡ in_order
    → slice_index_or in_order i d.op ≡ o → (slice_index_or rows i d).op ≡ o
op_at rows i d o order found =
    sym (get_or-map (λ (row : OpRow). row.op) rows i d) ∙ ap (λ ops. slice_index_or ops i d.op) order ∙ found

pub right_at : (rows : List OpRow) (i : ℕ) (d : OpRow) → map (λ row. row.op) rows ≡ in_order
    → IsTrue (list_all is_right rows) → i < 22 → IsTrue (is_right (slice_index_or rows i d))
right_at rows i d order right below =
    let whole : length rows ≡ 22 = sym (length-map rows (λ (row : OpRow). row.op)) ∙ ap length order in
    AllPass-from_list_all is_right rows right i d (omega arith)
