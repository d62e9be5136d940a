use Rattle.std.proofs.Common.{rules, arith, ◌≡◌, refl, false}
use Rattle.std.specs.Result.{is_err}
use Rattle.psac_ops.specs.declared.plain.Plain.TheVariants.{Nil}
use Rattle.psac_inputs.specs.Staged.{edits_of}
use Rattle.psac_inputs.proofs.EditMap.{inserted}
use Rattle.psac_inputs.proofs.RowEdits.{nil_step}
use Rattle.psac_inputs.proofs.batch.stage_row.Goals as goal

pub loop-col-preserved : goal.loop-col-preserved
loop-col-preserved c =
    let fine : is_err c.insert.result ≡ false = search rules in
    let edits = inserted c.insert.result fine _ c.loop-col.edits.entries c.insert.new.self.entries (record { row = c.args.row; col = c.loop-col.col }) Nil (λ _ _. refl) c.insert.ensures.entries in
    record {
      told = nil_step (edits_of c.loop-col.edits.entries) (edits_of c.insert.new.self.entries) _ c.args.row c.loop-col.col c.args.cols (omega arith) edits c.loop-col.invariant.told;
      room = omega (arith, c.insert.ensures.spare);
      used = omega (arith, c.insert.ensures.spare);
    }
