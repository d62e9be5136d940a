use Rattle.std.proofs.Common.{arith, ◌≡◌, ◌-◌, ◌∙◌, subst, ap, sym}
use Rattle.std.specs.Prelude.{flat_map, fold}
use Rattle.std.specs.List.{range_with_len}
use Rattle.psac_inputs.specs.Batch.{Batch, GoesInto, IsBatch, IsWhole, batch_rows, nil_edits, put_all, with_edit}
use Rattle.psac_inputs.specs.Staged.{edits_of, shown}
use Rattle.psac_inputs.proofs.Staging.{goes-rows, put_all-rows, rows_sound, whole-rows}
use Rattle.psac_inputs.proofs.batch.Batch.rows.Goals as goal

pub returns-clause-ok : goal.returns-clause-ok
returns-clause-ok c =
    let count : c.max-end.result - c.args.rows ≡ c.self.inside.rows - c.args.rows = omega arith in
    let staged = rw count at c.stage_rows.ensures in
    let edits = staged ∙ ap (λ es. fold with_edit (edits_of es) (flat_map (nil_edits c.self.inside.cols) (range_with_len c.args.rows (c.self.inside.rows - c.args.rows)))) c.reserve.ensures.entries in
    ap (λ es. record (shown c.self.inside) { rows = c.args.rows; edits = es }) edits ∙ ap (batch_rows c.args.rows) c.self.view_is

pub invariant_of-self-2 : goal.invariant_of-self-2
invariant_of-self-2 c =
    let sound : IsBatch c.args.self.now = subst IsBatch c.self.view_is c.self.invariant in
    let room : c.self.inside.room ≡ c.args.self.now.room = ap (λ (b : Batch). b.room) c.self.view_is in
    subst IsBatch (sym (returns-clause-ok c)) (rows_sound c.args.rows c.args.self.now sound (omega arith))

pub returns-clause-staged : goal.returns-clause-staged
returns-clause-staged c = λ g grid goes.
    let sound : IsBatch c.args.self.now = subst IsBatch c.self.view_is c.self.invariant in
    let room : c.self.inside.room ≡ c.args.self.now.room = ap (λ (b : Batch). b.room) c.self.view_is in
    ap (λ (b : Batch). put_all b g) (returns-clause-ok c) ∙ put_all-rows c.args.rows c.args.self.now g sound grid (omega arith) goes

pub returns-clause-goes : goal.returns-clause-goes
returns-clause-goes c = λ g grid goes.
    let sound : IsBatch c.args.self.now = subst IsBatch c.self.view_is c.self.invariant in
    let room : c.self.inside.room ≡ c.args.self.now.room = ap (λ (b : Batch). b.room) c.self.view_is in
    let Into : Batch → Type 0 = λ b. GoesInto b g in
    subst Into (sym (returns-clause-ok c)) (goes-rows c.args.rows c.args.self.now g sound grid (omega arith) goes)

pub returns-clause-whole : goal.returns-clause-whole
returns-clause-whole c = λ whole. subst IsWhole (sym (returns-clause-ok c)) (whole-rows c.args.rows c.args.self.now whole)
