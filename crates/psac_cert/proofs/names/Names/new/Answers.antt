use Rattle.std.proofs.Common.{◌≡◌, ◌∙◌, ◌*◌, ℕ, ap, sym}
use Rattle.psac_record.specs.Shown.{rec_of}
use Rattle.psac_cert.proofs.Opening.{names_told}
use Rattle.psac_cert.proofs.names.Names.new.Goals as goal

pub returns : goal.returns
returns c = λ ds many h.
    names_told c.args.grid.now ds c.cols-cols.ensures.sound (rec_of c.args.tree.now) _ _ c.args.outs _ c.note_all.new.made.entries _ h c.cols-cols.ensures.value
    (ap (λ (n : ℕ). n * c.cols-cols.result) c.room.ensures.value ∙ ap (λ (n : ℕ). c.args.grid.now.room * n) c.cols-cols.ensures.value) many c.new-made.ensures.empty c.new-path.ensures.items (c.in_ok-note_all.ensures.made h)
