use Rattle.std.proofs.Common.{◌∙◌, ap, sym}
use Rattle.std.specs.Prelude.{if◌then◌else◌, Some, None}
use Rattle.psac_ops.specs.Named.{same_handle}
use Rattle.psac_cert.specs.Named.{first_of, path_at}
use Rattle.psac_cert.proofs.Finding.{kept_where, noted_where}
use Rattle.psac_cert.proofs.names.note.Goals as goal

pub returns-then-is_some : goal.returns-then-is_some
returns-then-is_some c = λ h.
    kept_where c.args.made.now.entries c.args.handle h c.args.path.now c.get.result (c.get.ensures.value) (sym c.is_some.ensures ∙ c.if-is_some.true)

pub returns : goal.returns
returns c = λ h.
    noted_where c.args.made.now.entries c.insert.new.self.entries c.args.handle h c.args.path.now c.in_ok-from_slice.field-0 c.get.result c.in_ok-from_slice.ensures
    (c.get.ensures.value) (sym c.is_some.ensures ∙ c.if-is_some.false) (c.in_ok-insert.ensures.updates.0 (record { slot = h.slot; generation = h.generation }))
