use Rattle.std.proofs.Common.{inl, refl}
use Rattle.psac_open.specs.Named.{OfProgram}
use Rattle.psac_open.proofs.named.open_named.Goals as goal

pub returns-in-Err-Line-clause-refused : goal.returns-in-Err-Line-clause-refused
returns-in-Err-Line-clause-refused g c =
    rw c.in-Err-Line.field-0-is (
      inl refl,
      OfProgram c.in-Ok.bytes.items c.in-Ok.ensures.bytes
          (rw (c.deref.ensures.value, c.in-Err-Line.field-0-is) at c.in-Err-Line.ensures.refused) refl,
    )
