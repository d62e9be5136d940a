use Rattle.std.proofs.Common.{inr, refl}
use Rattle.psac_open.specs.Named.{OfInput}
use Rattle.psac_open.proofs.named.open_input.Goals as goal

pub returns-in-Err-Line-clause-refused : goal.returns-in-Err-Line-clause-refused
returns-in-Err-Line-clause-refused g c = (
  inr refl,
  OfInput c.in-Ok.bytes.items c.args.program c.requires.program c.in-Ok.ensures.bytes
      (rw (c.deref.ensures.value, c.in-Err-Line.field-0-is) at c.in-Err-Line.ensures.refused) refl,
)
