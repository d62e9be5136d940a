use Rattle.psac_inputs.proofs.TextGrowth.{field_begins}
use Rattle.psac_inputs.proofs.load.read_field.Goals as goal

pub returns-then-is_err-clause-begins : goal.returns-then-is_err-clause-begins
returns-then-is_err-clause-begins c = field_begins c.args.bytes.now c.args.texts.now c.in-Ok.value c.field.new.self c.in-Ok.ensures.ok

pub returns-clause-begins : goal.returns-clause-begins
returns-clause-begins c = field_begins c.args.bytes.now c.args.texts.now c.in-Ok.value c.field.new.self c.in-Ok.ensures.ok
