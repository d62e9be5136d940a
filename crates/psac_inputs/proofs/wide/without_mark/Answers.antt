use Rattle.std.proofs.Common.{arith, sym}
use Rattle.csv.proofs.ReadFacts.{strip-short}
use Rattle.psac_inputs.proofs.WideRecords.{strip_mark, strip_none}
use Rattle.psac_inputs.proofs.wide.without_mark.Goals as goal

pub returns-in_default-clause-stripped : goal.returns-in_default-clause-stripped
returns-in_default-clause-stripped c = sym (strip-short c.args.text.now (omega (arith, c.in_default.len_below)))

pub returns-then-is_mark-clause-stripped : goal.returns-then-is_mark-clause-stripped
returns-then-is_mark-clause-stripped c = strip_mark c.args.text.now _ c.in-len3-up.len_at_least c.is_mark.ensures c.if-is_mark.true

pub returns-else-is_mark-clause-stripped : goal.returns-else-is_mark-clause-stripped
returns-else-is_mark-clause-stripped c = strip_none c.args.text.now _ c.in-len3-up.len_at_least c.is_mark.ensures c.if-is_mark.false
