use Rattle.std.proofs.Common.{◌+◌, ◌∙◌, arith, sym}
use Rattle.csv.specs.Reading.{strip_bom}
use Rattle.psac_inputs.specs.Wide.{state_of}
use Rattle.psac_inputs.proofs.WideRecords.{counted_field, counted_last, counted_on, counted_record, counted_start, few_left, wide_from}
use Rattle.psac_inputs.proofs.wide.wide_record.Goals as goal

pub bytes-init : goal.bytes-init
bytes-init c = record {
  counted = rw c.without_mark-rest.ensures.stripped (counted_start (strip_bom c.args.text.now));
  few = omega (arith, c.without_mark-rest.ensures.within);
}

pub bytes-preserved-in-Nothing : goal.bytes-preserved-in-Nothing
bytes-preserved-in-Nothing c =
    let some = c.in-len1-up.len_at_least in
    record {
      counted = counted_on (state_of c.bytes.place) _ _ c.bytes.count c.bytes.at c.bytes.rest.now _ c.bytes.invariant.counted some c.step-next.ensures.place c.step-next.ensures.mark c.in-Nothing.is;
      few = few_left c.bytes.at c.bytes.count c.bytes.at c.bytes.count _ c.bytes.rest.now c.bytes.invariant.few some (omega arith);
    }

pub bytes-preserved-in-Field : goal.bytes-preserved-in-Field
bytes-preserved-in-Field c =
    let some = c.in-len1-up.len_at_least in
    record {
      counted = counted_field (state_of c.bytes.place) _ _ c.bytes.count c.bytes.at c.bytes.rest.now _ c.bytes.invariant.counted some c.step-next.ensures.place c.step-next.ensures.mark c.in-Field.is;
      few = few_left c.bytes.at c.bytes.count c.bytes.at (c.bytes.count + 1) _ c.bytes.rest.now c.bytes.invariant.few some (omega arith);
    }

pub bytes-preserved : goal.bytes-preserved
bytes-preserved c =
    let some = c.in-len1-up.len_at_least in
    record {
      counted = (counted_record (state_of c.bytes.place) _ _ c.bytes.count c.bytes.at c.bytes.rest.now _ c.bytes.invariant.counted some c.step-next.ensures.place c.step-next.ensures.mark c.in-Record.is).0;
      few = few_left c.bytes.at c.bytes.count (c.bytes.at + 1) 0 _ c.bytes.rest.now c.bytes.invariant.few some (omega arith);
    }

pub returns-then-count-most : goal.returns-then-count-most
returns-then-count-most c =
    wide_from c.args.most c.bytes.count c.bytes.at _ c.if-count-most.true
    (counted_record (state_of c.bytes.place) _ _ c.bytes.count c.bytes.at c.bytes.rest.now _ c.bytes.invariant.counted c.in-len1-up.len_at_least c.step-next.ensures.place c.step-next.ensures.mark c.in-Record.is).1

pub returns-then-count-most-2 : goal.returns-then-count-most-2
returns-then-count-most-2 c =
    wide_from c.args.most c.bytes.count c.bytes.at _ c.if-count-most-2.true
    (counted_last (state_of c.bytes.place) c.bytes.count c.bytes.at c.bytes.rest.now _ c.bytes.invariant.counted (omega (arith, c.in_default.len_below)) (sym c.is_open.ensures ∙ c.if-is_open.true))
