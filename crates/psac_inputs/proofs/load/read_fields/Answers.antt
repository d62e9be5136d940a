use Rattle.std.proofs.Common.{arith, inl, inr}
use Rattle.csv.specs.Records.{fields_of as fields_in}
use Rattle.psac_inputs.proofs.CsvRecords.{field_here, has_place}
use Rattle.psac_inputs.proofs.Records.{field_fault, field_step}
use Rattle.psac_inputs.proofs.TextGrowth.{begins_then}
use Rattle.psac_inputs.proofs.load.read_fields.Goals as goal

pub unwrap-field-requires : goal.unwrap-field-requires
unwrap-field-requires c = has_place (λ s. s.now) c.get.result (fields_in c.args.row.now) c.loop-i.i c.get.ensures.value (omega arith)

pub returns-in-Err-clause-reads : goal.returns-in-Err-clause-reads
returns-in-Err-clause-reads c =
    let at = field_here (λ s. s.now) c.get.result c.unwrap-field.result (fields_in c.args.row.now) c.loop-i.i c.get.ensures.value c.unwrap-field.ensures in
    let told = c.loop-i.invariant.told in
    elim c.in-Err.ensures.reads [
      | inl wanting ↦ inl wanting
      | inr is ↦ inr (field_fault c.args.at c.loop-i.i (fields_in c.args.row.now) c.unwrap-field.result.now told.0 c.loop-i.texts c.in-Err.fault _ at is told.2)
    ]

pub loop-i-preserved : goal.loop-i-preserved
loop-i-preserved c =
    let at = field_here (λ s. s.now) c.get.result c.unwrap-field.result (fields_in c.args.row.now) c.loop-i.i c.get.ensures.value c.unwrap-field.ensures in
    let told = c.loop-i.invariant.told in
    let read = c.in_default.ensures.reads in
    record {
      told = field_step c.args.at c.loop-i.i (fields_in c.args.row.now) c.unwrap-field.result.now c.args.cells.now.items c.loop-i.cells.items c.read_field.new.cells.items read.0 told.0 c.loop-i.texts c.read_field.new.texts _ at read.1 read.2 told.1 told.2;
      begins = begins_then c.args.texts.now c.loop-i.texts c.read_field.new.texts c.loop-i.invariant.begins c.read_field.ensures.begins;
      plain = λ all. c.read_field.ensures.plain (c.loop-i.invariant.plain all);
      count = omega (arith, c.in_default.ensures.one);
    }
