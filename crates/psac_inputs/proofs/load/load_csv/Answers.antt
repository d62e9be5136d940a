use Rattle.std.proofs.Common.{◌∙◌, ◌+◌, arith, Bor, List, ℕ, Some, refl, sym, inl, inr, ap}
use Rattle.std.specs.Prelude.{Ok, unwrap_or}
use Rattle.std.proofs.lemmas.List.Elements.{All-nil}
use Rattle.csv.specs.Reading.{default_config, records, strip_bom}
use Rattle.csv.specs.Records.{fields_of as fields_in}
use Rattle.psac_inputs.specs.Grid.{Grid, IsCellValue}
use Rattle.psac_inputs.specs.Wide.{IsWide}
use Rattle.psac_inputs.proofs.CsvRecords.{few_records, first_wide, going_end, going_fault, going_next, going_start, later_wide, going_whole, read_none, read_one}
use Rattle.psac_inputs.proofs.TextGrowth.{begins_same, begins_then}
use Rattle.psac_inputs.proofs.load.load_csv.Goals as goal

pub loop-row-init : goal.loop-row-init
loop-row-init c =
    let fr = c.from_reader-rdr.ensures in
    let e = c.has_headers.ensures in
    let f = c.flexible.ensures in
    let start = c.into_iter-row-iterator.ensures.into_iter_gives ∙ refl in
    let rdr = c.into_byte_records-row-items.ensures.rdr in
    let left = c.into_byte_records-row-items.ensures.left in
    rw (start, rdr, c.new-cells.ensures.items) (record {
      trim = rw (f, e) at fr.trim ∙ c.new.ensures.trim;
      ready = inr (inr (rw (f, e) at fr.has_headers, fr.headers));
      turns = left;
      config = rw (f, e) at fr.config ∙ c.new.ensures.config;
      going = (strip_bom c.args.bytes.now, fr.source, rw fr.state (going_start (strip_bom c.args.bytes.now) c.args.texts.now));
      plain = All-nil IsCellValue;
      begins = begins_same c.args.texts.now c.args.texts.now refl;
    })

pub read_record-requires-clause-whole : goal.read_record-requires-clause-whole
read_record-requires-clause-whole c =
    let inv = c.loop-row.invariant in
    going_whole c.loop-row.cols c.loop-row.at c.loop-row.cells.items _ _ _ _ _ c.unwrap_or-wanted.result c.len.result inv.going.2 c.unwrap_or-wanted.ensures

pub returns-in-Err-clause-loads : goal.returns-in-Err-clause-loads
returns-in-Err-clause-loads c =
    let inv = c.loop-row.invariant in
    let step = rw (c.in-Some.is, c.in-Ok.is) at ((c.next.ensures.steps inv.turns inv.trim).0 inv.ready) in
    let one = read_one (λ (s : Bor (List ℕ)). Some s.now) c.loop-row.row-iterator.rdr c.next.new.self.rdr (fields_in c.in-Ok.row) inv.going.0 inv.config inv.going.1 step.0 in
    let wanted = c.unwrap_or-wanted.ensures ∙ ap (unwrap_or c.loop-row.cols) c.len.ensures in
    elim c.in-Err.ensures.reads [
      | inl wanting ↦ inl wanting
      | inr is ↦ inr (going_fault c.loop-row.cols c.loop-row.at c.loop-row.cells.items _ _ inv.going.0 one.0 c.loop-row.texts c.args.texts.now _ (fields_in c.in-Ok.row) c.unwrap_or-wanted.result c.in-Err.fault inv.going.2 one.2 wanted is)
    ]

pub loop-row-preserved : goal.loop-row-preserved
loop-row-preserved c =
    let inv = c.loop-row.invariant in
    let step = rw (c.in-Some.is, c.in-Ok.is) at ((c.next.ensures.steps inv.turns inv.trim).0 inv.ready) in
    let wanted = c.unwrap_or-wanted.ensures ∙ ap (unwrap_or c.loop-row.cols) c.len.ensures in
    let read = c.in_default-read_record.ensures in
    record {
      trim = step.0.3 ∙ inv.trim;
      ready = inl step.1;
      turns = step.2;
      config = step.0.2 ∙ inv.config;
      going = going_next (λ (s : Bor (List ℕ)). Some s.now) c.loop-row.row-iterator.rdr c.next.new.self.rdr c.loop-row.cols c.loop-row.at c.loop-row.cells.items
          c.read_record.new.cells.items read.reads.0 inv.going.0 c.loop-row.texts c.read_record.new.texts c.args.texts.now _ (fields_in c.in-Ok.row) c.unwrap_or-wanted.result
          inv.config inv.going.1 inv.going.2 step.0 wanted read.reads.1 read.reads.2 read.row read.fits;
      plain = c.read_record.ensures.plain inv.plain;
      begins = begins_then c.args.texts.now c.loop-row.texts c.read_record.new.texts inv.begins c.read_record.ensures.begins;
    }

pub overflow_add-result : goal.overflow_add-result
overflow_add-result c = omega (arith, few_records c.loop-row.cols c.loop-row.at c.loop-row.cells.items _ _ _ _ _ c.loop-row.invariant.going.2)

pub returns-then-is_next-2-clause-loads : goal.returns-then-is_next-2-clause-loads
returns-then-is_next-2-clause-loads c =
    let inv = c.loop-row.invariant in
    let step = rw (c.in-Some.is, c.in-Ok.is) at ((c.next.ensures.steps inv.turns inv.trim).0 inv.ready) in
    let wanted = c.unwrap_or-wanted.ensures ∙ ap (unwrap_or c.loop-row.cols) c.len.ensures in
    let read = c.in_default-read_record.ensures in
    let going = going_next (λ (s : Bor (List ℕ)). Some s.now) c.loop-row.row-iterator.rdr c.next.new.self.rdr c.loop-row.cols c.loop-row.at c.loop-row.cells.items
    c.read_record.new.cells.items read.reads.0 inv.going.0 c.loop-row.texts c.read_record.new.texts c.args.texts.now _ (fields_in c.in-Ok.row) c.unwrap_or-wanted.result
    inv.config inv.going.1 inv.going.2 step.0 wanted read.reads.1 read.reads.2 read.row read.fits in
    let found = c.is_next-in-loop-row.ensures c.if-is_next-2.true in
    let wide : IsWide 65536 (c.loop-row.at + 1) (records default_config (strip_bom c.args.bytes.now)) = rw found at c.wide_record-wide.ensures in
    inr (later_wide c.unwrap_or-wanted.result (c.loop-row.at + 1) c.read_record.new.cells.items _ _ c.read_record.new.texts c.args.texts.now _ going.2 wide)

pub returns-clause-loads : goal.returns-clause-loads
returns-clause-loads c =
    let inv = c.loop-row.invariant in
    let step = rw c.in-None.is at ((c.next.ensures.steps inv.turns inv.trim).0 inv.ready) in
    let none = read_none (λ (s : Bor (List ℕ)). Some s.now) c.loop-row.row-iterator.rdr c.next.new.self.rdr inv.going.0 inv.config inv.going.1 step in
    let loaded = going_end c.loop-row.cols c.loop-row.at c.loop-row.cells.items _ inv.going.0 c.loop-row.texts c.args.texts.now _ inv.going.2 none in
    let made = rw c.unwrap_or.ensures at c.from_cells.ensures in
    loaded ∙ ap (λ (g : Grid). Ok (g, c.loop-row.texts)) (sym made)
