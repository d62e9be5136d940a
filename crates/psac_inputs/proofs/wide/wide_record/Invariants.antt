use Rattle.std.proofs.Common.{◌+◌, ◌≤◌, length}
use Rattle.csv.specs.Reading.{default_config, records, strip_bom}
use Rattle.psac_inputs.specs.Wide.{state_of}
use Rattle.psac_inputs.proofs.WideRecords.{Counted}
use Rattle.psac_inputs.proofs.wide.wide_record.Given as goal

abbrev pub invariant-bytes : goal.invariant-bytes
invariant-bytes l = record {
  counted : Counted (state_of l.place) l.count l.at l.rest (records default_config (strip_bom l.text));
  few : l.at + l.count + length l.rest ≤ length l.text;
}

abbrev pub decreases-bytes : goal.decreases-bytes
decreases-bytes l = length l.rest
