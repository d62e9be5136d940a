use Rattle.std.proofs.Common.{◌≡◌, ◌+◌, ◌-◌, ◌*◌, ◌<◌, ◌≤◌, ◌^◌, true, length, fold, drop}
use Rattle.std.specs.List.{list_all}
use Rattle.std.specs.Char.{is_ascii_digit}
use Rattle.psac_script.proofs.number.read_number.Given as goal

abbrev pub invariant-loop-digit : goal.invariant-loop-digit
invariant-loop-digit l = record {
  few : length l.digits ≤ 9;
  digits : list_all is_ascii_digit (drop l.digit-index l.digits) ≡ true;
  value : fold (λ n c. n * 10 + (c - 48)) 0 l.digits ≡ fold (λ n c. n * 10 + (c - 48)) l.value (drop l.digit-index l.digits);
  bound : l.value < 10 ^ l.digit-index;
}
