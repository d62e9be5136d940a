use Rattle.std.proofs.Common.{◌≡◌, ◌≤◌, length, false}
use Rattle.psac_tokens.specs.Lex.{skip, FitsPlace}
use Rattle.psac_tokens.proofs.place.skip.Given as goal

abbrev pub invariant-bytes : goal.invariant-bytes
invariant-bytes l = record {
  same : skip l.in_comment l.rest l.at ≡ skip false l.text l.fn.place;
  fits : FitsPlace (length l.rest) l.at;
  within : length l.rest ≤ length l.text;
}

abbrev pub decreases-bytes : goal.decreases-bytes
decreases-bytes l = length l.rest
