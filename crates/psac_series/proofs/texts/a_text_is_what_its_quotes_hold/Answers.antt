use Rattle.psac_series.proofs.Quoted.{closes_at, ends, stands_for}
use Rattle.psac_series.proofs.texts.a_text_is_what_its_quotes_hold.Goals as goal

pub returns-clause-closes : goal.returns-clause-closes
returns-clause-closes c bytes n h = closes_at bytes n h

pub returns-clause-ends : goal.returns-clause-ends
returns-clause-ends c spelled text rest h = ends spelled text rest h

pub returns-clause-stands_for : goal.returns-clause-stands_for
returns-clause-stands_for c spelled text rest h = stands_for spelled text rest h
