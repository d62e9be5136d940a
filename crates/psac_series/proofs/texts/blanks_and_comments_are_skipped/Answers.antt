use Rattle.psac_series.proofs.Blanks.{skipped}
use Rattle.psac_series.proofs.texts.blanks_and_comments_are_skipped.Goals as goal

pub returns : goal.returns
returns c bytes place = skipped bytes place
