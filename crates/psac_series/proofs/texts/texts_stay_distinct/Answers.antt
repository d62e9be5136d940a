use Rattle.psac_series.proofs.Distinct.{added_distinct, field_distinct}
use Rattle.psac_series.proofs.texts.texts_stay_distinct.Goals as goal

pub returns-clause-added : goal.returns-clause-added
returns-clause-added c bytes texts told apart h = added_distinct bytes texts told apart h

pub returns-clause-field : goal.returns-clause-field
returns-clause-field c bytes texts told apart h = field_distinct bytes texts told apart h
