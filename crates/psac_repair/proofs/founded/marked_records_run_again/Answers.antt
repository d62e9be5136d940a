use Rattle.psac_repair.proofs.Founds.{unmarked_founded, something_runs}
use Rattle.psac_repair.proofs.founded.marked_records_run_again.Goals as goal

pub returns-clause-unmarked : goal.returns-clause-unmarked
returns-clause-unmarked c = unmarked_founded

pub returns-clause-runs : goal.returns-clause-runs
returns-clause-runs c = something_runs
