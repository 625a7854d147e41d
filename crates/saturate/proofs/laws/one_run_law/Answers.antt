use Rattle.saturate.proofs.OneRunLaws.{one_run}
use Rattle.saturate.proofs.laws.one_run_law.Goals as goal

pub returns : goal.returns
returns c = one_run
