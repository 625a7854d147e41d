use Rattle.saturate.proofs.SoundLaws.{runs_are_sound}
use Rattle.saturate.proofs.OneRunLaws.{one_run}
use Rattle.answers.proofs.OneOutcomeLaws.{one_outcome, one_page, every_run_answers}
use Rattle.answers.proofs.laws.one_outcome_law.Goals as goal

pub returns-clause-outcome : goal.returns-clause-outcome
returns-clause-outcome c = one_outcome runs_are_sound one_run

pub returns-clause-every : goal.returns-clause-every
returns-clause-every c = every_run_answers runs_are_sound one_run

pub returns-clause-page : goal.returns-clause-page
returns-clause-page c = one_page
