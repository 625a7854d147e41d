use Rattle.saturate.proofs.SoundLaws.{runs_are_sound}
use Rattle.saturate.proofs.OneRunLaws.{one_run}
use Rattle.answers.proofs.OneOutcomeLaws.{one_outcome, one_page}
use Rattle.sigma_app.proofs.GoodQueryLaws.{good_query}
use Rattle.sigma_app.proofs.OutcomeLaws.{tool_one, others_usage}
use Rattle.sigma_app.proofs.RunLaws.{usage_caused}
use Rattle.sigma_app.proofs.SomeOutcomeLaws.{some_outcome, translated_outcome}
use Rattle.sigma_app.proofs.laws.one_outcome_law.Goals as goal

pub returns : goal.returns
returns c = record { some = some_outcome; translations = translated_outcome; one = tool_one (one_outcome runs_are_sound one_run) one_page; good = good_query; usage = usage_caused; others = others_usage }
