use Rattle.saturate.proofs.SoundLaws.{runs_are_sound}
use Rattle.saturate.proofs.EndsHoldLaws.{ends_hold}
use Rattle.answers.proofs.ProvedLaws.{outcomes_are_proved, outcomes_end}
use Rattle.answers.proofs.laws.proof_law.Goals as goal

pub returns-clause-proved : goal.returns-clause-proved
returns-clause-proved c = outcomes_are_proved runs_are_sound ends_hold

pub returns-clause-end : goal.returns-clause-end
returns-clause-end c = outcomes_end ends_hold
