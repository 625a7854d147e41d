use Rattle.infer.proofs.CheckLaws.{one_derivation, one_bad_step, bad_step_or_derivation}
use Rattle.infer.proofs.laws.checking_law.Goals as goal

pub returns-clause-one_derivation : goal.returns-clause-one_derivation
returns-clause-one_derivation c = one_derivation

pub returns-clause-one_bad_step : goal.returns-clause-one_bad_step
returns-clause-one_bad_step c = one_bad_step

pub returns-clause-either : goal.returns-clause-either
returns-clause-either c = bad_step_or_derivation
