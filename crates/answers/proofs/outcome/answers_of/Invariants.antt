use Rattle.std.proofs.Common.{take}
use Rattle.answers.specs.Outcomes as spec
use Rattle.answers.proofs.outcome.answers_of.Given as goal

abbrev pub invariant-loop-number : goal.invariant-loop-number
invariant-loop-number l = spec.Correspond (spec.IsAnswerOf l.asked l.reached) (take l.number-index l.number-items) l.answers
