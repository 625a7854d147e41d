use Rattle.answers.specs.Proofs as spec
use Rattle.answers.proofs.extraction.rests.Given as goal

abbrev pub invariant-loop-at : goal.invariant-loop-at
invariant-loop-at l = spec.AreMarksBelow l.wanted.items l.at l.numbers
