use Rattle.std.proofs.Common.{map, ◌∷◌}
use Rattle.calculus.specs.Answers.{Among}
use Rattle.saturate.specs.Indexes.{key_of}
use Rattle.saturate.proofs.index.rarest_key.Given as goal

abbrev pub invariant-loop-print : goal.invariant-loop-print
invariant-loop-print l = Among l.rarest (map key_of (l.prints.first ∷ l.prints.others))
