use Rattle.std.proofs.Common.{◌≡◌, map}
use Rattle.calculus.specs.Tidy.{tidy}
use Rattle.clause_form.proofs.conversion.tidied.Given as goal

abbrev pub invariant-loop-clause : goal.invariant-loop-clause
invariant-loop-clause l = l.tidied ≡ map tidy l.yielded
