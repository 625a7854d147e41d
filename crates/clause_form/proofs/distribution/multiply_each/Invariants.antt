use Rattle.std.proofs.Common.{◌≡◌}
use Rattle.clause_form.proofs.ProductLaws.{times}
use Rattle.clause_form.proofs.distribution.multiply_each.Given as goal

abbrev pub invariant-loop-clause : goal.invariant-loop-clause
invariant-loop-clause l = l.products ≡ times l.yielded l.others
