use Rattle.std.proofs.Common.{◌≡◌, map}
use Rattle.clause_form.specs.Matrices as spec
use Rattle.clause_form.proofs.distribution.+distribute.Given as goal

abbrev pub invariant-distribute_each-loop-part : goal.invariant-distribute_each-loop-part
invariant-distribute_each-loop-part l = l.clauses ≡ spec.joined (map spec.distribution l.yielded)

abbrev pub invariant-distribute_over-loop-part : goal.invariant-distribute_over-loop-part
invariant-distribute_over-loop-part l = l.clauses ≡ spec.products (map spec.distribution l.yielded)
