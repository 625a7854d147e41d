use Rattle.std.proofs.Common.{◌≡◌, ◌++◌, map}
use Rattle.kif_tree.specs.Clauses.{Literals}
use Rattle.clause_form.proofs.distribution.extended_each.Given as goal

abbrev pub invariant-loop-clause : goal.invariant-loop-clause
invariant-loop-clause l = l.extended ≡ map (λ (clause : Literals). clause ++ l.others) l.yielded
