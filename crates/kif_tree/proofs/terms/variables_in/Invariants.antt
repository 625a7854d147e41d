use Rattle.std.proofs.Common.{◌≡◌, [], take}
use Rattle.kif_tree.specs.Terms.{joined_once}
use Rattle.kif_tree.specs.Clauses.{clause_variables}
use Rattle.kif_tree.proofs.terms.variables_in.Given as goal

abbrev pub invariant-loop-literal : goal.invariant-loop-literal
invariant-loop-literal l = l.found ≡ joined_once [] (clause_variables (take l.literal-index l.literals))
