use Rattle.std.proofs.Common.{◌≡◌, false, not, take}
use Rattle.std.specs.List.{list_any}
use Rattle.kif_tree.specs.Clauses.{is_answer}
use Rattle.calculus_programs.proofs.proper.asserts.Given as goal

abbrev pub invariant-loop-literal : goal.invariant-loop-literal
invariant-loop-literal l = list_any (λ literal. not (is_answer literal.atom)) (take l.literal-index l.literals) ≡ false
