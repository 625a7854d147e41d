use Rattle.std.proofs.Common.{◌≡◌, true, take}
use Rattle.std.specs.List.{list_all}
use Rattle.calculus_programs.specs.Shape.{fits}
use Rattle.calculus_programs.proofs.proper.all_fit.Given as goal

abbrev pub invariant-loop-literal : goal.invariant-loop-literal
invariant-loop-literal l = list_all (λ literal. fits literal.atom) (take l.literal-index l.literals) ≡ true
