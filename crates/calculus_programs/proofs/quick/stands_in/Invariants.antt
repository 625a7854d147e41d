use Rattle.std.proofs.Common.{◌≡◌, take, false}
use Rattle.std.specs.List.{list_any}
use Rattle.kif_tree.specs.Clauses.{same_literal}
use Rattle.calculus_programs.proofs.quick.stands_in.Given as goal

abbrev pub invariant-loop-other : goal.invariant-loop-other
invariant-loop-other l = list_any (λ other. same_literal other l.literal) (take l.other-index l.others) ≡ false
