use Rattle.std.proofs.Common.{◌≡◌, ◌++◌, take}
use Rattle.clause_form.proofs.distribution.with_copies.Given as goal

abbrev pub invariant-loop-literal : goal.invariant-loop-literal
invariant-loop-literal l = l.literals ≡ l.initial.literals ++ take l.literal-index l.others
