use Rattle.std.proofs.Common.{◌≡◌, ◌++◌, take, map}
use Rattle.std.specs.List.{flat_map}
use Rattle.kif_tree.specs.Printed as spec
use Rattle.kif_tree.proofs.print.append_literals.Given as goal

abbrev pub invariant-loop-literal : goal.invariant-loop-literal
invariant-loop-literal l = l.out ≡ l.initial.out ++ flat_map spec.after_blank (map spec.literal_text (take l.literal-index l.rest))
