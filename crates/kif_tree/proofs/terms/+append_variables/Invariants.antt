use Rattle.std.proofs.Common.{◌≡◌, take, map}
use Rattle.kif_tree.specs.Terms as spec
use Rattle.kif_tree.proofs.terms.+append_variables.Given as goal

abbrev pub invariant-loop-part : goal.invariant-loop-part
invariant-loop-part l = l.found ≡ spec.joined_once l.fn.found (spec.joined (map spec.variables (take l.part-index l.part-items)))
