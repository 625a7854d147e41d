use Rattle.std.proofs.Common.{◌≡◌, ◌&&◌, not, take}
use Rattle.kif_tree.specs.Shape.{is_among}
use Rattle.kif_tree.specs.Terms.{Bytes}
use Rattle.diagnose.specs.VariableWalk.{is_listed}
use Rattle.diagnose.proofs.variables.remove_listed.Given as goal

abbrev pub invariant-loop-part : goal.invariant-loop-part
invariant-loop-part l = (name : Bytes) → is_among l.set name ≡ (is_among l.fn.set name && not (is_listed (take l.part-index l.listed) name))
