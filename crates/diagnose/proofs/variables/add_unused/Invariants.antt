use Rattle.std.proofs.Common.{take}
use Rattle.kif_tree.specs.Shape.{is_among}
use Rattle.diagnose.specs.Found.{Adds}
use Rattle.diagnose.specs.VariableWalk.{is_listed, IsOnlyIn}
use Rattle.diagnose.proofs.variables.add_unused.Given as goal

abbrev pub invariant-loop-part : goal.invariant-loop-part
invariant-loop-part l = Adds (IsOnlyIn 7 l.place (is_listed (take l.part-index l.listed)) (is_among l.within)) l.initial.found.items l.found.items
