use Rattle.std.proofs.Common.{◌≡◌, ◌+◌, take}
use Rattle.kif_tree.specs.Shape as spec
use Rattle.kif_tree.proofs.shape.+token_count.Given as goal

abbrev pub invariant-loop-part : goal.invariant-loop-part
invariant-loop-part l = l.count ≡ spec.capped (spec.tokens_of (take l.part-index l.part-items) + 2)
