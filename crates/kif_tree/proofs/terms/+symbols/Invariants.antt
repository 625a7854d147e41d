use Rattle.std.proofs.Common.{◌≡◌, min, sum, take, map}
use Rattle.kif_tree.specs.Terms as spec
use Rattle.kif_tree.proofs.terms.+symbols.Given as goal

abbrev pub invariant-loop-part : goal.invariant-loop-part
invariant-loop-part l = l.count ≡ min (sum (map spec.symbols (take l.part-index l.part-items))) 18446744073709551615
