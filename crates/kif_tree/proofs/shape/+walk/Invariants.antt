use Rattle.std.proofs.Common.{◌≡◌, ◌≤◌, map, drop}
use Rattle.kif_tree.specs.Shape as spec
use Rattle.kif_tree.proofs.shape.+walk.Given as goal

abbrev pub invariant-walk_all-loop-part : goal.invariant-walk_all-loop-part
invariant-walk_all-loop-part l = record {
  fits : l.next ≤ 18446744073709551615;
  left : spec.walked l.next (map spec.as_part (drop l.part-index l.parts)) ≡ spec.walked l.fn.start (map spec.as_part l.parts);
}
