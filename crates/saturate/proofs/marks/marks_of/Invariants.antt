use Rattle.std.proofs.Common.{◌≡◌, map, drop}
use Rattle.saturate.specs.Marks as spec
use Rattle.saturate.proofs.marks.marks_of.Given as goal

abbrev pub invariant-loop-print : goal.invariant-loop-print
invariant-loop-print l =
    spec.joined l.marks (map (spec.mark_of l.own) (drop l.print-index l.others)) ≡ spec.joined (spec.mark_of l.own l.first) (map (spec.mark_of l.own) l.others)
