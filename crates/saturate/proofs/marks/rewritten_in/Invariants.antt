use Rattle.std.proofs.Common.{◌≡◌, map, drop}
use Rattle.saturate.specs.Marks as spec
use Rattle.saturate.proofs.marks.rewritten_in.Given as goal

abbrev pub invariant-loop-literal : goal.invariant-loop-literal
invariant-loop-literal l = spec.joined l.marks (map spec.rewritten_by (drop l.literal-index l.literals)) ≡ spec.rewritten_in l.literals
