use Rattle.std.proofs.Common.{◌≡◌, map, drop}
use Rattle.saturate.specs.Marks as spec
use Rattle.saturate.proofs.marks.inner_terms.Given as goal

abbrev pub invariant-loop-argument : goal.invariant-loop-argument
invariant-loop-argument l = spec.joined l.marks (map spec.terms (drop l.argument-index l.arguments)) ≡ spec.joined 0 (map spec.terms l.arguments)
