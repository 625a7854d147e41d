use Rattle.std.proofs.Common.{◌≡◌}
use Rattle.saturate.specs.Runs as spec
use Rattle.saturate.proofs.beginning.all_numbers.Given as goal

abbrev pub invariant-loop-number : goal.invariant-loop-number
invariant-loop-number l = l.numbers ≡ spec.numbers_from 0 l.number
