use Rattle.std.proofs.Common.{◌≡◌, ◌≤◌, take, filter, length}
use Rattle.saturate.specs.Runs as spec
use Rattle.saturate.proofs.turn.derived_count.Given as goal

abbrev pub invariant-loop-number : goal.invariant-loop-number
invariant-loop-number l = record {
  bound : l.count ≤ l.number-index;
  counted : l.count ≡ length (filter (spec.is_derived l.reached) (take l.number-index l.numbers));
}
