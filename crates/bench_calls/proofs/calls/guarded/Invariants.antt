use Rattle.std.proofs.Common.{◌≡◌, length}
use Rattle.bench_calls.proofs.calls.guarded.Given as goal

abbrev pub invariant-loop : goal.invariant-loop
invariant-loop l = length l.copies ≡ l.counter
