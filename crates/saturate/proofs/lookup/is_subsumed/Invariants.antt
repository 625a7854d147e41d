use Rattle.std.proofs.Common.{take}
use Rattle.saturate.specs.Covered as spec
use Rattle.saturate.specs.Runs.{clauses}
use Rattle.saturate.proofs.lookup.is_subsumed.Given as goal

abbrev pub invariant-loop-number : goal.invariant-loop-number
invariant-loop-number l = spec.IsSubsumed (clauses l.state.reached) (take l.number-index l.numbers) l.clause → ⊥
