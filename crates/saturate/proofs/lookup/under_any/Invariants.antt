use Rattle.std.proofs.Common.{take}
use Rattle.saturate.specs.Indexes as spec
use Rattle.saturate.specs.Runs.{clauses}
use Rattle.saturate.proofs.lookup.under_any.Given as goal

abbrev pub invariant-loop-print : goal.invariant-loop-print
invariant-loop-print l = spec.UnderAny (spec.listed l.state.listed) (clauses l.state.reached) l.clause (take l.print-index l.looked_up) → ⊥
