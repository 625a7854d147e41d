use Rattle.saturate.specs.Runs.{Ran}
use Rattle.saturate.specs.States.{IsConsistent}
use Rattle.saturate.proofs.saturation.run.Given as goal

abbrev pub invariant-loop-taken : goal.invariant-loop-taken
invariant-loop-taken l = record {
  consistent : IsConsistent l.state;
  ran : Ran l.fn.state.reached.inputs l.limits l.taken l.state.reached;
}
