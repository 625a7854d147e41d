use Rattle.std.proofs.Common.{◌≡◌, ◌++◌, take}
use Rattle.saturate.specs.Inputs as spec
use Rattle.saturate.proofs.inputs.append_query.Given as goal

abbrev pub invariant-loop-clause : goal.invariant-loop-clause
invariant-loop-clause l = record {
  counted : l.variant ≡ l.clause-index;
  numbered : l.more ≡ l.initial.more ++ spec.numbered_inputs 1 (take l.clause-index l.query);
}
