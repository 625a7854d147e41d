use Rattle.saturate.specs.Indexes.{AreListed, listed}
use Rattle.saturate.proofs.beginning.input_index.Given as goal

abbrev pub invariant-loop-number : goal.invariant-loop-number
invariant-loop-number l = AreListed l.inputs (listed l.index) l.number
