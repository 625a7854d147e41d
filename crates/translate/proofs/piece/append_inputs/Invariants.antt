use Rattle.std.proofs.Common.{◌≡◌, ◌++◌, map}
use Rattle.translate.proofs.PieceLaws.{input_of}
use Rattle.translate.proofs.piece.append_inputs.Given as goal

abbrev pub invariant-loop-clause : goal.invariant-loop-clause
invariant-loop-clause l = l.inputs ≡ l.initial.inputs ++ map (input_of l.variant) l.yielded
