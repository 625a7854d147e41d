use Rattle.std.proofs.Common.{◌≡◌, false, take}
use Rattle.std.specs.List.{list_any}
use Rattle.diagnose.specs.Arguments.{is_row}
use Rattle.diagnose.proofs.arguments.has_row.Given as goal

abbrev pub invariant-loop-argument : goal.invariant-loop-argument
invariant-loop-argument l = list_any is_row (take l.argument-index l.arguments) ≡ false
