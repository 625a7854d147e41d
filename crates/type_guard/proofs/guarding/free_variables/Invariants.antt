use Rattle.std.proofs.Common.{◌≡◌, filter, take}
use Rattle.type_guard.specs.Occurrences.{is_variable}
use Rattle.type_guard.proofs.guarding.free_variables.Given as goal

abbrev pub invariant-loop-name : goal.invariant-loop-name
invariant-loop-name l = l.found ≡ filter is_variable (take l.name-index l.name-items)
