use Rattle.std.proofs.Common.{◌≡◌, ◌++◌, take}
use Rattle.diagnose.proofs.merged.append_copies.Given as goal

abbrev pub invariant-loop-diagnostic : goal.invariant-loop-diagnostic
invariant-loop-diagnostic l = l.list.items ≡ l.initial.list.items ++ take l.diagnostic-index l.more
