use Rattle.std.proofs.Common.{take}
use Rattle.std.specs.List.{flat_map}
use Rattle.type_guard.specs.Gathered.{AreGathered}
use Rattle.type_guard.specs.Guards.{guards_at}
use Rattle.type_guard.specs.Reads as reads
use Rattle.type_guard.proofs.guards.guards_of.Given as goal

abbrev pub invariant-loop-at : goal.invariant-loop-at
invariant-loop-at l = AreGathered (flat_map (guards_at l.signatures) (reads.all (take l.at-index l.found))) l.guards l.seen
