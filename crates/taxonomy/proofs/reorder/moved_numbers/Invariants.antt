use Rattle.std.proofs.Common.{◌≡◌, map, take}
use Rattle.taxonomy.specs.Reorder.{place}
use Rattle.taxonomy.proofs.reorder.moved_numbers.Given as goal

abbrev pub invariant-loop-number : goal.invariant-loop-number
invariant-loop-number l = l.moved.items ≡ map (place l.places) (take l.number-index l.numbers)
