use Rattle.std.proofs.Common.{◌≡◌, map, take}
use Rattle.taxonomy.specs.Reorder.{moved}
use Rattle.taxonomy.proofs.reorder.moved_links.Given as goal

abbrev pub invariant-loop-link : goal.invariant-loop-link
invariant-loop-link l = l.moved.items ≡ map (moved l.places) (take l.link-index l.links)
