use Rattle.std.proofs.Common.{◌≡◌, ◌<◌, ℕ, length}
use Rattle.taxonomy.specs.Reorder.{place}
use Rattle.taxonomy.proofs.reorder.unknown_places.Given as goal

abbrev pub invariant-loop : goal.invariant-loop
invariant-loop l = (length l.places.items ≡ l.counter) × ((n : ℕ) → n < l.counter → place l.places.items n ≡ l.count)
