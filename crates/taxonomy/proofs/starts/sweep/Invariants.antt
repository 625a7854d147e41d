use Rattle.std.proofs.Common.{ℕ, ◌≤◌, take, get_or}
use Rattle.taxonomy.specs.Starts.{AreLowered, IsTwice, Reaches}
use Rattle.taxonomy.proofs.starts.sweep.Given as goal

abbrev pub invariant-loop-piece : goal.invariant-loop-piece
invariant-loop-piece l = Reaches l.reach (take l.piece-index l.pieces) × AreLowered l.fn.starts.items l.starts.items
    × ((n : ℕ) → IsTwice (take l.piece-index l.pieces) n → get_or l.starts.items n 0 ≤ l.group)
