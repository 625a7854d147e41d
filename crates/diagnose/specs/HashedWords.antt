-- Sets of words without an order.
use Rattle.std.specs.Prelude.{List, map}
use Rattle.std.specs.Borrow.{Bor}
use Rattle.std.specs.HashSet.{HashSet}
use Rattle.kif_tree.specs.Terms.{Bytes}

-- the words of the set, in the order of its places
abbrev pub texts : {S : Type 0} → HashSet (Bor Bytes) S → List Bytes
texts set = map (λ (key : Bor Bytes). key.now) set.keys
