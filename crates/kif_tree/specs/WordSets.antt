-- Sets of words.
use Rattle.std.specs.Prelude.{ℕ, List, map}
use Rattle.std.specs.BTreeSet.{BTreeSet}
use Rattle.std.specs.declared.alloc.Global.{Global}
use Rattle.std.specs.declared.vec.Vec.{Vec}
use Rattle.kif_tree.specs.Terms.{Bytes}

-- the words of an ordered set, by bytes
abbrev pub texts : BTreeSet (Vec ℕ Global) → List Bytes
texts set = map (λ (key : Vec ℕ Global). key.items) set.keys
