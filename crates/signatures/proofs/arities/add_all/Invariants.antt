use Rattle.std.proofs.Common.{List, ◌++◌, take}
use Rattle.std.specs.List.{filter_map}
use Rattle.kif_tree.specs.Terms.{Bytes}
use Rattle.signatures.specs.Below.{arity_word}
use Rattle.signatures.specs.OwnArities.{AreOwn}
use Rattle.signatures.proofs.arities.add_all.Given as goal

abbrev pub invariant-loop-located : goal.invariant-loop-located
invariant-loop-located l = (before : List Bytes) → AreOwn l.forms before l.fn.table → AreOwn l.forms (before ++ filter_map (arity_word l.below l.is_link) (take l.located-index l.forms)) l.table
