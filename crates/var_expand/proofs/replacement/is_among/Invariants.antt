use Rattle.std.proofs.Common.{◌≡◌, take, false}
use Rattle.std.specs.List.{list_any}
use Rattle.kif_tree.specs.Terms.{same}
use Rattle.var_expand.proofs.replacement.is_among.Given as goal

abbrev pub invariant-loop-name : goal.invariant-loop-name
invariant-loop-name l = list_any (same l.variable) (take l.name-index l.names) ≡ false
