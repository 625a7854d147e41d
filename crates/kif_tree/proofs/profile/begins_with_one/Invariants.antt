use Rattle.std.proofs.Common.{◌≡◌, false, take}
use Rattle.std.specs.List.{list_any}
use Rattle.kif_tree.specs.Terms as terms
use Rattle.kif_tree.proofs.profile.begins_with_one.Given as goal

abbrev pub invariant-loop-name : goal.invariant-loop-name
invariant-loop-name l = list_any (terms.same l.head) (take l.name-index l.names) ≡ false
