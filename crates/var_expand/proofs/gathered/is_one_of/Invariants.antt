use Rattle.std.proofs.Common.{◌≡◌, take, false}
use Rattle.std.specs.List.{list_any}
use Rattle.kif_tree.specs.Terms.{same}
use Rattle.var_expand.proofs.gathered.is_one_of.Given as goal

abbrev pub invariant-loop-other : goal.invariant-loop-other
invariant-loop-other l = list_any (same l.form) (take l.other-index l.forms) ≡ false
