use Rattle.std.proofs.Common.{◌≡◌, take, false}
use Rattle.std.specs.List.{list_any}
use Rattle.var_expand.specs.Search.{is_of_kind}
use Rattle.var_expand.proofs.fitting.has_kind.Given as goal

abbrev pub invariant-loop-one : goal.invariant-loop-one
invariant-loop-one l = list_any (is_of_kind l.kind) (take l.one-index l.told) ≡ false
