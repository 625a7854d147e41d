use Rattle.std.proofs.Common.{◌≡◌, ◌++◌, filter, take}
use Rattle.std.specs.List.{flat_map}
use Rattle.kif_tree.specs.Profile.{compounds}
use Rattle.var_expand.specs.Fitting.{varies}
use Rattle.var_expand.proofs.lists.+gather_lists.Given as goal

abbrev pub invariant-loop-part : goal.invariant-loop-part
invariant-loop-part l = l.lists ≡ l.initial.lists ++ flat_map (λ part. filter varies (compounds part)) (take l.part-index l.part-items)
