use Rattle.std.proofs.Common.{◌≡◌, ◌++◌, take}
use Rattle.std.specs.List.{flat_map}
use Rattle.kif_tree.specs.Profile.{compounds}
use Rattle.var_expand.specs.Gathered.{applied_below}
use Rattle.var_expand.proofs.lists.+gather_applied.Given as goal

abbrev pub invariant-loop-part : goal.invariant-loop-part
invariant-loop-part l = l.lists ≡ l.initial.lists ++ flat_map (λ part. flat_map (applied_below l.logical) (compounds part)) (take l.part-index l.part-items)
