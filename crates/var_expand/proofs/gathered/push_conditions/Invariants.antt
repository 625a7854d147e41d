use Rattle.std.proofs.Common.{◌≡◌, ◌++◌, take}
use Rattle.std.specs.List.{flat_map}
use Rattle.kif_tree.specs.Names.{parts_in}
use Rattle.var_expand.specs.Gathered.{demands}
use Rattle.var_expand.proofs.gathered.push_conditions.Given as goal

abbrev pub invariant-loop-form : goal.invariant-loop-form
invariant-loop-form l = l.found ≡ l.fn.found ++ flat_map (λ part. demands l.predicates (parts_in part)) (take l.form-index l.forms)
