use Rattle.std.proofs.Common.{◌≡◌, take}
use Rattle.std.specs.List.{flat_map}
use Rattle.kif_tree.specs.Names.{parts_in}
use Rattle.var_expand.specs.Conditions.{conjuncts}
use Rattle.var_expand.specs.Gathered.{demands}
use Rattle.var_expand.proofs.gathered.gather_conditions.Given as goal

abbrev pub invariant-loop-antecedent : goal.invariant-loop-antecedent
invariant-loop-antecedent l = l.found ≡ flat_map (λ antecedent. flat_map (λ part. demands l.predicates (parts_in part)) (conjuncts antecedent)) (take l.antecedent-index l.antecedent-items)
