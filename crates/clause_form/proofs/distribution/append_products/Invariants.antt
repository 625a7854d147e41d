use Rattle.std.proofs.Common.{◌≡◌, ◌++◌, map, take}
use Rattle.kif_tree.specs.Clauses.{Literals}
use Rattle.clause_form.proofs.distribution.append_products.Given as goal

abbrev pub invariant-loop-other : goal.invariant-loop-other
invariant-loop-other l = l.products ≡ l.initial.products ++ map (λ (other : Literals). l.clause ++ other) (take l.other-index l.others)
