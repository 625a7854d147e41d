use Rattle.std.proofs.Common.{◌≡◌, take}
use Rattle.std.specs.List.{flat_map}
use Rattle.kif_tree.specs.Terms.{variables}
use Rattle.clause_form.proofs.query.asked_variables.Given as goal

abbrev pub invariant-loop-name : goal.invariant-loop-name
invariant-loop-name l = l.asked ≡ flat_map variables (take l.name-index l.name-items)
