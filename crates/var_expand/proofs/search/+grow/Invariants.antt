use Rattle.std.proofs.Common.{◌≡◌, ◌+◌, ◌*◌, [], ◌∷◌, ◌++◌, take, map, length}
use Rattle.var_expand.specs.Choices.{sets}
use Rattle.var_expand.specs.Search.{filled, fitting, offered_variable}
use Rattle.std.specs.List.{flat_map}
use Rattle.var_expand.proofs.search.+grow.Given as goal

abbrev pub decreases-grow : goal.decreases-grow
decreases-grow l = 3 * length l.rest.now

abbrev pub decreases-go_on : goal.decreases-go_on
decreases-go_on l = 3 * length l.rest.now + 1

abbrev pub decreases-grow_with : goal.decreases-grow_with
decreases-grow_with l = 3 * length l.more.now + 2

abbrev pub invariant-grow-loop-option : goal.invariant-grow-loop-option
invariant-grow-loop-option l = record {
  same : l.choice.items ≡ l.fn.choice.items;
  found : l.found ≡ filled l.fn.found (flat_map (λ b. fitting l.problem (l.fn.choice.items ++ sets l.offer.variable b ∷ []) (map offered_variable l.more)) (take l.option-index l.option-items));
}
