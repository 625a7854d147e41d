use Rattle.std.proofs.Common.{◌≡◌, ℕ, ◌<◌, ◌+◌, ◌*◌, List, [], ◌∷◌, ◌++◌, length, get_or}
use Rattle.kif_tree.specs.declared.form.Form.{Form}
use Rattle.var_expand.specs.Choices.{sets}
use Rattle.var_expand.specs.Search.{IsHopeless}
use Rattle.var_expand.proofs.search.+complete.Given as goal

abbrev pub decreases-completes : goal.decreases-completes
decreases-completes l = 3 * length l.offers.now + 4 * length l.last.now

abbrev pub decreases-may_complete : goal.decreases-may_complete
decreases-may_complete l = 3 * length l.offers.now + 4 * length l.last.now + 1

abbrev pub decreases-completes_with : goal.decreases-completes_with
decreases-completes_with l = 3 * length l.offers.now + 4 * length l.last.now + 2

abbrev pub invariant-completes-loop-option : goal.invariant-completes-loop-option
invariant-completes-loop-option l = record {
  same : l.choice.items ≡ l.fn.choice.items;
  hopeless : (k : ℕ) (d : List Form) → k < l.option-index → IsHopeless l.problem (l.fn.choice.items ++ sets l.offer.variable (get_or l.option-items k d) ∷ []);
}
