use Rattle.std.proofs.Common.{◌≡◌, ℕ, ◌<◌, List, [], ◌∷◌, ◌++◌, get_or}
use Rattle.kif_tree.specs.declared.form.Form.{Form}
use Rattle.var_expand.specs.Choices.{sets}
use Rattle.var_expand.specs.Search.{IsHopeless}
use Rattle.var_expand.proofs.search.has_option.Given as goal

abbrev pub invariant-loop-option : goal.invariant-loop-option
invariant-loop-option l = record {
  same : l.choice.items ≡ l.fn.choice.items;
  hopeless : (k : ℕ) (d : List Form) → k < l.option-index → IsHopeless l.problem (l.fn.choice.items ++ sets l.offer.variable (get_or l.option-items k d) ∷ []);
}
