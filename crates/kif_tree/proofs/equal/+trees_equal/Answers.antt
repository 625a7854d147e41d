use Rattle.std.proofs.Common.{◌≡◌, arith, ap, sym, ◌∙◌, rules}
use Rattle.std.proofs.lemmas.List.{same_lists}
use Rattle.kif_tree.specs.declared.form.Form.TheVariants as form
use Rattle.kif_tree.proofs.equal.+trees_equal.Goals as goal

pub returns-after-loop-at : goal.returns-after-loop-at
returns-after-loop-at t c =
    let same : c.items-a.result.now ≡ c.items-b.result.now = same_lists _ _ (omega arith) (λ k d lt. c.loop-at.invariant k d (omega arith)) in
    (λ _. c.in-List-List.is-0 ∙ ap form.List (sym c.items-a.ensures ∙ same ∙ c.items-b.ensures) ∙ sym c.in-List-List.is-1, λ _. search rules)
