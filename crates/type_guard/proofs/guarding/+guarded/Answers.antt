use Rattle.std.proofs.Common.{◌≡◌, ℕ, [], ◌∷◌, false, sym, ◌∙◌, arith}
use borrow.Author.Tests.{ltb-true, ltb-false}
use Rattle.kif_tree.specs.declared.form.Form.{Form}
use Rattle.type_guard.specs.GuardedLaws.{quantifies}
use Rattle.type_guard.proofs.GuardingLaws.{copied, three_items, of_quantifier, of_plain, short, long, no_quantifier}
use Rattle.type_guard.proofs.guarding.+guarded.Goals as goal
use Rattle.type_guard.proofs.guarding.+guarded.Goals.{guarded_list-in_default-via-then-parts-lt3, guarded_list-in_default-via-in-len3+else-quantifies, guarded_list-in_default-via-else-parts-lt3+else-parts-lt4}

pub guarded-returns-in_default : goal.guarded-returns-in_default
guarded-returns-in_default t c = copied c.copy.result c.args.signatures.now c.args.form.now c.in_default.not-List c.copy.ensures

plain : {t : ℕ} → (c : goal.guarded_list-After-guarded_all t) → (head names body : Form) → c.args.parts.now ≡ head ∷ names ∷ body ∷ [] → quantifies head names ≡ false
plain c = elim c.in_default.branch [
  | guarded_list-in_default-via-then-parts-lt3 w ↦ short c.args.parts.now (omega (arith, ltb-true))
  | guarded_list-in_default-via-in-len3+else-quantifies w ↦
      no_quantifier c.args.parts.now w.head-item.result w.names-item.result w.body-item.result
      (three_items c.args.parts.now w.head-item.result w.names-item.result w.body-item.result w.in-len3.len_at_least w.in-len3.len_below w.head-item.is w.names-item.is w.body-item.is)
      (sym w.quantifies.ensures ∙ w.if-quantifies.false)
  | guarded_list-in_default-via-else-parts-lt3+else-parts-lt4 w ↦ long c.args.parts.now (omega (arith, ltb-false))
]

pub guarded_list-returns-in_default : goal.guarded_list-returns-in_default
guarded_list-returns-in_default t c = of_plain c.guarded_all.result c.args.signatures.now c.args.parts.now (plain c) c.guarded_all.ensures

pub guarded_list-returns-in_ok-made-in-len3 : goal.guarded_list-returns-in_ok-made-in-len3
guarded_list-returns-in_ok-made-in-len3 t c =
    of_quantifier c.quantifier.result c.args.signatures.now c.args.parts.now c.head-item.result c.names-item.result c.body-item.result c.in_ok-made-in-len3.made
    (three_items c.args.parts.now c.head-item.result c.names-item.result c.body-item.result c.in-len3.len_at_least c.in-len3.len_below c.head-item.is c.names-item.is c.body-item.is)
    (sym c.quantifies.ensures ∙ c.if-quantifies.true) c.in_ok-made-in-len3.ensures c.quantifier.ensures
