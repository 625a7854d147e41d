use Rattle.std.proofs.Common.{◌≤◌, length, List, ◌++◌, ◌∷◌, [], sym, ap, ap₂, ◌∙◌, arith}
use Rattle.kif_tree.specs.declared.form.Form.{Form}
use Rattle.kif_tree.specs.declared.form.Form.TheVariants as form
use Rattle.type_guard.proofs.GuardingLaws.{closed_some}
use Rattle.type_guard.proofs.guarding.guard.Goals as goal

pub returns : goal.returns
returns c =
    let some : 1 ≤ length c.items.result.now = grind arith in
    closed_some c.args.signatures.now c.args.form.now c.in_ok-body.body c.items-2.result.now c.in_ok-guards.guards c.push-2.new.self
    (c.items-2.ensures ∙ c.in_ok-names.ensures) (omega (arith, some, ap length (c.items.ensures ∙ sym c.items-2.ensures))) c.in_ok-guards.ensures c.in_ok-body.ensures
    (c.in_ok-push-2.ensures.ok
    ∙ ap₂ (λ (parts : List Form) (f : Form). parts ++ f ∷ [])
    (c.in_ok-push.ensures.ok ∙ ap₂ (λ (parts names : List Form). parts ++ form.List names ∷ []) c.in_ok-parts.ensures (sym c.items-2.ensures)) c.in_ok-for_all.ensures)
