use Rattle.std.proofs.Common.{◌<◌, ◌≤◌, ◌++◌, ◌∷◌, [], length, arith, ap, sym, ◌∙◌, Bor}
use Rattle.std.proofs.lemmas.List.{map-append, take_all}
use Rattle.kif_tree.specs.declared.clause.Literal.{Literal}
use Rattle.kif_tree.specs.Clauses.{Literals}
use Rattle.unify.specs.Subsumption.{behind}
use Rattle.unify.proofs.PlaceLaws.{skipping, skipping_parts, skipping_more, skipping_past}
use Rattle.unify.proofs.StandLaws.{length-behind, behind_at}
use Rattle.unify.proofs.subsumption.without.Goals as goal
use Rattle.unify.proofs.subsumption.without.Goals.{then-at-number+in_ok-push, else-at-number}

pub loop-at-preserved : goal.loop-at-preserved
loop-at-preserved c =
    let all = behind c.args.literals.now in
    let below : c.loop-at.at < length all = omega (arith, c.loop-at-test.true, length-behind c.args.literals.now) in
    elim c.if-at-number.branch [
      | then-at-number+in_ok-push w ↦
          let reference = w.index-literals-at.result in
          let is = behind_at c.args.literals.now c.loop-at.at reference c.loop-at-test.true w.index-literals-at.is in
          ap (λ v. behind v.items) w.others-is ∙ ap behind w.in_ok-push.ensures.items
          ∙ map-append (λ (r : Bor Literal). r.now) c.loop-at.others.items (reference ∷ [])
          ∙ ap (λ (xs : Literals). xs ++ reference.now ∷ []) c.loop-at.invariant
          ∙ sym (skipping_more all c.args.number c.loop-at.at reference.now below is w.if-at-number.true)
      | else-at-number w ↦
          ap (λ v. behind v.items) w.others-is ∙ c.loop-at.invariant ∙ sym (skipping_past all c.args.number c.loop-at.at below w.if-at-number.false)
    ]

pub returns : goal.returns
returns c =
    let all = behind c.args.literals.now in
    let over : length all ≤ c.loop-at.at = omega (arith, c.loop-at-test.false, length-behind c.args.literals.now) in
    c.loop-at.invariant ∙ ap (λ (xs : Literals). skipping xs c.args.number) (take_all c.loop-at.at all over) ∙ skipping_parts all c.args.number
