use Rattle.std.proofs.Common.{◌≡◌, arith, ◌∙◌, below_more}
use Rattle.kif_tree.specs.Clauses.{bind_literal}
use Rattle.calculus_programs.proofs.PickLaws.{same_item}
use Rattle.unify.proofs.PlaceLaws.{each_from}
use Rattle.unify.proofs.places.has_place.Goals as goal

pub loop-other-preserved : goal.loop-other-preserved
loop-other-preserved c =
    below_more _ _ c.loop-other.invariant
    (λ g other is e. c.looks_alike.ensures.away c.if-looks_alike.false g
    (e ∙ same_item c.args.others.now c.loop-other.other-index other c.other-item.result (omega arith) is c.other-item.is))

pub returns : goal.returns
returns c _ g =
    each_from (λ other. bind_literal g c.args.literal.now ≡ other → ⊥) c.args.others.now
    (λ k other below is. c.loop-other.invariant k (omega arith) g other is)
