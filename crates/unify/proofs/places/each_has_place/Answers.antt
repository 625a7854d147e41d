use Rattle.std.proofs.Common.{◌≡◌, ◌<◌, arith, length, ap, ◌∙◌, sym, refl}
use Rattle.std.proofs.lemmas.List.{get_or-map, length-map}
use Rattle.kif_tree.specs.Clauses.{bind_literal, bind_clause}
use Rattle.unify.proofs.StandLaws.{no_more, found_there}
use Rattle.unify.proofs.places.each_has_place.Goals as goal

pub returns-then-general-special : goal.returns-then-general-special
returns-then-general-special c _ s =
    let few = no_more (bind_clause s.by c.args.general.now) c.args.special.now s.sends in
    let long : length c.args.special.now < length c.args.general.now = c.if-general-special.true in
    omega (arith, few, long, length-map c.args.general.now (bind_literal s.by))

pub returns-then-not-has_place : goal.returns-then-not-has_place
returns-then-not-has_place c _ s =
    let n = c.loop-literal.literal-index in
    let literal = c.literal-item.result in
    let below : n < length c.args.general.now = c.loop-literal-test.true in
    let bound_below : n < length (bind_clause s.by c.args.general.now) = omega (arith, below, length-map c.args.general.now (bind_literal s.by)) in
    let is = ap (bind_literal s.by) c.literal-item.is ∙ sym (get_or-map (bind_literal s.by) c.args.general.now n literal (bind_literal s.by literal) below) in
    found_there (λ other. bind_literal s.by literal ≡ other → ⊥) (bind_clause s.by c.args.general.now) c.args.special.now n (bind_literal s.by literal)
    bound_below is s.sends (c.has_place.ensures c.if-not-has_place.true s.by) refl
