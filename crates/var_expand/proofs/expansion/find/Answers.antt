use Rattle.std.proofs.Common.{◌∙◌, sym, ap, subst, map}
use Rattle.var_expand.specs.Search.{IsOffer, IsBegun, offered_variable, filled, fitting}
use Rattle.var_expand.proofs.FinalLaws.{are_offers, each_take, each_drop, begun_first, found_all, found_none}
use Rattle.var_expand.proofs.expansion.find.Goals as goal

pub parts_complete-requires-clause-names : goal.parts_complete-requires-clause-names
parts_complete-requires-clause-names c = each_take (IsOffer c.args.problem.now) _ c.args.offers.now (are_offers c.args.problem.now c.args.offers.now c.requires.offers)

pub parts_complete-requires-clause-rows : goal.parts_complete-requires-clause-rows
parts_complete-requires-clause-rows c = each_take (IsOffer c.args.problem.now) _ _ (each_drop (IsOffer c.args.problem.now) _ c.args.offers.now (are_offers c.args.problem.now c.args.offers.now c.requires.offers))

pub returns-then-not-branch : goal.returns-then-not-branch
returns-then-not-branch c = found_none c.args.problem.now c.args.offers.now c.args.found.now c.requires.offers c.requires.distinct (c.in_ok-parts_complete.ensures c.if-not-branch.true)

pub grow-requires-clause-names : goal.grow-requires-clause-names
grow-requires-clause-names c = each_take (IsOffer c.args.problem.now) _ c.args.offers.now (are_offers c.args.problem.now c.args.offers.now c.requires.offers)

pub grow-requires-clause-rows : goal.grow-requires-clause-rows
grow-requires-clause-rows c = each_take (IsOffer c.args.problem.now) _ _ (each_drop (IsOffer c.args.problem.now) _ c.args.offers.now (are_offers c.args.problem.now c.args.offers.now c.requires.offers))

pub grow-requires-clause-rest : goal.grow-requires-clause-rest
grow-requires-clause-rest c = are_offers c.args.problem.now c.args.offers.now c.requires.offers

pub grow-requires-clause-begun : goal.grow-requires-clause-begun
grow-requires-clause-begun c = subst (λ choice. IsBegun c.args.problem.now choice (map offered_variable c.args.offers.now)) (sym c.new-choice.ensures.items) (begun_first c.args.problem.now c.args.offers.now c.requires.offers c.requires.distinct)

pub returns : goal.returns
returns c = c.in_ok-grow.ensures.found ∙ ap (filled c.args.found.now)
    (ap (λ choice. fitting c.args.problem.now choice (map offered_variable c.args.offers.now)) c.new-choice.ensures.items ∙ found_all c.args.problem.now c.args.offers.now c.requires.offers)
