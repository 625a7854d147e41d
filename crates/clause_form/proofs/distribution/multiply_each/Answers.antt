use Rattle.std.proofs.Common.{◌≡◌, List, sym, ap, ◌∙◌}
use Rattle.std.proofs.lemmas.Iterator.Consumers.{YieldsList-end}
use Rattle.std.proofs.lemmas.Iterator.Adapters.{YieldsList-from_vec}
use Rattle.std.proofs.lemmas.List.{map-id}
use Rattle.kif_tree.specs.Clauses.{Literals}
use Rattle.clause_form.proofs.ProductLaws.{times, products_two}
use Rattle.clause_form.proofs.distribution.multiply_each.Goals as goal

pub returns : goal.returns
returns c =
    let gives = c.into_iter-clause-iterator.ensures.into_iter_gives in
    let vec = c.into_items-clause-items.result in
    let ends = YieldsList-end (YieldsList-from_vec {s = c.into_iter-clause-iterator.result} vec.items gives.0 (gives.1 ∙ vec.ok.0)) c.loop-clause.yielded c.loop-clause.clause-iterator c.loop-clause.yielded_by c.next.result c.next.new.self c.in-None.is c.next.ensures.steps in
    let whole : c.loop-clause.yielded ≡ c.args.clauses = sym (map-id c.loop-clause.yielded) ∙ ends.0 ∙ c.into_items-clause-items.ensures in
    c.loop-clause.invariant ∙ ap (λ (clauses : List Literals). times clauses c.args.others.now) whole ∙ sym (products_two c.args.clauses c.args.others.now)
