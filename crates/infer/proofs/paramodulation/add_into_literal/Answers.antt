use Rattle.std.proofs.Common.{◌≡◌, [], true, false, refl, sym, ap, ◌∙◌}
use Rattle.kif_tree.specs.declared.clause.Literal.{Literal}
use Rattle.kif_tree.specs.Clauses.{is_answer}
use Rattle.calculus.proofs.PlaceLaws.{some_same}
use Rattle.calculus_programs.proofs.OpenLaws.{opened_end}
use Rattle.calculus_programs.proofs.StepLaws.{on_ok}
use Rattle.infer.specs.Sites.{paramodulation_sites}
use Rattle.infer.proofs.ListLaws.{adds-nothing, adds-same}
use Rattle.infer.proofs.ConclusionLaws.{literal_at, nothing_into_literal, sites_inside}
use Rattle.infer.proofs.paramodulation.add_into_literal.Goals as goal

pub returns-then-is_answer-clause-adds : goal.returns-then-is_answer-clause-adds
returns-then-is_answer-clause-adds c = λ clauses source_at target_at.
    let equality = c.args.equality.now in
    let target = c.args.target.now in
    let literal = c.index-items-target.result in
    let at = literal_at target.clause.now c.items.result.now target.literal literal c.requires.there c.index-items-target.is
    (c.items.ensures ∙ c.clause.view_is) in
    let answer : is_answer literal.atom ≡ true = sym c.is_answer.ensures ∙ c.if-is_answer.true in
    adds-nothing clauses
    (paramodulation_sites equality.source.number equality.source.literal equality.flipped target.number target.clause.now target.literal) c.args.found.now
    (nothing_into_literal clauses equality.source.number equality.source.literal equality.flipped target.number target.clause.now target.literal target_at
    (λ other e. ap (λ (l : Literal). is_answer l.atom) (some_same other literal (sym e ∙ at)) ∙ answer))

pub add_inside-requires-clause-leads : goal.add_inside-requires-clause-leads
add_inside-requires-clause-leads c =
    let target = c.args.target.now in
    let literal = c.index-items-target.result in
    record {
      literal = literal;
      at = literal_at target.clause.now c.items.result.now target.literal literal c.requires.there c.index-items-target.is (c.items.ensures ∙ c.clause.view_is);
      place = record { frames = []; inner = literal.atom };
      opens = opened_end c.new-path.result.items literal.atom c.new-path.ensures.items;
      is = refl;
    }

pub add_inside-requires-clause-asserts : goal.add_inside-requires-clause-asserts
add_inside-requires-clause-asserts c = λ other e.
    let target = c.args.target.now in
    let literal = c.index-items-target.result in
    let at = literal_at target.clause.now c.items.result.now target.literal literal c.requires.there c.index-items-target.is
    (c.items.ensures ∙ c.clause.view_is) in
    let asserts : is_answer literal.atom ≡ false = sym c.is_answer.ensures ∙ c.if-is_answer.false in
    ap (λ (l : Literal). is_answer l.atom) (some_same other literal (sym e ∙ at)) ∙ asserts

pub returns-clause-adds : goal.returns-clause-adds
returns-clause-adds c =
    let equality = c.args.equality.now in
    let target = c.args.target.now in
    let literal = c.index-items-target.result in
    let at = literal_at target.clause.now c.items.result.now target.literal literal c.requires.there c.index-items-target.is
    (c.items.ensures ∙ c.clause.view_is) in
    on_ok c.add_inside.result _ _ (λ adds clauses source_at target_at.
    adds-same clauses _
    (paramodulation_sites equality.source.number equality.source.literal equality.flipped target.number target.clause.now target.literal)
    c.args.found.now c.add_inside.new.found
    (sites_inside equality.source.number equality.source.literal equality.flipped target.number target.clause.now target.literal literal
    c.new-path.result.items at c.new-path.ensures.items)
    (adds clauses source_at target_at)) c.add_inside.ensures.adds
