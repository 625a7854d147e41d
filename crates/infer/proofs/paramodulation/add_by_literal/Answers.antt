use Rattle.std.proofs.Common.{◌≡◌, inl, inr, true, false, None, sym, ap, ◌∙◌}
use Rattle.kif_tree.specs.declared.clause.Literal.{Literal}
use Rattle.calculus.specs.Rules.{sides}
use Rattle.calculus.proofs.PlaceLaws.{some_same}
use Rattle.calculus_programs.proofs.StepLaws.{on_ok}
use Rattle.infer.specs.Sites.{paramodulations_by}
use Rattle.infer.proofs.ListLaws.{adds-nothing, adds-append}
use Rattle.infer.proofs.ConclusionLaws.{literal_at, equation_at, both_ways, nothing_by_literal}
use Rattle.infer.proofs.paramodulation.add_by_literal.Goals as goal

pub returns-then-not-literal-clause-adds : goal.returns-then-not-literal-clause-adds
returns-then-not-literal-clause-adds c = λ clauses source_at target_at.
    let source = c.args.source.now in
    let literal = c.index-items-source.result in
    let at = literal_at source.clause.now c.items.result.now source.literal literal c.requires c.index-items-source.is (c.items.ensures ∙ c.clause.view_is) in
    adds-nothing clauses (both_ways source.number source.literal c.args.target_number c.args.target.now) c.args.found.now
    (nothing_by_literal clauses source.number source.literal c.args.target_number source.clause.now c.args.target.now source_at
    (λ other e. inl (ap (λ (l : Literal). l.positive) (some_same other literal (sym e ∙ at)) ∙ c.if-not-literal.true)))

pub returns-in_default-clause-adds : goal.returns-in_default-clause-adds
returns-in_default-clause-adds c = λ clauses source_at target_at.
    let source = c.args.source.now in
    let literal = c.index-items-source.result in
    let at = literal_at source.clause.now c.items.result.now source.literal literal c.requires c.index-items-source.is (c.items.ensures ∙ c.clause.view_is) in
    let none : sides literal.atom ≡ None = sym c.in_ok-equality.ensures ∙ c.in_default.is in
    adds-nothing clauses (both_ways source.number source.literal c.args.target_number c.args.target.now) c.args.found.now
    (nothing_by_literal clauses source.number source.literal c.args.target_number source.clause.now c.args.target.now source_at
    (λ other e. inr (ap (λ (l : Literal). sides l.atom) (some_same other literal (sym e ∙ at)) ∙ none)))

pub add_by_equality-requires : goal.add_by_equality-requires
add_by_equality-requires c =
    let source = c.args.source.now in
    let literal = c.index-items-source.result in
    let at = literal_at source.clause.now c.items.result.now source.literal literal c.requires c.index-items-source.is (c.items.ensures ∙ c.clause.view_is) in
    equation_at source.clause.now source.literal literal c.in-Some.equality false at c.if-not-literal.false (sym c.in_ok-equality.ensures ∙ c.in-Some.is)

pub add_by_equality-requires-2 : goal.add_by_equality-requires-2
add_by_equality-requires-2 c =
    let source = c.args.source.now in
    let literal = c.index-items-source.result in
    let at = literal_at source.clause.now c.items.result.now source.literal literal c.requires c.index-items-source.is (c.items.ensures ∙ c.clause.view_is) in
    equation_at source.clause.now source.literal literal c.in-Some.equality true at c.if-not-literal.false (sym c.in_ok-equality.ensures ∙ c.in-Some.is)

pub returns-clause-adds : goal.returns-clause-adds
returns-clause-adds c =
    let source = c.args.source.now in
    on_ok c.add_by_equality-2.result _ _ (λ adds clauses source_at target_at.
    adds-append clauses (paramodulations_by source.number source.literal false c.args.target_number c.args.target.now)
    (paramodulations_by source.number source.literal true c.args.target_number c.args.target.now)
    c.args.found.now c.add_by_equality.new.found c.add_by_equality-2.new.found
    (c.in_ok-add_by_equality.ensures.adds clauses source_at target_at) (adds clauses source_at target_at)) c.add_by_equality-2.ensures.adds
