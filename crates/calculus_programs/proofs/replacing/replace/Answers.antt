use Rattle.std.proofs.Common.{◌≡◌, None, Some, sym, ap, ◌∙◌}
use Rattle.kif_tree.specs.declared.clause.Literal.{Literal}
use Rattle.kif_tree.specs.Subst.{lookup}
use Rattle.calculus.specs.Rules.{sides}
use Rattle.calculus_programs.proofs.OpenLaws.{absent, replaced_no_source, replaced_no_sides, replaced_sides}
use Rattle.calculus_programs.proofs.PickLaws.{ok_map}
use Rattle.calculus_programs.proofs.replacing.replace.Goals as goal

pub returns-then-source : goal.returns-then-source
returns-then-source c =
    let source = c.args.source.now in
    let target = c.args.target.now in
    sym (replaced_no_source source.literals.now source.at c.args.flipped (lookup source.subst.now.pairs) target.literals.now target.at c.args.path.now (lookup target.subst.now.pairs) c.if-source.true)

pub returns-in_default : goal.returns-in_default
returns-in_default c =
    let source = c.args.source.now in
    let target = c.args.target.now in
    let none : sides c.index-source-source.result.atom ≡ None = ap (λ (l : Literal). sides l.atom) c.index-source-source.is ∙ sym c.in_ok-equality.ensures ∙ absent c.in_ok-equality.field-0 c.in_default.not-Some in
    sym (replaced_no_sides source.literals.now source.at c.args.flipped (lookup source.subst.now.pairs) target.literals.now target.at c.args.path.now (lookup target.subst.now.pairs)
    c.index-source-source.result c.if-source.false c.index-source-source.is none)

pub returns : goal.returns
returns c =
    let source = c.args.source.now in
    let target = c.args.target.now in
    let some : sides c.index-source-source.result.atom ≡ Some c.in-Some.equality = ap (λ (l : Literal). sides l.atom) c.index-source-source.is ∙ sym c.in_ok-equality.ensures ∙ c.in-Some.is in
    let whole = replaced_sides source.literals.now source.at c.args.flipped (lookup source.subst.now.pairs) target.literals.now target.at c.args.path.now (lookup target.subst.now.pairs)
    c.index-source-source.result c.in-Some.equality c.if-source.false c.index-source-source.is some in
    ok_map c.replace_by.result _ _ (λ answer h. h c.index-source-source.result c.index-source-source.is ∙ sym whole) c.replace_by.ensures
