use Rattle.std.proofs.Common.{◌≡◌, None, Some, sym, ap, ◌∙◌}
use Rattle.kif_tree.specs.declared.clause.Literal.{Literal}
use Rattle.kif_tree.specs.Subst.{lookup}
use Rattle.calculus.specs.Rules.{opened}
use Rattle.calculus_programs.specs.Picks.{picked}
use Rattle.calculus_programs.proofs.OpenLaws.{absent, placed_no_target, placed_no_place, placed_at}
use Rattle.calculus_programs.proofs.PickLaws.{ok_map}
use Rattle.calculus_programs.proofs.replacing.replace_by.Goals as goal

pub returns-then-target : goal.returns-then-target
returns-then-target c = λ s is.
    let source = c.args.source.now in
    let target = c.args.target.now in
    sym (placed_no_target (lookup source.subst.now.pairs) c.args.flipped (picked source.literals.now source.at s) c.args.equality.now target.literals.now target.at c.args.path.now (lookup target.subst.now.pairs) c.if-target.true)

pub returns-in_default : goal.returns-in_default
returns-in_default c = λ s is.
    let source = c.args.source.now in
    let target = c.args.target.now in
    let none : opened c.args.path.now c.index-target-target.result.atom ≡ None = ap (λ (l : Literal). opened c.args.path.now l.atom) c.index-target-target.is ∙ sym c.in_ok-place.ensures ∙ absent c.in_ok-place.field-0 c.in_default.not-Some in
    sym (placed_no_place (lookup source.subst.now.pairs) c.args.flipped (picked source.literals.now source.at s) c.args.equality.now target.literals.now target.at c.args.path.now (lookup target.subst.now.pairs)
    c.index-target-target.result c.if-target.false c.index-target-target.is none)

pub returns : goal.returns
returns c =
    let source = c.args.source.now in
    let target = c.args.target.now in
    let some : opened c.args.path.now c.index-target-target.result.atom ≡ Some c.in-Some.place = ap (λ (l : Literal). opened c.args.path.now l.atom) c.index-target-target.is ∙ sym c.in_ok-place.ensures ∙ c.in-Some.is in
    ok_map c.replaced_by.result _ _ (λ answer h s is.
    h s c.index-target-target.result is c.index-target-target.is
    ∙ sym (placed_at (lookup source.subst.now.pairs) c.args.flipped (picked source.literals.now source.at s) c.args.equality.now target.literals.now target.at c.args.path.now (lookup target.subst.now.pairs)
    c.index-target-target.result c.in-Some.place c.if-target.false c.index-target-target.is some)) c.replaced_by.ensures
