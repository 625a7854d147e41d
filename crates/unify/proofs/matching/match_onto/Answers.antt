use Rattle.std.proofs.Common.{sym, subst}
use Rattle.kif_tree.specs.Terms.{variables}
use Rattle.unify.specs.Matching.{IsMatch, GivesForm}
use Rattle.unify.proofs.MatchLaws.{reached, match_of}
use Rattle.unify.proofs.matching.match_onto.Goals as goal

pub returns : goal.returns
returns c =
    subst (λ pairs. IsMatch pairs c.args.pattern.now c.args.target.now) (sym c.in_ok-copied.ensures)
    (match_of c.new-bindings.result c.match_form.new.bindings c.args.pattern.now c.args.target.now c.new-bindings.ensures
    c.in_ok-match_form.ensures.consistent
    (λ consistent. reached c.new-bindings.result c.match_form.new.bindings (GivesForm c.args.pattern.now c.args.target.now) (variables c.args.pattern.now)
    c.in_ok-match_form.field-0 c.if-not-branch.false (c.in_ok-match_form.ensures.tried consistent)))
