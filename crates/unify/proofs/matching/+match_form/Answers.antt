use Rattle.std.proofs.Common.{sym, ap, ◌∙◌, arith}
use Rattle.std.proofs.lemmas.Result.{IfOk-weaker}
use Rattle.kif_tree.specs.declared.form.Form.TheVariants as form
use Rattle.kif_tree.specs.Terms.{variables}
use Rattle.kif_tree.specs.Subst.{bind}
use Rattle.unify.specs.Bindings.{AreConsistent}
use Rattle.unify.specs.Matching.{Tried, GivesForm, GivesForms, variables_of_all}
use Rattle.unify.proofs.MatchLaws.{grows_not, grows_twice, other_kind, tried_list, no_list, one_more_matched, part_unmatched, reached, missed}
use Rattle.unify.proofs.matching.+match_form.Goals as goal

pub match_form-returns-in_default-target : goal.match_form-returns-in_default-target
match_form-returns-in_default-target t c = record {
  grows = grows_not c.args.bindings.now;
  consistent = λ consistent. consistent;
  tried = λ _ g agrees h. no_list c.in-List.parts c.args.target.now c.in_default-target.not-List g (ap (bind g) (sym c.in-List.is) ∙ h);
}

pub match_form-returns-in-List-target-clause-tried : goal.match_form-returns-in-List-target-clause-tried
match_form-returns-in-List-target-clause-tried t c =
    rw c.in-List.is (rw c.in-List-target.is (rw (sym c.items.ensures) (rw (sym c.items-in-List.ensures)
    (IfOk-weaker c.match_parts.result
    (λ done. AreConsistent c.args.bindings.now
    → Tried c.args.bindings.now c.match_parts.new.bindings (GivesForms c.items.result.now c.items-in-List.result.now)
    (variables_of_all c.items.result.now) done)
    (λ done. AreConsistent c.args.bindings.now
    → Tried c.args.bindings.now c.match_parts.new.bindings (GivesForm (form.List c.items.result.now) (form.List c.items-in-List.result.now))
    (variables (form.List c.items.result.now)) done)
    (λ done tried consistent. tried_list c.args.bindings.now c.match_parts.new.bindings c.items.result.now c.items-in-List.result.now done (tried consistent))
    c.match_parts.ensures.tried))))

pub match_form-returns-in_default : goal.match_form-returns-in_default
match_form-returns-in_default t c = record {
  grows = grows_not c.args.bindings.now;
  consistent = λ consistent. consistent;
  tried = λ _. other_kind c.args.bindings.now c.args.pattern.now c.args.target.now c.forms_equal.result c.in_default.not-Variable c.in_default.not-List
      c.forms_equal.ensures.equal;
}

pub match_parts-returns-then-not-branch-clause-tried : goal.match_parts-returns-then-not-branch-clause-tried
match_parts-returns-then-not-branch-clause-tried t c =
    λ consistent. part_unmatched c.args.bindings.now c.loop-at.bindings c.args.patterns.now c.args.targets.now c.loop-at.at c.index-patterns-at.result
    c.index-targets-at.result
    c.loop-at-test.true c.index-patterns-at.is c.index-targets-at.is (c.loop-at.invariant.2 consistent)
    (missed c.loop-at.bindings c.match_form.new.bindings (GivesForm c.index-patterns-at.result c.index-targets-at.result)
    (variables c.index-patterns-at.result)
    c.in_ok-match_form.field-0 c.if-not-branch.true (c.in_ok-match_form.ensures.tried (c.loop-at.invariant.1 consistent)))

pub match_parts-loop-at-preserved : goal.match_parts-loop-at-preserved
match_parts-loop-at-preserved t c = (
  grows_twice c.args.bindings.now c.loop-at.bindings c.match_form.new.bindings c.loop-at.invariant.0 c.in_ok-match_form.ensures.grows,
  (λ consistent. c.in_ok-match_form.ensures.consistent (c.loop-at.invariant.1 consistent)),
  λ consistent. one_more_matched c.args.bindings.now c.loop-at.bindings c.match_form.new.bindings c.args.patterns.now c.args.targets.now c.loop-at.at
      c.index-patterns-at.result c.index-targets-at.result c.loop-at-test.true (omega arith) c.index-patterns-at.is c.index-targets-at.is
      (c.loop-at.invariant.2 consistent)
      (reached c.loop-at.bindings c.match_form.new.bindings (GivesForm c.index-patterns-at.result c.index-targets-at.result)
      (variables c.index-patterns-at.result)
      c.in_ok-match_form.field-0 c.if-not-branch.false (c.in_ok-match_form.ensures.tried (c.loop-at.invariant.1 consistent))),
)
