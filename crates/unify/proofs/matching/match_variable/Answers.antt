use Rattle.std.proofs.Common.{List, sym, subst}
use Rattle.kif_tree.specs.declared.form.Form.TheVariants as form
use Rattle.kif_tree.specs.declared.subst.Pair.{Pair}
use Rattle.kif_tree.specs.Terms.{variables}
use Rattle.unify.specs.Bindings.{AreConsistent}
use Rattle.unify.specs.Matching.{Matched, GivesForm}
use Rattle.unify.proofs.BindingLaws.{consistent_more}
use Rattle.unify.proofs.MatchLaws.{variable_bound, variable_new}
use Rattle.unify.proofs.matching.match_variable.Goals as goal

pub returns-in-Some-clause-tried : goal.returns-in-Some-clause-tried
returns-in-Some-clause-tried c =
    λ _. variable_bound c.args.bindings.now c.args.name.now c.in-Some.term.now c.args.target.now c.forms_equal.result c.in-Some.ensures.0
    c.in-Some.ensures.1 c.forms_equal.ensures.equal

pub returns-in_ok-push-in-None-clause-consistent : goal.returns-in_ok-push-in-None-clause-consistent
returns-in_ok-push-in-None-clause-consistent c =
    λ consistent. subst AreConsistent (sym c.in_ok-push-in-None.ensures)
    (consistent_more c.args.bindings.now (record { variable = c.args.name.now; term = c.args.target.now }) c.in-None.ensures consistent)

pub returns-in_ok-push-in-None-clause-tried : goal.returns-in_ok-push-in-None-clause-tried
returns-in_ok-push-in-None-clause-tried c =
    λ _. subst (λ (new : List Pair). Matched c.args.bindings.now new (GivesForm (form.Variable c.args.name.now) c.args.target.now)
    (variables (form.Variable c.args.name.now)))
    (sym c.in_ok-push-in-None.ensures) (variable_new c.args.bindings.now c.args.name.now c.args.target.now c.in-None.ensures)
