use Rattle.std.proofs.Common.{sym, arith}
use Rattle.std.proofs.lemmas.List.{take_all}
use Rattle.std.proofs.lemmas.List.Folds.{list_any_at}
use Rattle.kif_tree.proofs.ProfileLaws.{any_other, any_of_list}
use Rattle.clause_form.specs.Queries.{begins_with_variable}
use Rattle.clause_form.proofs.query.+applies_variable.Goals as goal

pub returns-in_default : goal.returns-in_default
returns-in_default t c = sym (any_other begins_with_variable c.args.form.now c.in_default.not-List)

pub returns-then-begins_with_variable : goal.returns-then-begins_with_variable
returns-then-begins_with_variable t c =
    let whole = any_of_list begins_with_variable c.args.form.now c.in-List.parts c.in-List.is in
    grind (arith, whole)

pub returns-then-applies_variable : goal.returns-then-applies_variable
returns-then-applies_variable t c =
    let whole = any_of_list begins_with_variable c.args.form.now c.in-List.parts c.in-List.is in
    grind (arith, whole, list_any_at)

pub returns : goal.returns
returns t c =
    let whole = any_of_list begins_with_variable c.args.form.now c.in-List.parts c.in-List.is in
    grind (arith, whole, take_all)
