use Rattle.std.proofs.Common.{sym, arith}
use Rattle.std.proofs.lemmas.List.{take_all}
use Rattle.std.proofs.lemmas.List.Folds.{list_any_at}
use Rattle.kif_tree.specs.Profile.{begins_with_one}
use Rattle.kif_tree.proofs.ProfileLaws.{any_other, any_of_list}
use Rattle.kif_tree.proofs.profile.+applies.Goals as goal

pub returns-in_default : goal.returns-in_default
returns-in_default t c = sym (any_other (begins_with_one c.args.names.now) c.args.form.now c.in_default.not-List)

pub returns-then-begins_with_one : goal.returns-then-begins_with_one
returns-then-begins_with_one t c =
    let whole = any_of_list (begins_with_one c.args.names.now) c.args.form.now c.in-List.parts c.in-List.is in
    grind (arith, whole)

pub returns-then-applies : goal.returns-then-applies
returns-then-applies t c =
    let whole = any_of_list (begins_with_one c.args.names.now) c.args.form.now c.in-List.parts c.in-List.is in
    grind (arith, whole, list_any_at)

pub returns : goal.returns
returns t c =
    let whole = any_of_list (begins_with_one c.args.names.now) c.args.form.now c.in-List.parts c.in-List.is in
    grind (arith, whole, take_all)
