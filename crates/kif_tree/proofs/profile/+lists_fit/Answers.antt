use Rattle.std.proofs.Common.{sym, arith}
use Rattle.std.proofs.lemmas.List.{take_all}
use Rattle.std.proofs.lemmas.List.Folds.{list_all_at}
use Rattle.kif_tree.specs.Profile.{fits}
use Rattle.kif_tree.proofs.ProfileLaws.{all_other, all_of_list}
use Rattle.kif_tree.proofs.profile.+lists_fit.Goals as goal

pub returns-in_default : goal.returns-in_default
returns-in_default t c = sym (all_other fits c.args.form.now c.in_default.not-List)

pub returns-then-not-fits : goal.returns-then-not-fits
returns-then-not-fits t c =
    let whole = all_of_list fits c.args.form.now c.in-List.parts c.in-List.is in
    grind (arith, whole)

pub returns-then-not-lists_fit : goal.returns-then-not-lists_fit
returns-then-not-lists_fit t c =
    let whole = all_of_list fits c.args.form.now c.in-List.parts c.in-List.is in
    grind (arith, whole, list_all_at)

pub returns : goal.returns
returns t c =
    let whole = all_of_list fits c.args.form.now c.in-List.parts c.in-List.is in
    grind (arith, whole, take_all)
