use Rattle.std.proofs.Common.{◌≡◌, true, take}
use Rattle.std.specs.List.{list_all}
use Rattle.kif_tree.specs.Profile as spec
use Rattle.kif_tree.proofs.profile.may_be_arguments.Given as goal

abbrev pub invariant-loop-form : goal.invariant-loop-form
invariant-loop-form l = list_all spec.may_be_argument (take l.form-index l.forms) ≡ true
