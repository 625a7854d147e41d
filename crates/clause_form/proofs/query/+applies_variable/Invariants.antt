use Rattle.std.proofs.Common.{◌≡◌, false, take}
use Rattle.std.specs.List.{list_any}
use Rattle.clause_form.specs.Queries as spec
use Rattle.clause_form.proofs.query.+applies_variable.Given as goal

abbrev pub invariant-loop-part : goal.invariant-loop-part
invariant-loop-part l = list_any spec.applies_variable (take l.part-index l.part-items) ≡ false
