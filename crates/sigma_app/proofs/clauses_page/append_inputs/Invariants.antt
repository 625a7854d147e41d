use Rattle.std.proofs.Common.{◌≡◌, ◌++◌, take}
use Rattle.std.specs.List.{flat_map}
use Rattle.sigma_app.specs.ClausesPage as spec
use Rattle.sigma_app.proofs.clauses_page.append_inputs.Given as goal

abbrev pub invariant-loop-input : goal.invariant-loop-input
invariant-loop-input l = l.out ≡ l.initial.out ++ flat_map (spec.input_text l.names) (take l.input-index l.inputs)
