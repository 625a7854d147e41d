use Rattle.std.proofs.Common.{◌≡◌, ◌++◌, take}
use Rattle.std.specs.List.{flat_map}
use Rattle.sigma_app.specs.CheckPage as spec
use Rattle.sigma_app.proofs.check_page.append_diagnostics.Given as goal

abbrev pub invariant-loop-diagnostic : goal.invariant-loop-diagnostic
invariant-loop-diagnostic l = l.out ≡ l.initial.out ++ flat_map (spec.diagnostic_text l.names) (take l.diagnostic-index l.list)
