use Rattle.std.proofs.Common.{◌≡◌, take}
use Rattle.sigma_base.specs.Lists.{Each}
use Rattle.diagnose.specs.declared.diagnostic.Diagnostic.{Diagnostic}
use Rattle.diagnose.proofs.merged.count_at.Given as goal

abbrev pub invariant-loop-diagnostic : goal.invariant-loop-diagnostic
invariant-loop-diagnostic l = (l.count ≡ l.diagnostic-index) × Each (λ (d : Diagnostic). d.place ≡ l.place) (take l.diagnostic-index l.list)
