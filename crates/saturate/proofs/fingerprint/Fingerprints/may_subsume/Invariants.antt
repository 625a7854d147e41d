use Rattle.std.proofs.Common.{◌≡◌, true, take}
use Rattle.std.specs.List.{list_all}
use Rattle.saturate.specs.Fingerprints as spec
use Rattle.saturate.proofs.fingerprint.Fingerprints.may_subsume.Given as goal

abbrev pub invariant-loop-print : goal.invariant-loop-print
invariant-loop-print l = list_all (λ print. spec.may_be_in print l.others) (take l.print-index l.self.others) ≡ true
