use Rattle.std.proofs.Common.{◌≡◌, false, take}
use Rattle.std.specs.List.{list_any}
use Rattle.saturate.specs.Fingerprints as spec
use Rattle.saturate.proofs.fingerprint.Fingerprints.may_meet.Given as goal

abbrev pub invariant-loop-print : goal.invariant-loop-print
invariant-loop-print l = list_any (λ print. spec.may_resolve print l.others) (take l.print-index l.print-items) ≡ false
