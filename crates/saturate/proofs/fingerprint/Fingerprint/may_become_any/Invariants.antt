use Rattle.std.proofs.Common.{◌≡◌, false, take}
use Rattle.std.specs.List.{list_any}
use Rattle.saturate.specs.Fingerprints as spec
use Rattle.saturate.proofs.fingerprint.Fingerprint.may_become_any.Given as goal

abbrev pub invariant-loop-other : goal.invariant-loop-other
invariant-loop-other l = list_any (spec.may_become l.self) (take l.other-index l.others) ≡ false
