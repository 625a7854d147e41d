use Rattle.std.proofs.Common.{◌≡◌, map, take}
use Rattle.saturate.specs.Fingerprints as spec
use Rattle.saturate.proofs.fingerprint.others_of.Given as goal

abbrev pub invariant-loop-literal : goal.invariant-loop-literal
invariant-loop-literal l = l.prints ≡ map spec.fingerprint (take l.literal-index l.others)
