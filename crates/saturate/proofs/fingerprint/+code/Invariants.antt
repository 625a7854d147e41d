use Rattle.std.proofs.Common.{◌≡◌, ◌<◌, drop, map}
use Rattle.saturate.specs.Fingerprints as spec
use Rattle.saturate.proofs.fingerprint.+code.Given as goal

abbrev pub invariant-loop-part : goal.invariant-loop-part
invariant-loop-part l = record {
  below : l.joined < 2147483648;
  left : spec.code_of_parts l.joined (map spec.code (drop l.part-index l.part-items)) ≡ spec.code_of_parts 4 (map spec.code l.part-items);
}
