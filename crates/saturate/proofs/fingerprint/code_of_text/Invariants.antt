use Rattle.std.proofs.Common.{◌≡◌, ◌<◌, drop}
use Rattle.saturate.specs.Fingerprints as spec
use Rattle.saturate.proofs.fingerprint.code_of_text.Given as goal

abbrev pub invariant-loop-byte : goal.invariant-loop-byte
invariant-loop-byte l = record {
  below : l.code < 2147483648;
  left : spec.code_of_text l.code (drop l.byte-index l.text) ≡ spec.code_of_text l.kind l.text;
}
