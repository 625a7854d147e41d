use Rattle.std.proofs.Common.{◌≡◌, take}
use Rattle.translate.specs.Pieces as spec
use Rattle.translate.proofs.piece.guarded_variants.Given as goal

abbrev pub invariant-loop-variant : goal.invariant-loop-variant
invariant-loop-variant l = record {
  numbered : l.guarded ≡ spec.guarded_variants l.signatures l.place (take l.variant-index l.variants);
  counted : l.number ≡ l.variant-index;
}
