use Rattle.std.proofs.Common.{◌≡◌, false, take}
use Rattle.std.specs.List.{list_any}
use Rattle.translate.proofs.PieceLaws.{passes}
use Rattle.translate.proofs.piece.some_has_too_many.Given as goal

abbrev pub invariant-loop-variant : goal.invariant-loop-variant
invariant-loop-variant l = list_any passes (take l.variant-index l.variants) ≡ false
