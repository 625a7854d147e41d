use Rattle.std.proofs.Common.{◌≡◌, take}
use Rattle.std.specs.List.{flat_map}
use Rattle.translate.specs.Pieces.{inputs_of}
use Rattle.translate.proofs.piece.given_by.Given as goal

abbrev pub invariant-loop-variant : goal.invariant-loop-variant
invariant-loop-variant l = l.inputs ≡ flat_map inputs_of (take l.variant-index l.variant-items)
