use Rattle.signatures.specs.Lowers.{lows_of}
use Rattle.signatures.proofs.PassLaws.{KeysGone}
use Rattle.signatures.proofs.nearest.first_layer.Given as goal

abbrev pub invariant-loop-key : goal.invariant-loop-key
invariant-loop-key g l = KeysGone (lows_of l.lowers) l.own l.fn.notes l.notes l.next l.key-iterator
