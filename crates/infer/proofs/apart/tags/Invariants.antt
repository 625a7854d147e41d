use Rattle.std.proofs.Common.{◌≡◌, take}
use Rattle.infer.specs.Fillings.{tags as tags_of}
use Rattle.infer.proofs.apart.tags.Given as goal

abbrev pub invariant-loop-name : goal.invariant-loop-name
invariant-loop-name l = l.pairs ≡ tags_of l.tag (take l.name-index l.name-items)
