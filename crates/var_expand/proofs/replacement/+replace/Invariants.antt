use Rattle.std.proofs.Common.{◌≡◌, take}
use Rattle.std.specs.List.{flat_map}
use Rattle.var_expand.specs.Spliced.{spliced_part}
use Rattle.var_expand.proofs.replacement.+replace.Given as goal

abbrev pub invariant-spliced-loop-part : goal.invariant-spliced-loop-part
invariant-spliced-loop-part l = l.forms ≡ flat_map (spliced_part l.choice) (take l.part-index l.parts)
