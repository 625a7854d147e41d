use Rattle.std.proofs.Common.{◌≡◌, true, take}
use Rattle.std.specs.List.{list_all}
use Rattle.calculus.specs.Proper.{has_word_heads}
use Rattle.calculus_programs.proofs.proper.+has_word_heads.Given as goal

abbrev pub invariant-loop-part : goal.invariant-loop-part
invariant-loop-part l = list_all has_word_heads (take l.part-index l.part-items) ≡ true
