use Rattle.std.proofs.Common.{◌≡◌, true, take}
use Rattle.std.specs.Prelude.{is_some}
use Rattle.taxonomy.specs.Told.{word_texts}
use Rattle.taxonomy.proofs.forms.are_words.Given as goal

abbrev pub invariant-loop-part : goal.invariant-loop-part
invariant-loop-part l = is_some (word_texts (take l.part-index l.parts)) ≡ true
