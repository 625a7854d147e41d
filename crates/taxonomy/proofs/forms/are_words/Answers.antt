use Rattle.taxonomy.proofs.FormLaws.{words_more, words_fail}
use Rattle.taxonomy.proofs.forms.are_words.Goals as goal

pub returns-in_default : goal.returns-in_default
returns-in_default c = words_fail c.args.parts.now c.loop-part.part-index c.part-item.result c.loop-part-test.true c.part-item.is c.in_default.ensures

pub loop-part-preserved : goal.loop-part-preserved
loop-part-preserved c = words_more c.args.parts.now c.loop-part.part-index c.part-item.result c.in-Some.field-0.now c.loop-part-test.true c.part-item.is c.in-Some.ensures c.loop-part.invariant
