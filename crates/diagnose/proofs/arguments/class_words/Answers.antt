use Rattle.diagnose.proofs.ClassWordLaws.{words_more, words_all}
use Rattle.diagnose.proofs.arguments.class_words.Goals as goal

pub loop-located-preserved : goal.loop-located-preserved
loop-located-preserved c =
    words_more c.args.forms.now c.loop-located.located-index c.located-item.result c.loop-located.words c.add_class_words.new.words c.loop-located-test.true c.located-item.is c.loop-located.invariant c.in_ok-add_class_words.ensures

pub returns : goal.returns
returns c = words_all c.args.forms.now c.loop-located.located-index c.loop-located.words c.loop-located-test.false c.loop-located.invariant
