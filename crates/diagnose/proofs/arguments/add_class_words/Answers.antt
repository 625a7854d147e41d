use Rattle.diagnose.proofs.ClassWordLaws.{words_both}
use Rattle.diagnose.proofs.arguments.add_class_words.Goals as goal

pub returns : goal.returns
returns c =
    words_both c.args.form.now c.in-Some.link.low.now c.in-Some.link.high.now c.bytes.result.now c.bytes-2.result.now c.args.words.now c.add.new.self c.add-2.new.self c.in-Some.ensures c.bytes.ensures c.bytes-2.ensures
    c.in_ok-add.ensures.has c.in_ok-add-2.ensures.has
