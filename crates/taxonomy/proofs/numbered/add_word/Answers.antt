use Rattle.taxonomy.proofs.NumberedLaws.{no_more_words, more_words}
use Rattle.taxonomy.proofs.numbered.add_word.Goals as goal

pub returns-in_default-clause-added : goal.returns-in_default-clause-added
returns-in_default-clause-added c = no_more_words c.args.part.now c.args.names.now.words.items c.args.numbers.now c.in_default.ensures

pub returns-clause-added : goal.returns-clause-added
returns-clause-added c =
    more_words c.args.part.now c.args.names.now.words.items c.add.new.self.words.items c.args.numbers.now c.push.new.self c.in_ok-number.number c.in-Some.text.now c.bytes.result.now c.in_ok-number.ensures.added c.bytes.ensures
    c.in_ok-push.ensures.ok c.in-Some.ensures
