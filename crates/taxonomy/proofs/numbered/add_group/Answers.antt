use Rattle.taxonomy.proofs.NumberedLaws.{no_more_groups, more_groups}
use Rattle.taxonomy.proofs.numbered.add_group.Goals as goal

pub returns-in_default-clause-added : goal.returns-in_default-clause-added
returns-in_default-clause-added c = no_more_groups c.args.form.now c.args.names.now.words.items c.args.groups.now.items c.in_default.ensures

pub returns-clause-added : goal.returns-clause-added
returns-clause-added c =
    more_groups c.args.form.now c.in-Some.parts.now c.args.names.now.words.items c.numbered_words.new.names.words.items c.args.groups.now.items c.push.new.self.items c.in_ok-words.words c.in-Some.ensures
    c.in_ok-words.ensures.extends c.in_ok-words.ensures.words c.in_ok-push.ensures.items
