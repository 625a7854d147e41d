use Rattle.taxonomy.proofs.NumberedLaws.{no_more_links, more_links}
use Rattle.taxonomy.proofs.numbered.add_link.Goals as goal

pub returns-in_default-clause-added : goal.returns-in_default-clause-added
returns-in_default-clause-added c = no_more_links c.args.form.now c.args.names.now.words.items c.args.links.now.items c.in_default.ensures

pub returns-clause-added : goal.returns-clause-added
returns-clause-added c =
    let found = c.in-Some.found in
    more_links c.args.form.now c.args.names.now.words.items c.add.new.self.words.items c.add-2.new.self.words.items c.args.links.now.items c.push.new.self.items found.kind c.in_ok-low.low c.in_ok-high.high found.place
    found.low.now found.high.now c.bytes.result.now c.bytes-2.result.now c.in_ok-low.ensures.added c.in_ok-high.ensures.added c.bytes.ensures c.bytes-2.ensures c.in_ok-push.ensures.items c.in-Some.ensures
