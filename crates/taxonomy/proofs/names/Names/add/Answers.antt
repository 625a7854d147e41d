use Rattle.std.proofs.Common.{arith}
use Rattle.taxonomy.proofs.NameLaws.{numbered_by}
use Rattle.taxonomy.proofs.names.Names.add.Goals as goal

pub returns-clause-numbered : goal.returns-clause-numbered
returns-clause-numbered c =
    numbered_by c.args.self.now.keys.entries c.insert.new.self.entries c.args.self.now.places.items c.push-2.new.self.items c.args.self.now.words.items c.push.new.self.items c.in_ok-bytes.bytes c.args.word.now c.in_ok-of.field-0
    c.len-number.result c.len-key.result c.requires c.in_default.ensures c.in_ok-bytes.ensures.items c.in_ok-of.ensures (omega (arith, c.args.self.now.words.ok.0)) (omega (arith, c.args.self.now.places.ok.0)) c.in_ok-push.ensures.items
    c.in_ok-push-2.ensures.items c.in_ok-insert.ensures.updates.1 c.in_ok-insert.ensures.updates.3
