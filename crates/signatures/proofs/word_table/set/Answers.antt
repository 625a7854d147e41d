use Rattle.signatures.proofs.WordTableLaws.{set_by}
use Rattle.signatures.proofs.word_table.set.Goals as goal

pub returns : goal.returns
returns g c = set_by c.args.table.now c.insert.new.self c.in_ok-key.key c.args.word.now c.args.value c.in_ok-key.ensures.items c.in_ok-insert.ensures.updates
