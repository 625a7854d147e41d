use Rattle.signatures.proofs.NameLaws.{ordered_by}
use Rattle.signatures.proofs.names.mark_ordered.Goals as goal

pub returns : goal.returns
returns c = ordered_by c.args.marks.now c.insert.new.self c.in_ok-key.key c.args.word.now tt c.in_ok-key.ensures.items c.in_ok-insert.ensures.entries
