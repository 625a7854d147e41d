use Rattle.std.specs.BTreeMap.{keys}
use Rattle.signatures.proofs.NameLaws.{ascending}
use Rattle.signatures.proofs.names.in_order.Goals as goal

pub returns-clause-ascending : goal.returns-clause-ascending
returns-clause-ascending c = ascending (keys c.args.words) c.len.ensures.ordered
