use Rattle.signatures.specs.OneTables.{one_tables}
use Rattle.signatures.proofs.laws.one_tables_law.Goals as goal

pub returns : goal.returns
returns c = one_tables
