use Rattle.std.proofs.Common.{sym}
use Rattle.signatures.proofs.LowerLaws.{adds_no_link}
use Rattle.signatures.proofs.lowers.add_lower.Goals as goal

pub returns-in_default : goal.returns-in_default
returns-in_default c = adds_no_link c.args.table.now c.args.located.now (sym c.in_default.ensures)
