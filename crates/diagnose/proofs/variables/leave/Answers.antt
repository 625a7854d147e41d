use Rattle.diagnose.proofs.VariableLaws.{left}
use Rattle.diagnose.proofs.variables.leave.Goals as goal

pub returns-clause-free : goal.returns-clause-free
returns-clause-free c = left c.join.result c.args.within c.remove_listed.new.set c.args.listed.now c.args.free.now c.join.new.self c.remove_listed.ensures c.join.ensures
