use Rattle.infer.proofs.AlikeLaws.{one_list}
use Rattle.infer.proofs.laws.one_list_law.Goals as goal

pub returns : goal.returns
returns c = one_list
