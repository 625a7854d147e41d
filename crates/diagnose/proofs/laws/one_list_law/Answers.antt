use Rattle.diagnose.proofs.OneListLaws.{one_list}
use Rattle.diagnose.proofs.laws.one_list_law.Goals as goal

pub returns : goal.returns
returns c = one_list
