use Rattle.kif_tree.proofs.SubstLaws.{agree, agree_back}
use Rattle.kif_tree.proofs.laws.agreement_law.Goals as goal

pub returns : goal.returns
returns c = record { agree = agree; only = agree_back }
