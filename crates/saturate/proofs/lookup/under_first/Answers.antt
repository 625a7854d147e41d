use Rattle.calculus_programs.proofs.PickLaws.{ok_map}
use Rattle.saturate.proofs.LookupLaws.{second_decides}
use Rattle.saturate.proofs.lookup.under_first.Goals as goal

pub returns : goal.returns
returns c = ok_map c.under_second-2.result _ _ (second_decides c.in_ok-under_second.field-0 c.in_ok-under_second.ensures c.if-branch.false) c.under_second-2.ensures
