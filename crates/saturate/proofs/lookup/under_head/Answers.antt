use Rattle.calculus_programs.proofs.PickLaws.{ok_map}
use Rattle.saturate.proofs.LookupLaws.{yes_first, second_decides}
use Rattle.saturate.proofs.lookup.under_head.Goals as goal

pub returns-then-branch : goal.returns-then-branch
returns-then-branch c = yes_first (c.in_ok-under_first.ensures.0 c.if-branch.true)

pub returns : goal.returns
returns c = ok_map c.under_first-2.result _ _ (second_decides c.in_ok-under_first.field-0 c.in_ok-under_first.ensures c.if-branch.false) c.under_first-2.ensures
