use Rattle.saturate.proofs.EndsHoldLaws.{ends_hold}
use Rattle.saturate.proofs.laws.end_law.Goals as goal

pub returns : goal.returns
returns c = ends_hold
