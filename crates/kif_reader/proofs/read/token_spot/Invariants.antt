use Rattle.kif_reader.proofs.CountLaws.{Counted}
use Rattle.kif_reader.proofs.read.token_spot.Given as goal

abbrev pub invariant-loop-step : goal.invariant-loop-step
invariant-loop-step l = Counted l.text l.tokens l.left l.number

abbrev pub decreases-loop-step : goal.decreases-loop-step
decreases-loop-step l = l.left
