use Rattle.saturate.specs.States.{IsConsistent}
use Rattle.saturate.proofs.WayLaws.{MeetsFrom}
use Rattle.saturate.proofs.turn.meet_each.Given as goal

abbrev pub invariant-loop-partner : goal.invariant-loop-partner
invariant-loop-partner l = record {
  consistent : IsConsistent l.state;
  meets : MeetsFrom l.limits l.given l.partners l.partner-index l.fn.state.reached l.state.reached;
}
