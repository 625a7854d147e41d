use Rattle.std.proofs.Common.{get_or, Option, subst}
use Rattle.saturate.specs.declared.ended.Ended.{Ended}
use Rattle.saturate.specs.Runs.{Meets}
use Rattle.saturate.proofs.WayLaws.{one_met, met_ended}
use Rattle.saturate.proofs.turn.meet_each.Goals as goal

pub returns-in-Some-clause-meets : goal.returns-in-Some-clause-meets
returns-in-Some-clause-meets c =
    let partner = get_or c.args.partners.now c.loop-partner.partner-index 0 in
    met_ended c.args.limits.now c.args.given c.args.partners.now c.args.state.now.reached c.loop-partner.partner-index c.loop-partner.state.reached c.meet.new.state.reached c.in-Some.end
    c.loop-partner-test.true c.loop-partner.invariant.meets
    (subst (λ (o : Option Ended). Meets c.args.limits.now c.args.given partner c.loop-partner.state.reached c.meet.new.state.reached o) c.in-Some.is c.in_ok-end.ensures.meets)

pub loop-partner-preserved : goal.loop-partner-preserved
loop-partner-preserved c =
    let partner = get_or c.args.partners.now c.loop-partner.partner-index 0 in
    record {
      consistent = c.in_ok-end.ensures.consistent;
      meets = one_met c.args.limits.now c.args.given c.args.partners.now c.args.state.now.reached c.loop-partner.partner-index c.loop-partner.state.reached c.meet.new.state.reached
          c.loop-partner-test.true c.loop-partner.invariant.meets
          (subst (λ (o : Option Ended). Meets c.args.limits.now c.args.given partner c.loop-partner.state.reached c.meet.new.state.reached o) c.in_default.is c.in_ok-end.ensures.meets);
    }
