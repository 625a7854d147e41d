use Rattle.std.proofs.Common.{◌≡◌, ◌<◌, ◌+◌, ◌∙◌, Option, sym, subst, arith}
use Rattle.saturate.specs.declared.ended.Ended.{Ended}
use Rattle.saturate.specs.Runs.{Turn, IsRest}
use Rattle.saturate.proofs.TurnLaws.{ran_more, at_rest, spent_at, ends_between}
use Rattle.saturate.proofs.saturation.run.Goals as goal
use Rattle.saturate.proofs.saturation.run.Goals.{in-Some-end_at_rest, in-None}

pub loop-taken-preserved : goal.loop-taken-preserved
loop-taken-preserved c =
    let limits = c.args.limits.now in
    let old = c.loop-taken.state.reached in
    let new = c.take_turn.new.state.reached in
    let below : c.loop-taken.taken < limits.turns = omega arith in
    record {
      consistent = c.in_ok-ended.ensures.consistent;
      ran = ran_more c.args.state.reached.inputs limits c.loop-taken.taken old new c.loop-taken.invariant.ran below
          (subst (λ (o : Option Ended). Turn limits (c.loop-taken.taken + 1) old new o) c.in_default-2.is c.in_ok-ended.ensures.turn);
    }

pub returns : goal.returns
returns c =
    let limits = c.args.limits.now in
    let r = c.loop-taken.state.reached in
    let all : c.loop-taken.taken ≡ limits.turns = omega arith in
    let rest : IsRest limits c.loop-taken.taken r c.match-end_at_rest-2.ended = elim c.match-end_at_rest-2.branch [
      | in-Some-end_at_rest w ↦
          subst (IsRest limits c.loop-taken.taken r) (sym w.ended-is)
          (at_rest limits c.loop-taken.taken r w.in-Some-end_at_rest.ended (sym c.end_at_rest-2.ensures ∙ w.in-Some-end_at_rest.is))
      | in-None w ↦ subst (IsRest limits c.loop-taken.taken r) (sym w.ended-is) (spent_at limits c.loop-taken.taken r (sym c.end_at_rest-2.ensures ∙ w.in-None.is) all)
    ] in
    ends_between c.args.state.reached.inputs limits c.loop-taken.taken c.ended_search-2.result.turns r _ c.match-end_at_rest-2.ended c.ended_search-2.result.ended
    c.loop-taken.invariant.ran rest c.ended_search-2.ensures.reached (c.ended_search-2.ensures.turns ∙ sym all) c.ended_search-2.ensures.ended
