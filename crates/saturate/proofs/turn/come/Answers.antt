use Rattle.std.proofs.Common.{Option, Some, None, subst}
use Rattle.std.specs.Vec.Iter.{into_iter_items}
use Rattle.infer.specs.declared.conclusion.Conclusion.{Conclusion}
use Rattle.infer.specs.Plain.{IsPlainConclusion}
use Rattle.saturate.specs.declared.ended.Ended.{Ended}
use Rattle.saturate.specs.Runs.{Comes}
use Rattle.saturate.proofs.WayLaws.{one_came, one_ended, each_next}
use Rattle.saturate.proofs.turn.come.Goals as goal

pub returns-in-Some-2-clause-come : goal.returns-in-Some-2-clause-come
returns-in-Some-2-clause-come c =
    let limits = c.args.limits.now in
    let here = c.loop-conclusion.state.reached in
    let new = c.comes.new.state.reached in
    one_ended limits c.args.given c.args.partner c.args.list c.args.state.now.reached c.in-Some.conclusion
    (into_iter_items c.loop-conclusion.conclusion-iterator) (into_iter_items c.next.new.self) here new c.in-Some-2.end c.loop-conclusion.invariant.comes c.in-Some.ensures.steps.0
    (subst (λ (named : Conclusion). Comes limits named here new (Some c.in-Some-2.end)) c.renumbered-named.ensures
    (subst (λ (o : Option Ended). Comes limits c.renumbered-named.result here new o) c.in-Some-2.is c.in_ok-end.ensures.comes))

pub loop-conclusion-preserved : goal.loop-conclusion-preserved
loop-conclusion-preserved c =
    let limits = c.args.limits.now in
    let here = c.loop-conclusion.state.reached in
    let new = c.comes.new.state.reached in
    record {
      can_next = tt;
      is_finite = tt;
      consistent = c.in_ok-end.ensures.consistent;
      plain = each_next IsPlainConclusion c.in-Some.conclusion (into_iter_items c.loop-conclusion.conclusion-iterator) (into_iter_items c.next.new.self)
          c.in-Some.ensures.steps.0 c.loop-conclusion.invariant.plain;
      comes = one_came limits c.args.given c.args.partner c.args.list c.args.state.now.reached c.in-Some.conclusion
          (into_iter_items c.loop-conclusion.conclusion-iterator) (into_iter_items c.next.new.self) here new c.loop-conclusion.invariant.comes c.in-Some.ensures.steps.0
          (subst (λ (named : Conclusion). Comes limits named here new None) c.renumbered-named.ensures
          (subst (λ (o : Option Ended). Comes limits c.renumbered-named.result here new o) c.in_default.is c.in_ok-end.ensures.comes));
    }
