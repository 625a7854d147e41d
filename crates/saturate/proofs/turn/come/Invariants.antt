use Rattle.sigma_base.specs.Lists.{Each}
use Rattle.std.specs.Vec.Iter.{into_iter_items}
use Rattle.infer.specs.Plain.{IsPlainConclusion}
use Rattle.saturate.specs.States.{IsConsistent}
use Rattle.saturate.proofs.WayLaws.{ComesFrom}
use Rattle.saturate.proofs.turn.come.Given as goal

abbrev pub invariant-loop-conclusion : goal.invariant-loop-conclusion
invariant-loop-conclusion l = record {
  can_next : (goal.iterator-loop-conclusion).can_next l.conclusion-iterator;
  is_finite : (goal.iterator-loop-conclusion).is_finite l.conclusion-iterator;
  consistent : IsConsistent l.state;
  plain : Each IsPlainConclusion (into_iter_items l.conclusion-iterator);
  comes : ComesFrom l.limits l.given l.partner l.fn.list (into_iter_items l.conclusion-iterator) l.fn.state.reached l.state.reached;
}
