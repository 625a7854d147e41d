use Rattle.std.proofs.Common.{◌+◌, ℕ, cond, ap, ◌∙◌}
use Rattle.std.specs.BTreeMap.{is_at}
use Rattle.std.specs.Prelude.{Some}
use Rattle.diagnose.specs.Order.{place_order, find}
use Rattle.diagnose.proofs.OrderLaws.{got, position_added, positions_of}
use Rattle.diagnose.proofs.order.positions.Goals as goal

pub loop-located-preserved : goal.loop-located-preserved
loop-located-preserved c = (
  ap (λ (n : ℕ). n + 1) c.loop-located.invariant.0,
  position_added c.args.forms.now c.loop-located.table c.insert.new.self c.loop-located.located-index c.located-item.result c.requires (got c.args.forms.now c.loop-located.located-index c.located-item.result c.loop-located-test.true c.located-item.is)
      (λ q. c.in_ok-insert.ensures.updates.0 q ∙ ap (λ (n : ℕ). cond (is_at (place_order c.located-item.result.place) q) (Some n) (find c.loop-located.table q)) c.loop-located.invariant.0) c.loop-located.invariant.1,
)

pub returns : goal.returns
returns c = positions_of c.args.forms.now c.loop-located.table c.loop-located.located-index c.loop-located-test.false c.loop-located.invariant.1
