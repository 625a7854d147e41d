use Rattle.std.proofs.Common.{sym, ◌∙◌}
use Rattle.kif_tree.proofs.FreeLaws.{led, led_last, taken_more, hidden_more, hidden_still, fresh_more}
use Rattle.kif_tree.proofs.free.hide.Goals as goal
use Rattle.kif_tree.proofs.free.hide.Goals.{then-not-has+in_ok-add+in_ok-push, else-not-has}

pub loop-name-preserved : goal.loop-name-preserved
loop-name-preserved c =
    let names = c.args.names.now in
    let next = taken_more c.args.names.now c.loop-name.name-index c.name-item.result c.loop-name-test.true c.name-item.is in
    elim c.if-not-has.branch [
      | then-not-has+in_ok-add+in_ok-push w ↦ rw (w.hidden-is, w.fresh-is) (record {
        hidden = hidden_more c.args.hidden.now c.loop-name.hidden w.add.new.self _ _ c.name-item.result next c.loop-name.invariant.hidden w.in_ok-add.ensures;
        fresh = fresh_more c.args.hidden.now c.loop-name.hidden w.add.new.self (led c.loop-name.fresh.items) (led w.push.new.self.items) c.name-item.result
            (led_last c.loop-name.fresh.items w.push.new.self.items _ w.in_ok-push.ensures.items) (sym c.has.ensures ∙ w.if-not-has.true) c.loop-name.invariant.fresh w.in_ok-add.ensures;
      })
      | else-not-has w ↦ rw (w.hidden-is, w.fresh-is) (record {
        hidden = hidden_still c.args.hidden.now c.loop-name.hidden _ _ c.name-item.result next (sym c.has.ensures ∙ w.if-not-has.false) c.loop-name.invariant.hidden;
        fresh = c.loop-name.invariant.fresh;
      })
    ]
