use Rattle.std.proofs.Common.{sym, ◌∙◌}
use Rattle.type_guard.proofs.WantedLaws.{led, led_last, taken_more, masked_set, masked_still, masked_more, named_more}
use Rattle.type_guard.proofs.occurrences.mask.Goals as goal
use Rattle.type_guard.proofs.occurrences.mask.Goals.{then-has+in_ok-push, else-has}

pub loop-name-preserved : goal.loop-name-preserved
loop-name-preserved c =
    let next = taken_more c.args.names.now c.loop-name.name-index c.name-item.result c.loop-name-test.true c.name-item.is in
    elim c.if-has.branch [
      | then-has+in_ok-push w ↦
          let last = led_last c.loop-name.masked.items w.push.new.self.items _ w.in_ok-push.ensures.items in
          rw (w.set-is, w.masked-is) (record {
            set = masked_set c.args.set.now c.loop-name.set w.remove.new.self _ _ c.name-item.result next c.loop-name.invariant.set w.remove.ensures;
            masked = masked_more c.args.set.now c.loop-name.set w.remove.new.self (led c.loop-name.masked.items) (led w.push.new.self.items) c.name-item.result last
                (sym c.has.ensures ∙ w.if-has.true) c.loop-name.invariant.masked w.remove.ensures;
            names = named_more c.args.names.now (led c.loop-name.masked.items) (led w.push.new.self.items) c.loop-name.name-index c.name-item.result last c.loop-name-test.true c.name-item.is c.loop-name.invariant.names;
          })
      | else-has w ↦ rw (w.set-is, w.masked-is) (record {
        set = masked_still c.args.set.now c.loop-name.set _ _ c.name-item.result next (sym c.has.ensures ∙ w.if-has.false) c.loop-name.invariant.set;
        masked = c.loop-name.invariant.masked;
        names = c.loop-name.invariant.names;
      })
    ]
