use Rattle.type_guard.proofs.WantedLaws.{led_more, added_more}
use Rattle.type_guard.proofs.occurrences.add_names.Goals as goal

pub loop-name-preserved : goal.loop-name-preserved
loop-name-preserved c =
    added_more c.args.set.now c.loop-name.set c.add.new.self _ _ c.name-item.result.now
    (led_more c.args.names.now c.loop-name.name-index c.name-item.result c.loop-name-test.true c.name-item.is) c.loop-name.invariant c.in_ok-add.ensures
