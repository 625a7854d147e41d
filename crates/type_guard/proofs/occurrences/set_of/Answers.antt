use Rattle.type_guard.proofs.WantedLaws.{taken_more, added_more}
use Rattle.std.proofs.Common.{[]}
use Rattle.type_guard.proofs.occurrences.set_of.Goals as goal

pub loop-name-preserved : goal.loop-name-preserved
loop-name-preserved c =
    added_more [] c.loop-name.set c.add.new.self _ _ c.name-item.result
    (taken_more c.args.names.now c.loop-name.name-index c.name-item.result c.loop-name-test.true c.name-item.is) c.loop-name.invariant c.in_ok-add.ensures
