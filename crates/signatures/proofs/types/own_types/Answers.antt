use Rattle.signatures.proofs.TypeLaws.{arguments_more}
use Rattle.signatures.proofs.types.own_types.Goals as goal

pub loop-located-preserved : goal.loop-located-preserved
loop-located-preserved c =
    arguments_more c.args.forms.now c.loop-located.located-index c.located-item.result c.loop-located.tables c.add_argument.new.tables c.loop-located-test.true c.located-item.is c.loop-located.invariant c.in_ok-add_argument.ensures
