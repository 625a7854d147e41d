use Rattle.signatures.proofs.ArityLaws.{valences_more}
use Rattle.signatures.proofs.arities.valences.Goals as goal

pub loop-located-preserved : goal.loop-located-preserved
loop-located-preserved c =
    valences_more c.args.forms.now c.loop-located.located-index c.located-item.result c.loop-located.table c.add_valence.new.table c.loop-located-test.true c.located-item.is c.loop-located.invariant c.in_ok-add_valence.ensures
