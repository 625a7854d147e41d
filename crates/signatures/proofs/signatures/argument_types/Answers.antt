use Rattle.signatures.proofs.ArgumentLaws.{tables_more}
use Rattle.signatures.proofs.signatures.argument_types.Goals as goal

pub loop-located-preserved : goal.loop-located-preserved
loop-located-preserved c =
    tables_more c.args.forms.now c.loop-located.located-index c.located-item.result c.loop-located.own c.add_number.new.own c.loop-located.tables c.add_number.new.tables c.loop-located-test.true c.located-item.is c.loop-located.invariant
    c.in_ok-add_number.ensures
