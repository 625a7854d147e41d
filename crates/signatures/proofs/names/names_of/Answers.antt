use Rattle.signatures.proofs.NameLaws.{names_begun, form_shown, form_names}
use Rattle.signatures.proofs.names.names_of.Goals as goal

pub loop-located-preserved : goal.loop-located-preserved
loop-located-preserved c =
    form_names c.args.heads.now c.args.arities.now c.loop-located.found c.add_names.new.found c.args.forms.now c.loop-located.located-index c.located-item.result c.is_shown.result c.loop-located-test.true c.located-item.is c.is_shown.ensures
    c.if-is_shown.false c.loop-located.invariant c.in_ok-add_names.ensures

pub loop-located-init : goal.loop-located-init
loop-located-init c = names_begun c.args.heads.now c.args.arities.now (record { seen = c.new.result; ordered = c.new-2.result }) c.new.ensures.empty c.new-2.ensures.empty

pub loop-located-preserved-then-is_shown : goal.loop-located-preserved-then-is_shown
loop-located-preserved-then-is_shown c =
    form_shown c.args.heads.now c.args.arities.now c.loop-located.found c.args.forms.now c.loop-located.located-index c.located-item.result c.is_shown.result c.loop-located-test.true c.located-item.is c.is_shown.ensures c.if-is_shown.true
    c.loop-located.invariant
