use Rattle.std.proofs.Common.{arith}
use Rattle.kif_tree.specs.declared.place.Located.{Located}
use Rattle.kif_tree.specs.Shape.{Part, as_top}
use Rattle.kif_tree.proofs.ShapeLaws.{walked_next, walked_end}
use Rattle.kif_tree.proofs.shape.walk_forms.Goals as goal

abbrev top : Located → Part
top located = as_top located.form

pub loop-located-preserved : goal.loop-located-preserved
loop-located-preserved c =
    let next = walked_next top c.args.forms.now c.loop-located.located-index c.located-item.result c.loop-located.next c.loop-located-test.true c.located-item.is in
    grind (arith, next)

pub returns : goal.returns
returns c =
    let end = walked_end top c.args.forms.now c.loop-located.located-index c.loop-located.next c.loop-located-test.false c.loop-located.invariant.fits in
    grind (arith, end)
