use Rattle.std.proofs.Common.{List, sym, subst, take}
use Rattle.std.proofs.lemmas.List.{take_all}
use Rattle.kif_tree.specs.declared.place.Located.{Located}
use Rattle.diagnose.specs.SoFar.{AreSoFar}
use Rattle.diagnose.proofs.WholeLaws.{all_so_far, one_taken}
use Rattle.diagnose.proofs.list.diagnose.Goals as goal

pub loop-located-preserved : goal.loop-located-preserved
loop-located-preserved c =
    let taken = one_taken c.args.forms.now c.loop-located.located-index c.located-item.result c.loop-located-test.true c.located-item.is in
    subst (λ (gone : List Located). AreSoFar c.args.forms.now gone c.add_form.new.seen c.add_form.new.list.items) (sym taken.2)
    (c.in_ok-add_form.ensures (take c.loop-located.located-index c.args.forms.now) taken.0 taken.1 c.requires.places c.in_ok-tables.ensures c.loop-located.invariant)

pub returns : goal.returns
returns c =
    all_so_far c.args.forms.now c.loop-located.seen c.loop-located.list.items
    (subst (λ (gone : List Located). AreSoFar c.args.forms.now gone c.loop-located.seen c.loop-located.list.items) (take_all c.loop-located.located-index c.args.forms.now c.loop-located-test.false) c.loop-located.invariant)
