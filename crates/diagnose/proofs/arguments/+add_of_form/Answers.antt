use Rattle.kif_tree.specs.Names.{lists}
use Rattle.diagnose.proofs.FoundLaws.{adds_more}
use Rattle.diagnose.proofs.ListLaws.{adds_of_list, adds_of_leaf}
use Rattle.diagnose.specs.Found.{OfSome}
use Rattle.diagnose.specs.OfLists.{IsOfParts}
use Rattle.diagnose.proofs.arguments.+add_of_form.Goals as goal

pub returns-in_default : goal.returns-in_default
returns-in_default t c = λ forms given. adds_of_leaf (IsOfParts forms c.args.place) c.args.form.now c.args.found.now.items c.in_default.not-List

pub loop-part-preserved : goal.loop-part-preserved
loop-part-preserved t c = λ forms given.
    adds_more (λ part. OfSome (IsOfParts forms c.args.place) (lists part)) c.items-part-items.result.now c.loop-part.part-index c.part-item.result c.add_of_parts.new.found.items c.loop-part.found.items c.add_of_form.new.found.items
    c.loop-part-test.true c.part-item.is (c.loop-part.invariant forms given) (c.in_ok-add_of_form.ensures forms given)

pub returns : goal.returns
returns t c = λ forms given.
    adds_of_list (IsOfParts forms c.args.place) c.args.form.now c.in-List.parts c.items.result.now c.items-part-items.result.now c.loop-part.part-index c.args.found.now.items c.add_of_parts.new.found.items c.loop-part.found.items
    c.in-List.is c.items.ensures c.items-part-items.ensures c.loop-part-test.false (c.in_ok-add_of_parts.ensures forms given) (c.loop-part.invariant forms given)
