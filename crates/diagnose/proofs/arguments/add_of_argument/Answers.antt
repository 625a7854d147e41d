use Rattle.diagnose.proofs.ArgumentLaws.{adds_argument, these_types}
use Rattle.diagnose.proofs.FoundLaws.{adds_more}
use Rattle.diagnose.specs.OfLists.{IsOfType}
use Rattle.std.proofs.Common.{refl}
use Rattle.diagnose.proofs.arguments.add_of_argument.Goals as goal

pub loop-type_told-preserved : goal.loop-type_told-preserved
loop-type_told-preserved c = λ forms given.
    adds_more (IsOfType forms c.args.place c.args.argument.now) c.domain_of-type_told-items.result.now c.loop-type_told.type_told-index c.type_told-item.result c.args.found.now.items c.loop-type_told.found.items
    c.add_of_type.new.found.items c.loop-type_told-test.true c.type_told-item.is (c.loop-type_told.invariant forms given) (c.in_ok-add_of_type.ensures forms given)

pub returns : goal.returns
returns c = λ forms given.
    adds_argument forms c.args.place c.args.head.now c.args.number c.args.argument.now c.domain_of-type_told-items.result.now c.domain_of-type_told-items.result.now c.loop-type_told.type_told-index c.args.found.now.items
    c.loop-type_told.found.items
    (these_types forms c.args.given.signatures.now c.args.head.now c.bytes.result.now c.args.number c.domain_of-type_told-items.result.now given.signatures c.bytes.ensures c.domain_of-type_told-items.ensures) refl
    c.loop-type_told-test.false (c.loop-type_told.invariant forms given)
