use Rattle.std.proofs.Common.{sym, ◌∙◌}
use Rattle.unify.proofs.BindingLaws.{named_more, found_first}
use Rattle.unify.proofs.bindings.Bindings.find.Goals as goal

pub returns-then-equals : goal.returns-then-equals
returns-then-equals c =
    let found = found_first c.args.name.now c.as_slice-binding-items.result.now c.loop-binding.binding-index c.binding-item.result c.loop-binding-test.true
    c.binding-item.is
    c.loop-binding.invariant (sym c.equals.ensures.test ∙ c.if-equals.true) in
    rw (sym c.self.view_is) (rw (sym c.as_slice-binding-items.ensures.value) found)

pub loop-binding-preserved : goal.loop-binding-preserved
loop-binding-preserved c =
    named_more c.args.name.now c.as_slice-binding-items.result.now c.loop-binding.binding-index c.binding-item.result c.loop-binding-test.true
    c.binding-item.is
    c.loop-binding.invariant (sym c.equals.ensures.test ∙ c.if-equals.false)
