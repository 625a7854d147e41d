use Rattle.std.proofs.Common.{arith}
use Rattle.var_expand.specs.Choices.{becomes_by}
use Rattle.var_expand.proofs.ListLaws.{below_flat_map}
use Rattle.var_expand.proofs.fitting.left_over.Goals as goal

pub returns-then-left-length : goal.returns-then-left-length
returns-then-left-length c =
    let h = below_flat_map (becomes_by c.args.choice.now) c.args.forms.now c.loop-form.form-index c.form-item.result c.loop-form-test.true c.form-item.is in
    omega (arith, h, c.loop-form.invariant, c.length_by-length.ensures)
