use Rattle.std.proofs.Common.{◌*◌, ◌+◌, ◌-◌, ◌<◌, get_or, refl, arith}
use Rattle.signatures.proofs.FormLaws.{digit_from, value_step, value_bound}
use Rattle.signatures.proofs.forms.value_of.Goals as goal

pub overflow_sub-digit : goal.overflow_sub-digit
overflow_sub-digit c = digit_from c.args.text.now c.loop-digit.digit-index c.loop-digit-test.true c.requires.digits

pub overflow_mul-value : goal.overflow_mul-value
overflow_mul-value c =
    let text = c.args.text.now in
    let i = c.loop-digit.digit-index in
    let v = c.loop-digit.value in
    let d = get_or text i 0 - 48 in
    let bound : v * 10 + d < 1000000000 = value_bound text i (v * 10 + d) c.loop-digit-test.true c.requires.digits c.requires.short (value_step text i v d c.loop-digit-test.true c.requires.digits c.loop-digit.invariant refl) in
    omega (arith, bound)

pub overflow_add-value : goal.overflow_add-value
overflow_add-value c =
    let text = c.args.text.now in
    let i = c.loop-digit.digit-index in
    let v = c.loop-digit.value in
    let d = c.from.result in
    let bound : v * 10 + d < 1000000000 = value_bound text i (v * 10 + d) c.loop-digit-test.true c.requires.digits c.requires.short (value_step text i v d c.loop-digit-test.true c.requires.digits c.loop-digit.invariant c.from.ensures) in
    omega (arith, bound)

pub loop-digit-preserved : goal.loop-digit-preserved
loop-digit-preserved c = value_step c.args.text.now c.loop-digit.digit-index c.loop-digit.value c.from.result c.loop-digit-test.true c.requires.digits c.loop-digit.invariant c.from.ensures
