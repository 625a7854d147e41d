use Rattle.signatures.proofs.FormLaws.{digits_more, digits_fail}
use Rattle.signatures.proofs.forms.are_digits.Goals as goal

pub returns-then-not-is_ascii_digit : goal.returns-then-not-is_ascii_digit
returns-then-not-is_ascii_digit c = digits_fail c.args.text.now c.loop-digit.digit-index c.is_ascii_digit.result c.loop-digit-test.true c.is_ascii_digit.ensures.value c.if-not-is_ascii_digit.true

pub loop-digit-preserved : goal.loop-digit-preserved
loop-digit-preserved c =
    digits_more c.args.text.now c.loop-digit.digit-index c.is_ascii_digit.result c.loop-digit-test.true c.is_ascii_digit.ensures.value c.if-not-is_ascii_digit.false c.loop-digit.invariant
