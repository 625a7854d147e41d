use Rattle.std.proofs.Common.{◌∙◌, sym, arith}
use Rattle.saturate.proofs.CodeLaws.{code-List, code_laws, code_other, parts_none, parts_end}
use Rattle.saturate.proofs.fingerprint.+code.Goals as goal

pub returns-in-Word-clause-code : goal.returns-in-Word-clause-code
returns-in-Word-clause-code t c = grind (arith, code_laws)

pub returns-in-Numeral-clause-code : goal.returns-in-Numeral-clause-code
returns-in-Numeral-clause-code t c = grind (arith, code_laws)

pub returns-in-Quoted-clause-code : goal.returns-in-Quoted-clause-code
returns-in-Quoted-clause-code t c = grind (arith, code_laws)

pub returns-then-next-eq0-clause-code : goal.returns-then-next-eq0-clause-code
returns-then-next-eq0-clause-code t c =
    let none = parts_none c.loop-part.joined c.items-part-items.result.now c.loop-part.part-index c.part-item.result c.loop-part-test.true c.part-item.is
    (sym c.code-next.ensures.code ∙ c.if-next-eq0.true) in
    grind (arith, code-List, none)

pub returns-after-loop-part-clause-code : goal.returns-after-loop-part-clause-code
returns-after-loop-part-clause-code t c =
    let end = parts_end c.loop-part.joined c.items-part-items.result.now c.loop-part.part-index c.loop-part-test.false in
    grind (arith, code-List, end)

pub returns-in_default-clause-code : goal.returns-in_default-clause-code
returns-in_default-clause-code t c = sym (code_other c.args.form.now c.in_default.not-Word c.in_default.not-Numeral c.in_default.not-Quoted c.in_default.not-List)
