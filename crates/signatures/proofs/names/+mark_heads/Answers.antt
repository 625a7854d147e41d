use Rattle.signatures.proofs.MarkLaws.{heads_of_other, heads_of_parts}
use Rattle.signatures.proofs.names.+mark_heads.Goals as goal

pub returns-in_default : goal.returns-in_default
returns-in_default t c = heads_of_other c.args.form.now c.args.marks.now c.in_default.not-List

pub returns : goal.returns
returns t c =
    heads_of_parts c.args.form.now c.in-List.parts c.items.result.now c.items-part-items.result.now c.loop-part.part-index c.args.marks.now c.mark_head.new.marks c.loop-part.marks c.in-List.is c.items.ensures c.items-part-items.ensures
    c.loop-part-test.false c.in_ok-mark_head.ensures c.loop-part.invariant
