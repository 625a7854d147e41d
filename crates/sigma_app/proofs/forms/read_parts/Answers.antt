use Rattle.sigma_app.proofs.FileLaws.{fault_at_part, spell_step}
use Rattle.sigma_app.proofs.forms.read_parts.Goals as goal

pub returns-in-Stopped : goal.returns-in-Stopped
returns-in-Stopped c =
    fault_at_part c.args.parts.now c.loop-part.part-index c.part-item.result c.loop-part.forms.items c.in-Stopped.reply (c.loop-part-test.true, c.part-item.is) c.loop-part.invariant
    (rw c.in-Stopped.is at c.in_ok-more.ensures)

pub loop-part-preserved : goal.loop-part-preserved
loop-part-preserved c =
    spell_step c.args.parts.now c.loop-part.part-index c.part-item.result c.loop-part.forms.items c.in-Forms.more c.append.new.self.items (c.loop-part-test.true, c.part-item.is) c.loop-part.invariant
    (rw c.in-Forms.is at c.in_ok-more.ensures) c.in_ok-append-in-Forms.ensures.items
