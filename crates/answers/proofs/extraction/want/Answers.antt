use Rattle.std.proofs.Common.{arith}
use Rattle.answers.proofs.MarkLaws.{marked-set, marked_past}
use Rattle.answers.proofs.extraction.want.Goals as goal

pub returns-then-at-wanted : goal.returns-then-at-wanted
returns-then-at-wanted c = marked-set c.args.wanted.now c.args.number

pub returns-else-at-wanted : goal.returns-else-at-wanted
returns-else-at-wanted c = marked_past c.args.wanted.now c.args.number (omega arith)
