use Rattle.std.proofs.Common.{◌∙◌, sym, ap, Some}
use Rattle.var_expand.specs.Gathered.{kind_of_head}
use Rattle.var_expand.proofs.WordLaws.{word_text-is, word_text_other}
use Rattle.var_expand.proofs.gathered.kind_of.Goals as goal

pub returns-in-Word : goal.returns-in-Word
returns-in-Word c = c.kind_by.ensures ∙ ap (λ word. kind_of_head c.args.predicates.now word c.args.low.now c.args.high.now) (ap Some c.bytes.ensures ∙ sym (word_text-is c.args.head.now c.in-Word.text c.in-Word.is))

pub returns-in_default : goal.returns-in_default
returns-in_default c = ap (λ word. kind_of_head c.args.predicates.now word c.args.low.now c.args.high.now) (sym (word_text_other c.args.head.now c.in_default.not-Word))
