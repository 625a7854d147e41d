use Rattle.std.proofs.Common.{◌∙◌, sym}
use Rattle.var_expand.proofs.ChoiceLaws.{becomes_set, becomes_unset}
use Rattle.var_expand.proofs.chosen.becomes_by.Goals as goal

pub returns-in-Some : goal.returns-in-Some
returns-in-Some c = sym (becomes_set c.args.choice.now c.args.form.now c.in-Some.becomes.now c.in-Some.ensures)

pub returns-in-None : goal.returns-in-None
returns-in-None c = c.from_ref.ensures.value ∙ sym (becomes_unset c.args.choice.now c.args.form.now c.in-None.ensures)
