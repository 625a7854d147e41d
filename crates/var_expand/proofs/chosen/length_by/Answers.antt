use Rattle.std.proofs.Common.{sym, ap, length}
use Rattle.var_expand.proofs.ChoiceLaws.{becomes_set, becomes_unset}
use Rattle.var_expand.proofs.chosen.length_by.Goals as goal

pub returns-in-Some : goal.returns-in-Some
returns-in-Some c = ap length (sym (becomes_set c.args.choice.now c.args.form.now c.in-Some.becomes.now c.in-Some.ensures))

pub returns-in-None : goal.returns-in-None
returns-in-None c = ap length (sym (becomes_unset c.args.choice.now c.args.form.now c.in-None.ensures))
