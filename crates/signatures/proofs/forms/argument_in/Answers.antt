use Rattle.signatures.proofs.FormLaws.{no_argument}
use Rattle.signatures.proofs.forms.argument_in.Goals as goal

pub returns-then-parts-ne4 : goal.returns-then-parts-ne4
returns-then-parts-ne4 c = no_argument c.args.located.now c.parts_of-parts.result.now c.parts_of-parts.ensures c.if-parts-ne4.true
