use Rattle.signatures.proofs.FormLaws.{no_pair}
use Rattle.signatures.proofs.forms.pair_in.Goals as goal

pub returns-then-parts-ne3 : goal.returns-then-parts-ne3
returns-then-parts-ne3 c = no_pair c.args.located.now c.parts_of-parts.result.now c.parts_of-parts.ensures c.if-parts-ne3.true
