use Rattle.signatures.proofs.WordHeads.{none_without_bytes}
use Rattle.signatures.proofs.arities.begins_built_in.Goals as goal

pub returns-in_default : goal.returns-in_default
returns-in_default c = λ _. none_without_bytes c.args.word.now c.in_default.len_below
