use Rattle.clause_form.proofs.InputLaws.{sentences_give_inputs}
use Rattle.clause_form.proofs.laws.input_law.Goals as goal

pub returns : goal.returns
returns c = sentences_give_inputs
