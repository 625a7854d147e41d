use Rattle.clause_form.proofs.SentenceLaws.{sentences_give_atom_clauses}
use Rattle.clause_form.proofs.laws.distribution_law.Goals as goal

pub returns : goal.returns
returns c = sentences_give_atom_clauses
