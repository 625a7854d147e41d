use Rattle.clause_form.proofs.InputLaws.{sentences_give_query_clauses}
use Rattle.clause_form.proofs.laws.query_law.Goals as goal

pub returns : goal.returns
returns c = sentences_give_query_clauses
