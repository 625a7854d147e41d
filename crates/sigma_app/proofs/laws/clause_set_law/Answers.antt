use Rattle.sigma_app.proofs.QueryLaws.{translations_are_sets}
use Rattle.sigma_app.proofs.laws.clause_set_law.Goals as goal

pub returns : goal.returns
returns c = translations_are_sets
