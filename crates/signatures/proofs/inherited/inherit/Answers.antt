use Rattle.signatures.proofs.inherited.inherit.Goals as goal

pub returns-clause-inherits : goal.returns-clause-inherits
returns-clause-inherits g c = c.in_ok-nearest.ensures
