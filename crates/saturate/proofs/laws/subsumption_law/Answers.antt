use Rattle.saturate.proofs.SubsumptionLaws.{subsumes_itself, subsumes_via, tautologies_subsume}
use Rattle.saturate.proofs.laws.subsumption_law.Goals as goal

pub returns-clause-reflexive : goal.returns-clause-reflexive
returns-clause-reflexive c = subsumes_itself

pub returns-clause-transitive : goal.returns-clause-transitive
returns-clause-transitive c = subsumes_via

pub returns-clause-tautologies : goal.returns-clause-tautologies
returns-clause-tautologies c = tautologies_subsume
