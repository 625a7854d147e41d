use Rattle.answers.proofs.RefusalLaws.{query_answer_one, memory_no_answer, good_refused, asked_refused}
use Rattle.answers.proofs.laws.refusal_law.Goals as goal

pub returns-clause-good : goal.returns-clause-good
returns-clause-good c = good_refused

pub returns-clause-one : goal.returns-clause-one
returns-clause-one c = query_answer_one

pub returns-clause-memory : goal.returns-clause-memory
returns-clause-memory c = memory_no_answer

pub returns-clause-asked_or_refused : goal.returns-clause-asked_or_refused
returns-clause-asked_or_refused c = asked_refused
