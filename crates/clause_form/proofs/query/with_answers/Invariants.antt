use Rattle.std.proofs.Common.{◌≡◌, [], ◌∷◌, ◌++◌, map}
use Rattle.kif_tree.specs.Clauses.{Literals}
use Rattle.calculus.specs.Answers as answers
use Rattle.calculus.specs.Equality.{yes}
use Rattle.calculus.specs.Tidy.{tidy}
use Rattle.clause_form.proofs.query.with_answers.Given as goal

abbrev pub invariant-loop-clause : goal.invariant-loop-clause
invariant-loop-clause l = l.answering ≡ map (λ (clause : Literals). tidy (clause ++ yes (answers.answer_atom l.shown) ∷ [])) l.yielded
