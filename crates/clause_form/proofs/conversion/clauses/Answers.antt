use Rattle.std.proofs.Common.{map, ap, ◌∙◌}
use Rattle.calculus.specs.Tidy.{tidy}
use Rattle.clause_form.specs.Matrices.{distribution}
use Rattle.clause_form.proofs.InputLaws.{sentence_tidied}
use Rattle.clause_form.proofs.conversion.clauses.Goals as goal

pub returns-clause-proper : goal.returns-clause-proper
returns-clause-proper c sentence =
    sentence_tidied c.bytes.result.now c.args.form.now c.outermost-scope.result _ c.in_ok-tidied.field-0 sentence c.outermost-scope.ensures
    (c.in_ok-tidied.ensures ∙ ap (map tidy) (c.in_ok-raw.ensures ∙ ap distribution c.in_ok-matrix.ensures.matrix))
