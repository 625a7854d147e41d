use Rattle.std.proofs.Common.{◌≡◌, ◌∷◌, [], take}
use Rattle.std.specs.List.{flat_map}
use Rattle.calculus.specs.Rules.{nth}
use Rattle.calculus.specs.Evidence.{list_from}
use Rattle.infer.specs.Conclusions.{clause_at}
use Rattle.saturate.specs.Runs.{clauses}
use Rattle.answers.specs.Proofs as spec
use Rattle.answers.proofs.extraction.lines_at.Given as goal

abbrev pub invariant-loop-at : goal.invariant-loop-at
invariant-loop-at l =
    l.lines ≡ flat_map (λ number. list_from (nth l.reached.steps number)
    (λ step. spec.line_of l.reached.inputs (spec.renumbered l.numbers step) (clause_at (clauses l.reached) number) ∷ [])) (take l.at l.numbers)
