use Rattle.std.proofs.Common.{◌≡◌, ◌∷◌, [], take}
use Rattle.std.specs.List.{flat_map}
use Rattle.calculus.specs.Rules.{nth}
use Rattle.calculus.specs.Evidence.{list_from}
use Rattle.answers.specs.Proofs as spec
use Rattle.answers.proofs.extraction.steps_at.Given as goal

abbrev pub invariant-loop-number : goal.invariant-loop-number
invariant-loop-number l =
    l.list ≡ flat_map (λ number. list_from (nth l.steps number) (λ step. spec.renumbered l.numbers step ∷ [])) (take l.number-index l.numbers)
