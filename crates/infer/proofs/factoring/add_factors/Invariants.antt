use Rattle.std.proofs.Common.{◌∷◌, []}
use Rattle.sigma_base.specs.Lists.{Each}
use Rattle.calculus.specs.declared.step.Step.TheVariants as steps
use Rattle.infer.specs.Conclusions.{Adds}
use Rattle.infer.specs.Plain.{IsPlain, IsPlainConclusion}
use Rattle.infer.specs.Sites.{each_below, unset}
use Rattle.infer.proofs.factoring.add_factors.Given as goal

abbrev pub invariant-loop-dropped : goal.invariant-loop-dropped
invariant-loop-dropped l =
    Adds (l.given ∷ []) (each_below l.dropped (λ dropped. steps.Factor 0 l.kept dropped unset ∷ [])) l.initial.found l.found
    × (IsPlain l.given → Each IsPlainConclusion l.initial.found → Each IsPlainConclusion l.found)
