use Rattle.std.proofs.Common.{◌∷◌, [], length}
use Rattle.sigma_base.specs.Lists.{Each}
use Rattle.calculus.specs.declared.step.Step.TheVariants as steps
use Rattle.infer.specs.Conclusions.{Adds}
use Rattle.infer.specs.Plain.{IsPlain, IsPlainConclusion}
use Rattle.infer.specs.Sites.{each_below, unset}
use Rattle.infer.proofs.factoring.factors.Given as goal

abbrev pub invariant-loop-kept : goal.invariant-loop-kept
invariant-loop-kept l =
    Adds (l.given ∷ []) (each_below l.kept (λ kept. each_below (length l.given) (λ dropped. steps.Factor 0 kept dropped unset ∷ []))) [] l.found
    × (IsPlain l.given → Each IsPlainConclusion l.found)
