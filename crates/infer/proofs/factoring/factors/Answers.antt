use Rattle.std.proofs.Common.{◌≡◌, ◌∷◌, [], length, List, ℕ, subst, sym, ap, arith}
use Rattle.sigma_base.specs.Lists.{Each}
use Rattle.calculus.specs.declared.step.Step.{Step}
use Rattle.infer.specs.declared.conclusion.Conclusion.{Conclusion}
use Rattle.infer.specs.Plain.{IsPlainConclusion}
use Rattle.infer.specs.Sites.{each_below}
use Rattle.infer.specs.Conclusions.{Adds}
use Rattle.infer.proofs.ListLaws.{adds-none, adds-more, adds-same, adds-all}
use Rattle.infer.proofs.FactorLaws.{factor_at}
use Rattle.infer.proofs.factoring.factors.Goals as goal

pub loop-kept-init : goal.loop-kept-init
loop-kept-init c = (
  subst (λ (found : List Conclusion). Adds (c.args.given.now ∷ []) [] [] found) (sym c.new-found.ensures) (adds-none (c.args.given.now ∷ []) []),
  λ given. subst (Each IsPlainConclusion) (sym c.new-found.ensures) tt,
)

pub loop-kept-preserved : goal.loop-kept-preserved
loop-kept-preserved c =
    let at : ℕ → List Step = λ kept. each_below (length c.args.given.now) (factor_at kept) in (
      adds-more (c.args.given.now ∷ []) c.loop-kept.kept at [] c.loop-kept.found c.add_factors.new.found c.loop-kept.invariant.0
          c.in_ok-add_factors.ensures.adds,
      λ given. c.in_ok-add_factors.ensures.plain given (c.loop-kept.invariant.1 given),
    )

pub returns-clause-all : goal.returns-clause-all
returns-clause-all c =
    let at : ℕ → List Step = λ kept. each_below (length c.args.given.now) (factor_at kept) in
    let all : c.loop-kept.kept ≡ length c.args.given.now = grind arith in
    adds-all (c.args.given.now ∷ []) (each_below (length c.args.given.now) at) c.loop-kept.found
    (adds-same (c.args.given.now ∷ []) (each_below c.loop-kept.kept at) (each_below (length c.args.given.now) at) [] c.loop-kept.found
    (ap (λ (n : ℕ). each_below n at) all) c.loop-kept.invariant.0)

pub returns-clause-plain : goal.returns-clause-plain
returns-clause-plain c = c.loop-kept.invariant.1
