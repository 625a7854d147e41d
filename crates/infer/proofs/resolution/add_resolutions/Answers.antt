use Rattle.std.proofs.Common.{◌≡◌, ◌∷◌, [], length, List, ℕ, ap, arith}
use Rattle.calculus.specs.declared.step.Step.{Step}
use Rattle.infer.specs.Sites.{each_below, resolution_sites}
use Rattle.infer.proofs.ListLaws.{adds-none, adds-more, adds-same}
use Rattle.infer.proofs.resolution.add_resolutions.Goals as goal

pub loop-literal-init : goal.loop-literal-init
loop-literal-init c = (adds-none (c.args.given.now ∷ c.args.partner.now ∷ []) c.args.found.now, λ given partner old. old)

pub loop-literal-preserved : goal.loop-literal-preserved
loop-literal-preserved c =
    let at : ℕ → List Step = λ i. each_below (length c.args.partner.now) (resolution_sites i) in (
      adds-more (c.args.given.now ∷ c.args.partner.now ∷ []) c.loop-literal.literal at c.args.found.now c.loop-literal.found c.add_resolutions_at.new.found
          c.loop-literal.invariant.0 c.in_ok-add_resolutions_at.ensures.adds,
      λ given partner old. c.in_ok-add_resolutions_at.ensures.plain given partner (c.loop-literal.invariant.1 given partner old),
    )

pub returns-clause-adds : goal.returns-clause-adds
returns-clause-adds c =
    let at : ℕ → List Step = λ i. each_below (length c.args.partner.now) (resolution_sites i) in
    let all : c.loop-literal.literal ≡ length c.args.given.now = grind arith in
    adds-same (c.args.given.now ∷ c.args.partner.now ∷ []) (each_below c.loop-literal.literal at)
    (each_below (length c.args.given.now) at) c.args.found.now c.loop-literal.found
    (ap (λ (n : ℕ). each_below n at) all) c.loop-literal.invariant.0

pub returns-clause-plain : goal.returns-clause-plain
returns-clause-plain c = c.loop-literal.invariant.1
