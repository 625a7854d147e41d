use Rattle.std.proofs.Common.{◌≡◌, ◌∷◌, [], ◌+◌, length, ℕ, ap, arith}
use Rattle.calculus.specs.declared.step.Step.{Step}
use Rattle.infer.specs.Plain.{IsPlainConclusion}
use Rattle.infer.specs.Sites.{each_below, unset}
use Rattle.infer.proofs.ListLaws.{adds-nothing, adds-one, adds-more, adds-same, each-added}
use Rattle.infer.proofs.FactorLaws.{factor_at, factor_later}
use Rattle.infer.proofs.factoring.add_factors.Goals as goal

pub loop-dropped-init : goal.loop-dropped-init
loop-dropped-init c = (
  adds-nothing (c.args.given.now ∷ []) (each_below (c.args.kept + 1) (factor_at c.args.kept)) c.args.found.now
      (factor_later c.args.given.now c.args.kept c.requires),
  λ given old. old,
)

pub loop-dropped-preserved : goal.loop-dropped-preserved
loop-dropped-preserved c = (
  adds-more (c.args.given.now ∷ []) c.loop-dropped.dropped (factor_at c.args.kept) c.args.found.now c.loop-dropped.found c.push_made.new.found
      c.loop-dropped.invariant.0
      (adds-one (c.args.given.now ∷ []) (Step.Factor 0 c.args.kept c.loop-dropped.dropped unset) c.in_ok-made.made c.loop-dropped.found c.push_made.new.found
      c.in_ok-made.ensures.at c.in_ok-push_made.ensures),
  λ given old. each-added IsPlainConclusion c.in_ok-made.made c.loop-dropped.found c.push_made.new.found
      (c.in_ok-made.ensures.plain given) c.in_ok-push_made.ensures (c.loop-dropped.invariant.1 given old),
)

pub returns-clause-adds : goal.returns-clause-adds
returns-clause-adds c =
    let all : c.loop-dropped.dropped ≡ length c.args.given.now = grind arith in
    adds-same (c.args.given.now ∷ []) (each_below c.loop-dropped.dropped (factor_at c.args.kept))
    (each_below (length c.args.given.now) (factor_at c.args.kept)) c.args.found.now c.loop-dropped.found
    (ap (λ (n : ℕ). each_below n (factor_at c.args.kept)) all) c.loop-dropped.invariant.0

pub returns-clause-plain : goal.returns-clause-plain
returns-clause-plain c = c.loop-dropped.invariant.1
