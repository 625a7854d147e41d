use Rattle.std.proofs.Common.{◌≡◌, ℕ, List, length, ap, arith}
use Rattle.calculus.specs.declared.step.Step.{Step}
use Rattle.infer.specs.Sites.{each_below}
use Rattle.infer.proofs.ListLaws.{adds-none, adds-more, adds-same}
use Rattle.infer.proofs.ConclusionLaws.{both_ways}
use Rattle.infer.proofs.paramodulation.add_paramodulations.Goals as goal

pub loop-literal-init : goal.loop-literal-init
loop-literal-init c = record {
  adds = λ clauses source_at target_at. adds-none clauses c.args.found.now;
  plain = λ source target old. old;
}

pub loop-literal-preserved : goal.loop-literal-preserved
loop-literal-preserved c =
    let sites : ℕ → List Step = λ i. both_ways c.args.source_number i c.args.target_number c.args.target.now in
    record {
      adds = λ clauses source_at target_at. adds-more clauses c.loop-literal.literal sites c.args.found.now c.loop-literal.found c.add_by_literal.new.found
          (c.loop-literal.invariant.adds clauses source_at target_at) (c.in_ok-add_by_literal.ensures.adds clauses source_at target_at);
      plain = λ source target old. c.in_ok-add_by_literal.ensures.plain source target (c.loop-literal.invariant.plain source target old);
    }

pub returns-clause-adds : goal.returns-clause-adds
returns-clause-adds c = λ clauses source_at target_at.
    let sites : ℕ → List Step = λ i. both_ways c.args.source_number i c.args.target_number c.args.target.now in
    let all : c.loop-literal.literal ≡ length c.args.source.now = grind arith in
    adds-same clauses (each_below c.loop-literal.literal sites) (each_below (length c.args.source.now) sites) c.args.found.now c.loop-literal.found
    (ap (λ (n : ℕ). each_below n sites) all) (c.loop-literal.invariant.adds clauses source_at target_at)
