use Rattle.std.proofs.Common.{◌≡◌, ℕ, length, ap, arith}
use Rattle.infer.specs.Sites.{each_below, paramodulation_sites}
use Rattle.infer.proofs.ListLaws.{adds-none, adds-more, adds-same}
use Rattle.infer.proofs.paramodulation.add_by_equality.Goals as goal

pub loop-literal-init : goal.loop-literal-init
loop-literal-init c = record {
  adds = λ clauses source_at target_at. adds-none clauses c.args.found.now;
  plain = λ source target old. old;
}

pub loop-literal-preserved : goal.loop-literal-preserved
loop-literal-preserved c =
    let equality = c.args.equality.now in
    let sites = paramodulation_sites equality.source.number equality.source.literal equality.flipped c.args.target_number c.args.target.now in
    record {
      adds = λ clauses source_at target_at. adds-more clauses c.loop-literal.literal sites c.args.found.now c.loop-literal.found c.add_into_literal.new.found
          (c.loop-literal.invariant.adds clauses source_at target_at) (c.in_ok-add_into_literal.ensures.adds clauses source_at target_at);
      plain = λ source target old. c.in_ok-add_into_literal.ensures.plain source target (c.loop-literal.invariant.plain source target old);
    }

pub returns-clause-adds : goal.returns-clause-adds
returns-clause-adds c = λ clauses source_at target_at.
    let equality = c.args.equality.now in
    let sites = paramodulation_sites equality.source.number equality.source.literal equality.flipped c.args.target_number c.args.target.now in
    let all : c.loop-literal.literal ≡ length c.args.target.now = grind arith in
    adds-same clauses (each_below c.loop-literal.literal sites) (each_below (length c.args.target.now) sites) c.args.found.now c.loop-literal.found
    (ap (λ (n : ℕ). each_below n sites) all) (c.loop-literal.invariant.adds clauses source_at target_at)
