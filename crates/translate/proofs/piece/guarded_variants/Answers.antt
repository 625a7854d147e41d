use Rattle.std.proofs.Common.{◌≡◌, ◌+◌, arith}
use Rattle.std.proofs.lemmas.Grind.{common_steps}
use Rattle.translate.proofs.PieceLaws.{guarded_more}
use Rattle.translate.proofs.piece.guarded_variants.Goals as goal

pub loop-variant-preserved : goal.loop-variant-preserved
loop-variant-preserved c =
    let next : c.in_ok-number.number ≡ c.loop-variant.variant-index + 1 = grind (arith, common_steps) in
    record {
      numbered = guarded_more c.args.signatures.now c.args.place c.args.variants.now c.loop-variant.variant-index c.variant-item.result c.in_ok-form.form c.in_ok-number.number c.loop-variant.guarded c.push.new.self
          c.loop-variant-test.true c.variant-item.is next c.in_ok-form.ensures c.loop-variant.invariant.numbered c.in_ok-push.ensures.ok;
      counted = next;
    }
