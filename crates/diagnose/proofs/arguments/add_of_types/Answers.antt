use Rattle.std.proofs.Common.{◌≡◌, ◌+◌, arith}
use Rattle.std.specs.Prelude.{min}
use Rattle.diagnose.proofs.ArgumentLaws.{types_more, types_all}
use Rattle.diagnose.proofs.arguments.add_of_types.Goals as goal

pub loop-argument-preserved : goal.loop-argument-preserved
loop-argument-preserved c =
    let counted = c.loop-argument.invariant.counts in
    let next : c.saturating_add-number.result ≡ min (c.loop-argument.argument-index + 1) 4294967295 = omega (arith, counted, c.saturating_add-number.ensures) in
    record {
      counts = next;
      adds = λ forms given.
          types_more forms c.args.place c.args.head.now c.args.arguments.now c.loop-argument.argument-index c.saturating_add-number.result c.argument-item.result c.args.found.now.items c.loop-argument.found.items
          c.add_of_argument.new.found.items c.loop-argument-test.true c.argument-item.is next (c.loop-argument.invariant.adds forms given) (c.in_ok-add_of_argument.ensures forms given);
    }

pub returns : goal.returns
returns c = λ forms given.
    types_all forms c.args.place c.args.head.now c.args.arguments.now c.loop-argument.argument-index c.args.found.now.items c.loop-argument.found.items c.loop-argument-test.false (c.loop-argument.invariant.adds forms given)
