use Rattle.std.proofs.Common.{arith}
use Rattle.saturate.specs.Runs.{is_derived}
use Rattle.saturate.proofs.StateLaws.{filter_shorter}
use Rattle.saturate.proofs.turn.kept_count.Goals as goal

pub overflow_add-result : goal.overflow_add-result
overflow_add-result c =
    let p = is_derived c.args.reached.now in
    omega (arith, filter_shorter p c.items.result.now, filter_shorter p c.items-2.result.now, c.items.type_inv, c.items-2.type_inv, c.derived_count.ensures, c.derived_count-2.ensures)

pub overflow_add-result-2 : goal.overflow_add-result-2
overflow_add-result-2 c =
    let p = is_derived c.args.reached.now in
    omega (
      arith,
      filter_shorter p c.items.result.now,
      filter_shorter p c.items-2.result.now,
      filter_shorter p c.items-3.result.now,
      c.items.type_inv,
      c.items-2.type_inv,
      c.items-3.type_inv,
      c.derived_count.ensures,
      c.derived_count-2.ensures,
      c.derived_count-3.ensures,
    )
