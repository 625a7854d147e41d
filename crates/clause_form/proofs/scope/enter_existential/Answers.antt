use Rattle.std.proofs.Common.{◌≡◌, ◌+◌, arith}
use Rattle.clause_form.specs.Readings.{skolem_symbol, skolem_term}
use Rattle.clause_form.proofs.ScopeLaws.{skolemized_next}
use Rattle.clause_form.proofs.scope.enter_existential.Goals as goal

pub loop-name-preserved : goal.loop-name-preserved
loop-name-preserved c =
    let held = c.loop-name.invariant in
    let count : c.in_ok-counts.field-0 ≡ c.args.counts.now.skolems + c.loop-name.name-index + 1 = omega (arith, c.in_ok-counts.ensures, held.1) in
    let term : c.in_ok-skolem_term.field-0 ≡ skolem_term (skolem_symbol c.args.prefix.now c.in_ok-counts.field-0) c.args.scope.now.universals = grind (arith, c.in_ok-skolem_term.ensures, c.items.ensures) in
    let next = skolemized_next c.args.prefix.now c.args.scope.now.universals c.args.names.now c.args.counts.now.skolems c.loop-name.name-index c.in_ok-counts.field-0 c.name-item.result c.in_ok-skolem_term.field-0 c.loop-name-test.true c.name-item.is count term in
    grind (arith, next, held)
