use Rattle.std.proofs.Common.{◌≡◌, ◌+◌, arith, append_assoc}
use Rattle.clause_form.proofs.ScopeLaws.{numbered_next, terms_next}
use Rattle.clause_form.proofs.scope.enter_universal.Goals as goal

pub loop-name-preserved : goal.loop-name-preserved
loop-name-preserved c =
    let held = c.loop-name.invariant in
    let count : c.in_ok-counts.field-0 ≡ c.args.counts.now.variables + c.loop-name.name-index + 1 = omega (arith, c.in_ok-counts.ensures, held.2) in
    let next = numbered_next c.args.names.now c.args.counts.now.variables c.loop-name.name-index c.in_ok-counts.field-0 c.name-item.result c.in_ok-variable.variable c.loop-name-test.true c.name-item.is count c.in_ok-variable.ensures in
    let terms = terms_next c.loop-name.pairs c.name-item.result c.in_ok-variable.variable in
    grind (arith, append_assoc, next, terms, held)
