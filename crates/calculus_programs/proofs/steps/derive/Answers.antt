use Rattle.std.proofs.Common.{◌≡◌, ◌+◌, List, take, Some, sym, subst, arith}
use Rattle.kif_tree.specs.Clauses.{Literals}
use Rattle.calculus.specs.Rules.{clause_of, Derivation}
use Rattle.calculus_programs.proofs.DeriveLaws.{derivation_more}
use Rattle.calculus_programs.proofs.steps.derive.Goals as goal

pub loop-step-preserved : goal.loop-step-preserved
loop-step-preserved c =
    let inputs = c.args.inputs.now in
    let steps = c.args.steps.now in
    let made : clause_of inputs c.step-item.result c.loop-step.clauses ≡ Some c.in-Some.clause = grind (arith, c.in_ok-clause.ensures, c.in-Some.is, c.items.ensures, c.step-item.is) in
    let more = derivation_more inputs steps c.loop-step.step-index c.step-item.result c.loop-step.clauses c.in-Some.clause c.loop-step-test.true c.step-item.is c.loop-step.invariant made in
    subst (λ (cs : List Literals). Derivation inputs (take (c.loop-step.step-index + 1) steps) cs) (sym c.in_ok-push.ensures.ok) more
