use Rattle.std.proofs.Common.{◌≡◌, ◌+◌, List, take, Some, sym, subst, arith}
use Rattle.std.proofs.lemmas.List.{take_all}
use Rattle.kif_tree.specs.Clauses.{Literals}
use Rattle.calculus.specs.declared.step.Step.{Step}
use Rattle.calculus.specs.Rules.{clause_of, Derivation}
use Rattle.calculus_programs.proofs.DeriveLaws.{derivation_more}
use Rattle.infer.specs.Checks.{clauses_of}
use Rattle.infer.proofs.CheckLaws.{has_ground_evidence, follows_from_evidence, keeps_answers}
use Rattle.infer.proofs.check.check_derivation.Goals as goal

pub loop-number-preserved : goal.loop-number-preserved
loop-number-preserved c =
    let inputs = clauses_of c.args.inputs.now in
    let steps = c.args.steps.now in
    let made : clause_of inputs c.index-steps-number.result c.loop-number.clauses ≡ Some c.in-Some.clause = grind (arith, c.in_ok-clause.ensures, c.in-Some.is, c.items.ensures, c.index-steps-number.is) in
    let more = derivation_more inputs steps c.loop-number.number c.index-steps-number.result c.loop-number.clauses c.in-Some.clause c.loop-number-test.true c.index-steps-number.is c.loop-number.invariant made in
    subst (λ (cs : List Literals). Derivation inputs (take (c.loop-number.number + 1) steps) cs) (sym c.in_ok-push.ensures.ok) more

pub returns-clause-ground : goal.returns-clause-ground
returns-clause-ground c =
    let whole = take_all c.loop-number.number c.args.steps.now (omega (arith, c.loop-number-test.false)) in
    has_ground_evidence (clauses_of c.args.inputs.now) c.args.steps.now c.loop-number.clauses
    (subst (λ (steps : List Step). Derivation (clauses_of c.args.inputs.now) steps c.loop-number.clauses) whole c.loop-number.invariant)

pub returns-clause-follows : goal.returns-clause-follows
returns-clause-follows c =
    let whole = take_all c.loop-number.number c.args.steps.now (omega (arith, c.loop-number-test.false)) in
    follows_from_evidence (clauses_of c.args.inputs.now) c.args.steps.now c.loop-number.clauses
    (subst (λ (steps : List Step). Derivation (clauses_of c.args.inputs.now) steps c.loop-number.clauses) whole c.loop-number.invariant)

pub returns-clause-answers : goal.returns-clause-answers
returns-clause-answers c =
    let whole = take_all c.loop-number.number c.args.steps.now (omega (arith, c.loop-number-test.false)) in
    keeps_answers (clauses_of c.args.inputs.now) c.args.steps.now c.loop-number.clauses
    (subst (λ (steps : List Step). Derivation (clauses_of c.args.inputs.now) steps c.loop-number.clauses) whole c.loop-number.invariant)
