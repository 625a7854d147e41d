use Rattle.std.proofs.Common.{◌≡◌, [], Bool, not, ◌↔◌, sym, subst, arith}
use Rattle.std.specs.Bool.{IsTrue}
use Rattle.std.proofs.lemmas.List.{take_all}
use Rattle.calculus.specs.Truth.{Refutes}
use Rattle.calculus_programs.specs.Choices.{some_choice, gathered_all}
use Rattle.calculus_programs.proofs.ChoiceLaws.{gathered_all_more, refuted}
use Rattle.calculus_programs.proofs.refute.refutes.Goals as goal

pub loop-clause-preserved : goal.loop-clause-preserved
loop-clause-preserved c =
    let more = gathered_all_more [] c.args.clauses.now c.loop-clause.clause-index c.clause-item.result c.loop-clause-test.true c.clause-item.is in
    grind (arith, more)

pub returns : goal.returns
returns c =
    let found : c.in_ok-found.found ≡ some_choice c.args.clauses.now [] (gathered_all [] c.args.clauses.now) = grind (arith, take_all) in
    subst (λ (b : Bool). IsTrue (not b) ↔ Refutes c.args.clauses.now) (sym found) (refuted c.args.clauses.now)
