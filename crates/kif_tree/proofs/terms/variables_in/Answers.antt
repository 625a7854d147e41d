use Rattle.std.proofs.Common.{[], arith}
use Rattle.std.proofs.lemmas.List.{take_all}
use Rattle.kif_tree.specs.Clauses.{clause_variables}
use Rattle.kif_tree.proofs.VariableLaws.{joined_once-start, names_more}
use Rattle.kif_tree.proofs.terms.variables_in.Goals as goal

pub loop-literal-preserved : goal.loop-literal-preserved
loop-literal-preserved c =
    let more = names_more [] c.args.literals.now c.loop-literal.literal-index c.literal-item.result c.loop-literal-test.true c.literal-item.is in
    grind (arith, more)

pub returns : goal.returns
returns c = let start = joined_once-start (clause_variables c.args.literals.now) in grind (arith, take_all, start)
