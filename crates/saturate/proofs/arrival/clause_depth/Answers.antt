use Rattle.std.proofs.Common.{arith}
use Rattle.kif_tree.specs.declared.clause.Literal.{Literal}
use Rattle.kif_tree.specs.Terms.{depth}
use Rattle.kif_tree.proofs.TermLaws.{greatest_more}
use Rattle.saturate.proofs.arrival.clause_depth.Goals as goal

pub loop-literal-preserved : goal.loop-literal-preserved
loop-literal-preserved c =
    omega (arith, greatest_more (λ (literal : Literal). depth literal.atom) c.items-literal-items.result.now c.loop-literal.literal-index c.literal-item.result c.loop-literal-test.true c.literal-item.is)
