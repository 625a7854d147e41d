use Rattle.std.proofs.Common.{arith}
use Rattle.std.proofs.lemmas.List.{take_all}
use Rattle.kif_tree.proofs.ShapeLaws.{token_count_laws, tokens_more}
use Rattle.kif_tree.proofs.shape.+token_count.Goals as goal

pub loop-part-preserved : goal.loop-part-preserved
loop-part-preserved t c = omega (arith, tokens_more c.items-part-items.result.now c.loop-part.part-index c.part-item.result c.loop-part-test.true c.part-item.is)

pub returns-after-loop-part : goal.returns-after-loop-part
returns-after-loop-part t c = grind (arith, token_count_laws, take_all)
