use Rattle.std.proofs.Common.{arith}
use Rattle.std.proofs.lemmas.List.{take_all}
use Rattle.kif_tree.specs.Terms.{symbols}
use Rattle.kif_tree.proofs.TermLaws.{symbols_laws, symbols_other, sum_more}
use Rattle.kif_tree.proofs.terms.+symbols.Goals as goal

pub loop-part-preserved : goal.loop-part-preserved
loop-part-preserved t c = omega (arith, sum_more symbols c.items-part-items.result.now c.loop-part.part-index c.part-item.result c.loop-part-test.true c.part-item.is)

pub returns-after-loop-part : goal.returns-after-loop-part
returns-after-loop-part t c = grind (arith, symbols_laws, take_all)

pub returns-in_default : goal.returns-in_default
returns-in_default t c = omega (arith, symbols_other c.args.form.now c.in_default.not-Row c.in_default.not-List)
