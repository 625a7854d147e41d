use Rattle.std.proofs.Common.{ap, sym, ◌∙◌}
use Rattle.std.specs.Prelude.{Some}
use Rattle.kif_tree.specs.declared.form.Form.TheVariants as form
use Rattle.clause_form.specs.Sizes.{capped_sizes}
use Rattle.clause_form.proofs.SizeLaws.{sizes_other, sizes_none, sizes_headed, sizes_plain, two_only, of_implied, of_equated, of_conjoined, of_disjoined, sums_on, products_on}
use Rattle.clause_form.proofs.counting.+sizes.Goals as goal

pub sizes_of-returns-in_default : goal.sizes_of-returns-in_default
sizes_of-returns-in_default t c = sym (ap capped_sizes (sizes_other c.args.form.now c.in_default.not-List))

pub sizes_of-returns-in_default-items : goal.sizes_of-returns-in_default-items
sizes_of-returns-in_default-items t c = sym (ap capped_sizes (sizes_none c.args.form.now c.items.result.now (c.in-List.is ∙ ap form.List (sym c.items.ensures)) c.in_default-items.len_below))

pub sizes_of-returns-in-Some : goal.sizes_of-returns-in-Some
sizes_of-returns-in-Some t c =
    c.sizes_connected.ensures
    ∙ sym (ap capped_sizes (sizes_headed c.args.form.now c.items.result.now c.head-item.result (Some c.in-Some.connective) (c.in-List.is ∙ ap form.List (sym c.items.ensures)) c.in-len1-up.len_at_least c.head-item.is (sym c.in-Some.is ∙ c.connective_of.ensures)))

pub sizes_of-returns-in-None : goal.sizes_of-returns-in-None
sizes_of-returns-in-None t c =
    sym (ap capped_sizes (sizes_plain c.args.form.now c.items.result.now c.head-item.result c.connective_of.result (c.in-List.is ∙ ap form.List (sym c.items.ensures)) c.in-len1-up.len_at_least c.head-item.is c.connective_of.ensures c.in-None.is))

pub sizes_connected-returns-in-And : goal.sizes_connected-returns-in-And
sizes_connected-returns-in-And t c = of_conjoined c.conjoined.result c.totals_of.result c.args.connective c.args.parts.now c.in-And.is c.totals_of.ensures c.conjoined.ensures

pub sizes_connected-returns-in-Or : goal.sizes_connected-returns-in-Or
sizes_connected-returns-in-Or t c = of_disjoined c.disjoined.result c.totals_of-in-Or.result c.args.connective c.args.parts.now c.in-Or.is c.totals_of-in-Or.ensures c.disjoined.ensures

pub sizes_connected-returns-in-len2 : goal.sizes_connected-returns-in-len2
sizes_connected-returns-in-len2 t c =
    of_implied c.implied.result c.sizes_of-in-len2.result c.sizes_of-in-len2-2.result c.args.connective c.args.parts.now c.first-item.result c.second-item.result c.in-Implies.is
    (two_only c.args.parts.now c.first-item.result c.second-item.result c.in-len2.len_at_least c.in-len2.len_below c.first-item.is c.second-item.is)
    c.sizes_of-in-len2.ensures c.sizes_of-in-len2-2.ensures c.implied.ensures

pub sizes_connected-returns-in-len2-parts : goal.sizes_connected-returns-in-len2-parts
sizes_connected-returns-in-len2-parts t c =
    of_equated c.equated.result c.sizes_of-in-len2-parts.result c.sizes_of-in-len2-parts-2.result c.args.connective c.args.parts.now c.first-item-then-parts-lt3-2.result c.second-item-then-parts-lt3-2.result
    c.in-Equivalent.is
    (two_only c.args.parts.now c.first-item-then-parts-lt3-2.result c.second-item-then-parts-lt3-2.result c.in-len2-parts.len_at_least c.in-len2-parts.len_below c.first-item-then-parts-lt3-2.is c.second-item-then-parts-lt3-2.is)
    c.sizes_of-in-len2-parts.ensures c.sizes_of-in-len2-parts-2.ensures c.equated.ensures

pub totals_of-loop-part-preserved : goal.totals_of-loop-part-preserved
totals_of-loop-part-preserved t c = record {
  sums =
      sums_on c.loop-part.sums c.sizes_of-sizes.result c.plus-sums.result c.args.parts.now c.loop-part.part-index c.part-item.result c.loop-part-test.true c.part-item.is c.loop-part.invariant.sums c.sizes_of-sizes.ensures
      c.plus-sums.ensures;
  products =
      products_on c.loop-part.products c.sizes_of-sizes.result c.times-products.result c.args.parts.now c.loop-part.part-index c.part-item.result c.loop-part-test.true c.part-item.is c.loop-part.invariant.products
      c.sizes_of-sizes.ensures c.times-products.ensures;
}
