use Rattle.std.proofs.Common.{List, map, sym, ap, ◌∙◌}
use Rattle.std.proofs.lemmas.List.{take_all}
use Rattle.kif_tree.specs.Terms.{Bytes, variables, joined_once, joined}
use Rattle.kif_tree.proofs.TermLaws.{variables_other, variables-List}
use Rattle.kif_tree.proofs.VariableLaws.{joined_once_more, joined_once-none}
use Rattle.kif_tree.proofs.terms.+append_variables.Goals as goal

pub loop-part-preserved : goal.loop-part-preserved
loop-part-preserved t c =
    c.in_ok-append_variables-in-List.ensures
    ∙ ap (λ (found : List Bytes). joined_once found (variables c.part-item.result)) c.loop-part.invariant
    ∙ sym (joined_once_more variables c.args.found.now c.items-part-items.result.now c.loop-part.part-index c.part-item.result c.loop-part-test.true c.part-item.is)

pub returns-after-loop-part : goal.returns-after-loop-part
returns-after-loop-part t c =
    c.loop-part.invariant
    ∙ ap (joined_once c.args.found.now)
    (ap (λ parts. joined (map variables parts)) (take_all c.loop-part.part-index c.items-part-items.result.now c.loop-part-test.false ∙ c.items-part-items.ensures)
    ∙ sym (variables-List c.in-List.parts) ∙ ap variables (sym c.in-List.is))

pub returns-in_default : goal.returns-in_default
returns-in_default t c =
    sym (ap (joined_once c.args.found.now) (variables_other c.args.form.now c.in_default.not-Variable c.in_default.not-List) ∙ joined_once-none c.args.found.now)
