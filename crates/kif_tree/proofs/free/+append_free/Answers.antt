use Rattle.std.proofs.Common.{List, ◌++◌, filter, ap, ◌∙◌, arith}
use Rattle.std.specs.List.{flat_map}
use Rattle.std.proofs.lemmas.Result.{on_ok_weaker}
use Rattle.kif_tree.specs.declared.form.Form.{Form}
use Rattle.kif_tree.specs.Names.{is_other, free}
use Rattle.kif_tree.proofs.FreeLaws.{led, free_of_name, free_of_list, free_none, hidden_by, hidden_by_none}
use Rattle.kif_tree.proofs.free.+append_free.Goals as goal

pub append_free-returns-in-Variable-clause-found :
    goal.append_free-returns-in-Variable-clause-found
append_free-returns-in-Variable-clause-found t c = on_ok_weaker c.append_name.result
    (λ h. h ∙ ap (λ (fs : List Form). led c.args.found.now.items ++ filter (is_other c.args.hidden.now) fs) (free_of_name c.args.form.now c.in-Variable.is)) c.append_name.ensures

pub append_free-returns-in-List-clause-found : goal.append_free-returns-in-List-clause-found
append_free-returns-in-List-clause-found t c = on_ok_weaker c.append_of_list.result
    (λ h. h ∙ ap (λ (fs : List Form). led c.args.found.now.items ++ filter (is_other c.args.hidden.now) fs) (free_of_list c.args.form.now c.in-List.parts c.items.result.now c.in-List.is c.items.ensures)) c.append_of_list.ensures.found

pub append_free-returns-in_default-clause-found : goal.append_free-returns-in_default-clause-found
append_free-returns-in_default-clause-found t c = free_none c.args.form.now (led c.args.found.now.items) c.args.hidden.now c.in_default.not-Variable c.in_default.not-Row c.in_default.not-List

pub append_of_list-returns-then-is_empty-clause-found :
    goal.append_of_list-returns-then-is_empty-clause-found
append_of_list-returns-then-is_empty-clause-found t c = on_ok_weaker c.append_of_parts.result
    (λ h. h ∙ ap (λ (fs : List Form). led c.args.found.now.items ++ fs) (hidden_by_none c.args.parts.now c.bound-names.result.now c.args.hidden.now c.bound-names.ensures (grind arith) (flat_map free c.args.parts.now))) c.append_of_parts.ensures.found

pub append_of_list-returns-clause-found : goal.append_of_list-returns-clause-found
append_of_list-returns-clause-found t c =
    c.in_ok-append_of_parts.ensures.found
    ∙ ap (λ (fs : List Form). led c.args.found.now.items ++ fs) (hidden_by c.args.parts.now c.bound-names.result.now c.args.hidden.now c.hide.new.hidden c.bound-names.ensures c.in_ok-fresh.ensures.hidden (flat_map free c.args.parts.now))
