use Rattle.std.proofs.Common.{List, ap, ◌∙◌}
use Rattle.kif_tree.specs.Terms.{Bytes, variables, joined_once}
use Rattle.kif_tree.proofs.VariableLaws.{joined_once-start}
use Rattle.kif_tree.proofs.terms.variables_of.Goals as goal

pub returns : goal.returns
returns c =
    c.in_ok-append_variables.ensures
    ∙ ap (λ (found : List Bytes). joined_once found (variables c.args.form.now)) c.new-found.ensures
    ∙ joined_once-start (variables c.args.form.now)
