use Rattle.std.proofs.Common.{◌≡◌, false, ap, sym, ◌∙◌}
use Rattle.kif_tree.specs.Terms.{occurs}
use Rattle.kif_tree.proofs.TermLaws.{occurs-Variable}
use Rattle.unify.proofs.Clashes.{clash_occurs, binds_variable}
use Rattle.unify.proofs.difference.binding.Goals as goal

pub returns-else-equals : goal.returns-else-equals
returns-else-equals c =
    let name = c.args.name.now in
    let apart : occurs name c.args.term.now ≡ false =
    ap (occurs name) c.in-Variable.is ∙ occurs-Variable name c.in-Variable.other ∙ sym c.equals.ensures.test ∙ c.if-equals.false in
    binds_variable name c.args.term.now apart

pub returns-then-occurs : goal.returns-then-occurs
returns-then-occurs c = clash_occurs c.args.name.now c.args.term.now c.in_default.not-Variable (sym c.occurs.ensures ∙ c.if-occurs.true)

pub returns-else-occurs : goal.returns-else-occurs
returns-else-occurs c = binds_variable c.args.name.now c.args.term.now (sym c.occurs.ensures ∙ c.if-occurs.false)
