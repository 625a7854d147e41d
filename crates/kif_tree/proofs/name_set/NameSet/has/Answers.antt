use Rattle.std.proofs.Common.{sym, ap, ◌∙◌}
use Rattle.kif_tree.specs.Shape.{is_among}
use Rattle.kif_tree.proofs.NameSetLaws.{has_variable, has_row, has_other}
use Rattle.kif_tree.proofs.name_set.NameSet.has.Goals as goal

pub returns-in-Variable : goal.returns-in-Variable
returns-in-Variable c =
    c.has.ensures ∙ ap (is_among c.self.inside.variables) c.bytes.ensures
    ∙ sym (has_variable c.args.self.now c.self.inside.variables c.self.inside.rows c.args.form.now c.in-Variable.text c.self.view_is c.in-Variable.is)

pub returns-in-Row : goal.returns-in-Row
returns-in-Row c =
    c.has-in-Row.ensures ∙ ap (is_among c.self.inside.rows) c.bytes-in-Row.ensures
    ∙ sym (has_row c.args.self.now c.self.inside.variables c.self.inside.rows c.args.form.now c.in-Row.text c.self.view_is c.in-Row.is)

pub returns-in_default : goal.returns-in_default
returns-in_default c = sym (has_other c.args.self.now c.self.inside.variables c.self.inside.rows c.args.form.now c.self.view_is c.in_default.not-Variable c.in_default.not-Row)
