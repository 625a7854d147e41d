use Rattle.std.proofs.Common.{◌&&◌, not, ap, ◌∙◌}
use Rattle.std.specs.Str.{bytes_eq}
use Rattle.kif_tree.specs.Shape.{is_among}
use Rattle.kif_tree.proofs.NameSetLaws.{drops_variable, drops_row, drops_other}
use Rattle.kif_tree.proofs.name_set.NameSet.remove.Goals as goal

pub returns-in-Variable : goal.returns-in-Variable
returns-in-Variable c =
    drops_variable c.args.self.now c.self.inside.variables c.remove.new.self c.self.inside.rows c.args.name.now c.in-Variable.text c.self.view_is c.in-Variable.is
    (λ other. c.remove.ensures other ∙ ap (λ text. is_among c.self.inside.variables other && not (bytes_eq other text)) c.bytes.ensures)

pub returns-in-Row : goal.returns-in-Row
returns-in-Row c =
    drops_row c.args.self.now c.self.inside.variables c.self.inside.rows c.remove-in-Row.new.self c.args.name.now c.in-Row.text c.self.view_is c.in-Row.is
    (λ other. c.remove-in-Row.ensures other ∙ ap (λ text. is_among c.self.inside.rows other && not (bytes_eq other text)) c.bytes-in-Row.ensures)

pub returns-in_default : goal.returns-in_default
returns-in_default c = drops_other c.args.self.now c.self.inside.variables c.self.inside.rows c.args.name.now c.self.view_is c.in_default.not-Variable c.in_default.not-Row
