use Rattle.std.proofs.Common.{◌||◌, ap, ◌∙◌}
use Rattle.std.specs.Str.{bytes_eq}
use Rattle.std.proofs.lemmas.Result.{on_ok_weaker}
use Rattle.kif_tree.specs.Shape.{is_among}
use Rattle.kif_tree.proofs.NameSetLaws.{adds_variable, adds_row}
use Rattle.kif_tree.proofs.name_set.NameSet.add.Goals as goal

pub returns-in-Variable : goal.returns-in-Variable
returns-in-Variable c = on_ok_weaker c.add.result
    (λ more. adds_variable c.args.self.now c.self.inside.variables c.add.new.self c.self.inside.rows c.args.name.now c.in-Variable.text c.self.view_is c.in-Variable.is
    (λ other. more other ∙ ap (λ text. is_among c.self.inside.variables other || bytes_eq other text) c.bytes.ensures)) c.add.ensures

pub returns-in-Row : goal.returns-in-Row
returns-in-Row c = on_ok_weaker c.add-in-Row.result
    (λ more. adds_row c.args.self.now c.self.inside.variables c.self.inside.rows c.add-in-Row.new.self c.args.name.now c.in-Row.text c.self.view_is c.in-Row.is
    (λ other. more other ∙ ap (λ text. is_among c.self.inside.rows other || bytes_eq other text) c.bytes-in-Row.ensures)) c.add-in-Row.ensures
