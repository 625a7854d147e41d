use Rattle.std.proofs.Common.{◌∙◌}
use Rattle.taxonomy.proofs.FormLaws.{parts_of-List, parts_of_other}
use Rattle.signatures.proofs.forms.parts_of.Goals as goal

pub returns-in-List : goal.returns-in-List
returns-in-List c = c.items.ensures ∙ parts_of-List c.args.form.now c.in-List.parts c.in-List.is

pub returns-in_default : goal.returns-in_default
returns-in_default c = parts_of_other c.args.form.now c.in_default.not-List
