-- Sets of variables and row variables.
use Rattle.std.specs.Prelude.{List, map, ◌++◌}
use Rattle.kif_tree.specs.declared.form.Form.{Form}
use Rattle.kif_tree.specs.declared.form.Form.TheVariants as form
use Rattle.kif_tree.specs.Terms.{Bytes}

-- the variables and row variables with these texts
abbrev pub names_of : List Bytes → List Bytes → List Form
names_of variables rows = map form.Variable variables ++ map form.Row rows
