-- What is offered for a variable.
use Rattle.std.specs.Prelude.{List}
use Rattle.kif_tree.specs.declared.form.Form.{Form}

pub record Offered : Type 0 where
  pub variable : Form
  pub allowed : List (List Form)
