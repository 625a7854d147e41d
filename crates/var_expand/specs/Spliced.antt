-- What stands for a part of a list after a choice.
use Rattle.std.specs.Prelude.{List, [], ◌∷◌, if◌then◌else◌}
use Rattle.kif_tree.specs.declared.form.Form.{Form}
use Rattle.kif_tree.specs.Shape.{is_name}
use Rattle.var_expand.specs.Choices.{Choice, becomes_by}
use Rattle.var_expand.specs.Replacement.{replaced}

abbrev pub spliced_part : Choice → Form → List Form
spliced_part choice part = if is_name part then becomes_by choice part else replaced part choice ∷ []
