-- What a choice sets, and the words that become of forms.
use Rattle.std.specs.Prelude.{List, [], ◌∷◌, Bool, Option, Some, None, is_some, if◌then◌else◌}
use Rattle.kif_tree.specs.declared.form.Form.{Form}
use Rattle.kif_tree.specs.Terms.{Bytes, same}
use Rattle.taxonomy.specs.Told.{word_text}
use Rattle.var_expand.specs.Choices.{Choice}

-- what the choice sets for the form, if anything
abbrev pub set_to : Choice → Form → Option (List Form)
set_to [] f = None
set_to (setting ∷ choice) f = if same setting.variable f then Some setting.becomes else set_to choice f

abbrev pub is_set : Choice → Form → Bool
is_set choice f = is_some (set_to choice f)

-- the text of the first form, where it is a word
abbrev pub first_word : List Form → Option Bytes
first_word [] = None
first_word (f ∷ fs) = word_text f
