-- A form after a choice.
use Rattle.std.specs.Prelude.{List, [], ◌∷◌, map, filter, not, if◌then◌else◌}
use Rattle.std.specs.List.{list_any, flat_map}
use Rattle.kif_tree.specs.declared.form.Form.{Form, para-Form}
use Rattle.kif_tree.specs.declared.form.Form.TheOpen.{Form-F}
use Rattle.kif_tree.specs.declared.form.Form.TheVariants as form
use Rattle.kif_tree.specs.Terms.{same}
use Rattle.kif_tree.specs.Names.{bound}
use Rattle.kif_tree.specs.Shape.{is_name}
use Rattle.var_expand.specs.Choices.{Setting, Choice, becomes_by}

-- what remains of a choice where a quantifier lists these names
abbrev pub without : List Form → Choice → Choice
without names choice = filter (λ (setting : Setting). not (list_any (same setting.variable) names)) choice

-- a variable or row variable becomes what is chosen for it, and any other part stays one form
abbrev pub spliced : Choice → Form × (Choice → Form) → List Form
spliced choice part = if is_name part.0 then becomes_by choice part.0 else part.1 choice ∷ []

abbrev pub replaced_step : Form-F (Form × (Choice → Form)) → Choice → Form
replaced_step (Form-F.Word text) choice = form.Word text
replaced_step (Form-F.Variable text) choice = form.Variable text
replaced_step (Form-F.Row text) choice = form.Row text
replaced_step (Form-F.Numeral text) choice = form.Numeral text
replaced_step (Form-F.Quoted text) choice = form.Quoted text
replaced_step (Form-F.List parts) choice = form.List (flat_map (spliced (without (bound (map (λ (part : Form × (Choice → Form)). part.0) parts)) choice)) parts)

-- the form with its variables and row variables replaced in all lists where they are free
unfoldable pub replaced : Form → Choice → Form
replaced = para-Form (Choice → Form) replaced_step
