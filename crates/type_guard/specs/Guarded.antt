-- A form whose free variables are quantified and whose quantifiers are guarded.
use Rattle.std.specs.Prelude.{List, [], ◌∷◌, ◌++◌, map, filter, Bool, ◌&&◌, if◌then◌else◌, codes}
use Rattle.std.specs.Str.{bytes_eq}
use Rattle.kif_tree.specs.declared.form.Form.{Form, para-Form, out-Form}
use Rattle.kif_tree.specs.declared.form.Form.TheOpen.{Form-F}
use Rattle.kif_tree.specs.declared.form.Form.TheVariants as form
use Rattle.kif_tree.specs.Terms.{Bytes}
use Rattle.kif_tree.specs.Shape.{is_quantifier, lists_names_layer}
use Rattle.kif_tree.specs.Names.{parts_in, free_names}
use Rattle.kif_tree.specs.Profile.{begins}
use Rattle.signatures.specs.declared.signatures.Signatures.{Signatures}
use Rattle.type_guard.specs.Guards.{guards}
use Rattle.type_guard.specs.Occurrences.{is_variable}

abbrev pub list_of : Bytes → List Form → Form
list_of head arguments = form.List (form.Word head ∷ arguments)

-- ---- the free variables are quantified

abbrev pub closed_over : List Form → Form → Form
closed_over [] f = f
closed_over (name ∷ names) f = list_of (codes "forall") (form.List (name ∷ names) ∷ f ∷ [])

-- the form under a `forall` over its free variables, in order of their first free occurrence
abbrev pub closed : Form → Form
closed f = closed_over (filter is_variable (free_names f)) f

-- ---- a body with its guards

-- one guard as it is, several in an `and`
abbrev pub all_of : Form → List Form → Form
all_of guard [] = guard
all_of guard (other ∷ more) = list_of (codes "and") (guard ∷ other ∷ more)

-- `(=> G B)`: what is so of each thing holds where the guards do
abbrev pub for_all : List Form → Form → Form
for_all [] body = body
for_all (guard ∷ more) body = list_of (codes "=>") (all_of guard more ∷ body ∷ [])

-- `(and G1 .. Gk B)`: what is so of some thing holds beside the guards
abbrev pub for_some : List Form → Form → Form
for_some [] body = body
for_some (guard ∷ more) body = list_of (codes "and") (guard ∷ more ++ body ∷ [])

abbrev pub is_existential : Form → Bool
is_existential head = begins (bytes_eq (codes "exists")) (head ∷ [])

abbrev pub under : Form → List Form → Form → Form
under quantifier all body = if is_existential quantifier then for_some all body else for_all all body

-- ---- at each quantifier

-- a part beside itself guarded
abbrev pub Part : Type 0
Part = Form × Form

abbrev pub each_guarded : List Part → List Form
each_guarded parts = map (λ (part : Part). part.1) parts

-- a quantifier's guards are those of its body as it stood before guarding; any other list keeps its parts, each guarded
abbrev pub guarded_parts : Signatures → List Part → List Form
guarded_parts signatures (head ∷ names ∷ body ∷ []) =
    if is_quantifier head.0 && lists_names_layer (out-Form names.0)
    then head.0 ∷ names.0 ∷ under head.0 (guards signatures (parts_in names.0) body.0) body.1 ∷ []
    else each_guarded (head ∷ names ∷ body ∷ [])
guarded_parts signatures parts = each_guarded parts

abbrev pub guarded_step : Signatures → Form-F Part → Form
guarded_step signatures (Form-F.Word text) = form.Word text
guarded_step signatures (Form-F.Variable text) = form.Variable text
guarded_step signatures (Form-F.Row text) = form.Row text
guarded_step signatures (Form-F.Numeral text) = form.Numeral text
guarded_step signatures (Form-F.Quoted text) = form.Quoted text
guarded_step signatures (Form-F.List parts) = form.List (guarded_parts signatures parts)

-- the form with the body of each quantifier guarded
unfoldable pub guarded : Signatures → Form → Form
guarded signatures = para-Form Form (guarded_step signatures)
