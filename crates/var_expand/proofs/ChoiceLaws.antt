-- What a choice makes of a form, by what it sets.
use Rattle.std.proofs.Common.{◌≡◌, List, [], ◌∷◌, Bool, true, false, Option, Some, None, if◌then◌else◌, refl, sym, ap, ◌∙◌}
use Rattle.kif_tree.specs.declared.form.Form.{Form}
use Rattle.kif_tree.specs.Terms.{same}
use Rattle.var_expand.specs.Choices.{Choice, becomes_by}
use Rattle.var_expand.specs.Chosen.{set_to}

abbrev or_itself : Form → Option (List Form) → List Form
or_itself f (Some becomes) = becomes
or_itself f None = f ∷ []

one_more : (f : Form) (becomes later : List Form) (set : Option (List Form)) (here : Bool) → later ≡ or_itself f set
    → (if here then becomes else later) ≡ or_itself f (if here then Some becomes else set)
one_more f becomes later set true e = refl
one_more f becomes later set false e = e

by_set : (choice : Choice) (f : Form) → becomes_by choice f ≡ or_itself f (set_to choice f)
by_set [] f = refl
by_set (setting ∷ choice) f = one_more f setting.becomes (becomes_by choice f) (set_to choice f) (same setting.variable f) (by_set choice f)

pub becomes_set : (choice : Choice) (f : Form) (becomes : List Form) → Some becomes ≡ set_to choice f → becomes_by choice f ≡ becomes
becomes_set choice f becomes e = by_set choice f ∙ ap (or_itself f) (sym e)

pub becomes_unset : (choice : Choice) (f : Form) → None ≡ set_to choice f → becomes_by choice f ≡ f ∷ []
becomes_unset choice f e = by_set choice f ∙ ap (or_itself f) (sym e)
