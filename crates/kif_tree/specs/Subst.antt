-- Substitution: one function of a map from names to forms, from which that by pairs and the filling of ground instances are made.
use Rattle.std.specs.Prelude.{List, [], ◌∷◌, ◌++◌, map, if◌then◌else◌, codes}
use Rattle.std.specs.Str.{bytes_eq}
use Rattle.kif_tree.specs.declared.form.Form.{Form, fold-Form}
use Rattle.kif_tree.specs.declared.form.Form.TheVariants as form
use Rattle.kif_tree.specs.declared.form.Form.TheOpen.{Form-F}
use Rattle.kif_tree.specs.declared.subst.Pair.{Pair}
use Rattle.kif_tree.specs.declared.subst.Unnamed.{Unnamed}
use Rattle.kif_tree.specs.declared.subst.Unnamed.TheVariants.{Stays, BecomesAny}
use Rattle.kif_tree.specs.Terms.{Bytes}

-- what each variable becomes
abbrev pub Filling : Type 0
Filling = Bytes → Form

abbrev pub bind_step : Filling → Form-F Form → Form
bind_step g (Form-F.Word text) = form.Word text
bind_step g (Form-F.Variable text) = g text
bind_step g (Form-F.Row text) = form.Row text
bind_step g (Form-F.Numeral text) = form.Numeral text
bind_step g (Form-F.Quoted text) = form.Quoted text
bind_step g (Form-F.List parts) = form.List parts

-- the form with all its variables replaced at once
unfoldable pub bind : Filling → Form → Form
bind g = fold-Form Form (bind_step g)

-- one filling and then another
abbrev pub via : Filling → Filling → Filling
via first second name = bind second (first name)

-- the first pair with the variable counts, and a variable that no pair names stays
abbrev pub lookup : List Pair → Filling
lookup [] name = form.Variable name
lookup (pair ∷ pairs) name = if bytes_eq pair.variable name then pair.term else lookup pairs name

-- the form under a substitution
abbrev pub apply : List Pair → Form → Form
apply pairs = bind (lookup pairs)

-- what a variable becomes in a ground instance where nothing names it
abbrev pub any_word : Form
any_word = form.Word (codes "!any")

-- the first pair with the variable counts, and a variable that no pair names becomes that word
abbrev pub value_of : List Pair → Filling
value_of [] name = any_word
value_of (pair ∷ pairs) name = if bytes_eq pair.variable name then pair.term else value_of pairs name

abbrev pub filling_of : Unnamed → List Pair → Filling
filling_of Stays pairs = lookup pairs
filling_of BecomesAny pairs = value_of pairs

-- the pair with its form replaced
abbrev pub apply_pair : List Pair → Pair → Pair
apply_pair pairs pair = record { variable = pair.variable; term = apply pairs pair.term }

-- the first substitution followed by the second
abbrev pub compose : List Pair → List Pair → List Pair
compose first second = map (apply_pair second) first ++ second
