-- Laws of the definitions.
use Rattle.std.specs.Prelude.{◌≡◌, List, true}
use Rattle.std.specs.Bool.{Decides}
use Rattle.sigma_base.specs.Lists.{Each}
use Rattle.kif_tree.specs.declared.form.Form.{Form}
use Rattle.kif_tree.specs.declared.subst.Pair.{Pair}
use Rattle.kif_tree.specs.Terms.{Bytes, same, variables, is_ground, has_no_row}
use Rattle.kif_tree.specs.Subst.{Filling, bind, apply, compose}

-- one substitution and then another replace as their composition does
abbrev pub Composes : Type 0
Composes = (first second : List Pair) (form : Form) → apply (compose first second) form ≡ apply second (apply first form)

-- the test of two forms decides whether they are equal
abbrev pub SameDecides : Type 0
SameDecides = (first second : Form) → Decides (same first second) (first ≡ second)

-- fillings that agree on the variables of a form agree on the form
abbrev pub Agrees : Type 0
Agrees = (first second : Filling) (form : Form) → Each (λ name. first name ≡ second name) (variables form) → bind first form ≡ bind second form

-- and only those
abbrev pub AgreesOnly : Type 0
AgreesOnly = (first second : Filling) (form : Form) → bind first form ≡ bind second form → Each (λ name. first name ≡ second name) (variables form)

-- ground forms in the place of all variables make a form without row variables ground
abbrev pub Grounds : Type 0
Grounds = (g : Filling) (form : Form) → has_no_row form ≡ true → ((name : Bytes) → is_ground (g name) ≡ true) → is_ground (bind g form) ≡ true
