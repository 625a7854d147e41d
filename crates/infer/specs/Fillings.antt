-- Most general fillings of two clauses with variables of their own.
use Rattle.std.specs.Prelude.{◌≡◌, ℕ, List, ◌∷◌, map, true}
use Rattle.std.specs.List.{list_any}
use Rattle.std.specs.Str.{bytes_eq}
use Rattle.sigma_base.specs.Lists.{Each}
use Rattle.kif_tree.specs.declared.form.Form.{Form}
use Rattle.kif_tree.specs.declared.form.Form.TheVariants as form
use Rattle.kif_tree.specs.declared.subst.Pair.{Pair}
use Rattle.kif_tree.specs.Terms.{Bytes, variables}
use Rattle.kif_tree.specs.Subst.{Filling, bind, lookup}
use Rattle.kif_tree.specs.Clauses.{Literals, clause_variables}
use Rattle.infer.specs.declared.apart.Apart.{Apart}

-- the variables of the form are variables of the clause
abbrev pub IsOf : Literals → Form → Type 0
IsOf clause form = Each (λ name. list_any (bytes_eq name) (clause_variables clause) ≡ true) (variables form)

-- each of the two fillings is a substitution followed by one and the same filling, on the variables of its clause
pub record GeneralizesBoth (left_clause right_clause : Literals) (apart : Apart) (f g : Filling) : Type 0 where
  pub next : Filling
  pub left : Each (λ name. f name ≡ bind next (lookup apart.left.pairs name)) (clause_variables left_clause)
  pub right : Each (λ name. g name ≡ bind next (lookup apart.right.pairs name)) (clause_variables right_clause)

-- the substitutions make the forms equal, and whatever else does so is they followed by a filling
pub record Meet (left : Literals) (first : Form) (right : Literals) (second : Form) (apart : Apart) : Type 0 where
  pub equal : bind (lookup apart.left.pairs) first ≡ bind (lookup apart.right.pairs) second
  pub general : (f g : Filling) → bind f first ≡ bind g second → GeneralizesBoth left right apart f g

-- each name becomes the variable of that name with a byte before it
abbrev pub tags : ℕ → List Bytes → List Pair
tags tag names = map (λ (name : Bytes). record { variable = name; term = form.Variable (tag ∷ name) }) names
