-- Matching: what the variables of a pattern become so that it is a form, which stays as it is.
use Rattle.std.specs.Prelude.{◌≡◌, List, map, Bool, true, false}
use Rattle.kif_tree.specs.declared.form.Form.{Form}
use Rattle.kif_tree.specs.declared.subst.Pair.{Pair}
use Rattle.kif_tree.specs.Terms.{Bytes, joined, joined_once, variables, distinct}
use Rattle.kif_tree.specs.Subst.{Filling, bind, apply}
use Rattle.unify.specs.Bindings.{Agrees, names_of}

-- the pairs turn the pattern into the form, one for each variable of the pattern
pub record IsMatch (pairs : List Pair) (pattern target : Form) : Type 0 where
  pub gives : apply pairs pattern ≡ target
  pub names : names_of pairs ≡ distinct (variables pattern)

-- nothing turns the pattern into the form
abbrev pub HasNoMatch : Form → Form → Type 0
HasNoMatch pattern target = (g : Filling) → bind g pattern ≡ target → ⊥

-- ---- on the way, where some variables are bound already

abbrev pub GivesForm : Form → Form → Filling → Type 0
GivesForm pattern target g = bind g pattern ≡ target

abbrev pub GivesForms : List Form → List Form → Filling → Type 0
GivesForms patterns targets g = map (bind g) patterns ≡ targets

abbrev pub variables_of_all : List Form → List Bytes
variables_of_all forms = joined (map variables forms)

-- the new pairs say just what the old ones and the goal say, and those of the names that had none have one
pub record Matched (old new : List Pair) (Gives : Filling → Type 0) (names : List Bytes) : Type 0 where
  pub agrees : (g : Filling) → Agrees g new → Agrees g old
  pub gives : (g : Filling) → Agrees g new → Gives g
  pub whole : (g : Filling) → Agrees g old → Gives g → Agrees g new
  pub named : names_of new ≡ joined_once (names_of old) names

-- a goal was reached, or nothing reaches it under the old pairs
abbrev pub Tried : List Pair → List Pair → (Filling → Type 0) → List Bytes → Bool → Type 0
Tried old new Gives names true = Matched old new Gives names
Tried old new Gives names false = (g : Filling) → Agrees g old → Gives g → ⊥
