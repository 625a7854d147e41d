-- What variables are bound to while forms are matched.
use Rattle.std.specs.Prelude.{◌≡◌, List, ◌++◌, map}
use Rattle.sigma_base.specs.Lists.{Each}
use Rattle.kif_tree.specs.declared.subst.Pair.{Pair}
use Rattle.kif_tree.specs.Terms.{Bytes}
use Rattle.kif_tree.specs.Subst.{Filling, lookup}

-- the filling gives each variable what its pair says
abbrev pub Agrees : Filling → List Pair → Type 0
Agrees g pairs = Each (λ (pair : Pair). g pair.variable ≡ pair.term) pairs

-- no pair stands behind another one with its variable and another form
abbrev pub AreConsistent : List Pair → Type 0
AreConsistent pairs = Agrees (lookup pairs) pairs

-- pairs were added at the end
pub record Grows (old new : List Pair) : Type 0 where
  pub more : List Pair
  pub is : new ≡ old ++ more

abbrev pub names_of : List Pair → List Bytes
names_of pairs = map (λ (pair : Pair). pair.variable) pairs
