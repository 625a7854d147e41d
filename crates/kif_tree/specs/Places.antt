-- Places of forms.
use Rattle.std.specs.Prelude.{◌≢◌, List, [], ◌∷◌}
use Rattle.sigma_base.specs.Lists.{Each}
use Rattle.kif_tree.specs.declared.place.Located.{Located}

-- no two forms stand at one place
abbrev pub PlacesDiffer : List Located → Type 0
PlacesDiffer [] = Unit {0}
PlacesDiffer (located ∷ forms) = Each (λ (other : Located). located.place ≢ other.place) forms × PlacesDiffer forms
