-- Two lists of diagnostics in one.
use Rattle.std.specs.Prelude.{◌≡◌, ◌≢◌, ◌⊎◌, ◌↔◌, List, [], ◌∷◌, ◌++◌, Contains}
use Rattle.sigma_base.specs.Lists.{Each}
use Rattle.kif_tree.specs.declared.place.Located.{Located}
use Rattle.kif_tree.specs.declared.place.Place.{Place}
use Rattle.diagnose.specs.declared.diagnostic.Diagnostic.{Diagnostic}
use Rattle.diagnose.specs.Diagnostics.{AreAscending}
use Rattle.diagnose.specs.Order.{IsFormPlace}
use Rattle.diagnose.specs.SoFar.{HasPlace}

-- each stands at the place of one of the forms, and the other place, where there is one, is that of one
abbrev pub ArePlaced : List Located → List Diagnostic → Type 0
ArePlaced forms list = Each (λ (d : Diagnostic). HasPlace forms d.place × IsFormPlace forms d.other) list

-- those of both lists, in order, each once
pub record AreMerged (forms : List Located) (first second list : List Diagnostic) : Type 0 where
  pub ascending : AreAscending forms list
  pub exactly : (d : Diagnostic) → Contains list d ↔ (Contains first d ⊎ Contains second d)

-- ---- the diagnostics of one form

-- the first, where there is one, stands elsewhere
abbrev pub BeginElsewhere : Place → List Diagnostic → Type 0
BeginElsewhere place [] = Unit {0}
BeginElsewhere place (d ∷ list) = d.place ≢ place

-- a list parted where the first stands elsewhere
pub record AreParted (place : Place) (list front rest : List Diagnostic) : Type 0 where
  pub parts : list ≡ front ++ rest
  pub here : Each (λ (d : Diagnostic). d.place ≡ place) front
  pub elsewhere : BeginElsewhere place rest

-- ---- the forms gone through

-- what is left of both lists stands at the forms that are left, and the list has the others
pub record AreMergedSoFar (forms gone ahead : List Located) (first second left right list : List Diagnostic) : Type 0 where
  pub ascending : AreAscending forms list
  pub placed : Each (λ (d : Diagnostic). HasPlace gone d.place) list
  pub left_ascending : AreAscending forms left
  pub right_ascending : AreAscending forms right
  pub left_placed : Each (λ (d : Diagnostic). HasPlace ahead d.place × IsFormPlace forms d.other) left
  pub right_placed : Each (λ (d : Diagnostic). HasPlace ahead d.place × IsFormPlace forms d.other) right
  pub exactly : (d : Diagnostic) → (Contains first d ⊎ Contains second d) ↔ (Contains list d ⊎ (Contains left d ⊎ Contains right d))
