-- Diagnostics as they are found.
use Rattle.std.specs.Prelude.{◌⊎◌, List, Contains}
use Rattle.diagnose.specs.declared.diagnostic.Diagnostic.{Diagnostic}

-- just those for which P holds were added
pub record Adds (P : Diagnostic → Type 0) (old new : List Diagnostic) : Type 0 where
  pub kept : (d : Diagnostic) → Contains old d → Contains new d
  pub added : (d : Diagnostic) → P d → Contains new d
  pub only : (d : Diagnostic) → Contains new d → Contains old d ⊎ P d

-- P holds for one of the elements
pub record OfSome {X : Type 0} (P : X → Diagnostic → Type 0) (xs : List X) (d : Diagnostic) : Type 0 where
  pub one : X
  pub among : Contains xs one
  pub holds : P one d
