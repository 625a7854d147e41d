-- The variants of a form: the form after each choice that fits, in order of the choices.
use Rattle.std.specs.Prelude.{◌≡◌, ◌↔◌, List, [], ◌∷◌, map, filter, length, Bool, true, if◌then◌else◌, nat_lt}
use Rattle.kif_tree.specs.declared.form.Form.{Form}
use Rattle.taxonomy.specs.Told.{Link}
use Rattle.signatures.specs.Tables.{relations_in}
use Rattle.signatures.specs.declared.signatures.Signatures.{Signatures}
use Rattle.var_expand.specs.Choices.{predicate_variables, chosen_for, Choice, choices}
use Rattle.var_expand.specs.Fitting.{Fits}
use Rattle.var_expand.specs.Replacement.{replaced}
use Rattle.var_expand.specs.declared.expanded.Expanded.{Expanded}
use Rattle.var_expand.specs.declared.expanded.Expanded.TheVariants.{Variants, NoLength, NoRelation, TooMany}

-- what is said where nothing fits
abbrev pub nothing_fits : List Form → Expanded
nothing_fits [] = NoLength
nothing_fits (variable ∷ variables) = NoRelation

abbrev pub variants_by : Form → List Choice → Expanded
variants_by f [] = nothing_fits (predicate_variables f)
variants_by f (choice ∷ more) = Variants (map (replaced f) (choice ∷ more))

-- the outcome, by the choices that fit
abbrev pub outcome : Form → List Choice → Expanded
outcome f fitting = if nat_lt 20000 (length fitting) then TooMany else variants_by f fitting

-- the outcome by just those of all choices that fit
pub record IsExpansion (links : List Link) (signatures : Signatures) (f : Form) (expanded : Expanded) : Type 0 where
  pub test : Choice → Bool
  pub tells : (choice : Choice) → (test choice ≡ true) ↔ Fits links signatures f choice
  pub is : expanded ≡ outcome f (filter test (choices (relations_in signatures) (chosen_for f)))
