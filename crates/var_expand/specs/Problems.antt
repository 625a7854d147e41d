-- The problem that a form sets, and the outcome by the choices that fit.
use Rattle.std.specs.Prelude.{◌≡◌, List, [], ◌∷◌, ◌++◌, map, filter, length, Bool, true, false, ◌&&◌, if◌then◌else◌, nat_lt}
use Rattle.std.specs.List.{list_any, flat_map}
use Rattle.kif_tree.specs.declared.form.Form.{Form}
use Rattle.kif_tree.specs.Profile.{compounds}
use Rattle.signatures.specs.declared.signatures.Signatures.{Signatures}
use Rattle.taxonomy.specs.Told.{Link}
use Rattle.var_expand.specs.Choices.{Choice, choices, is_variable, begins_with}
use Rattle.var_expand.specs.Expansion.{nothing_fits}
use Rattle.var_expand.specs.Gathered.{if_applied, applied_below, all_demands}
use Rattle.var_expand.specs.Replacement.{replaced}
use Rattle.var_expand.specs.Search.{passes, relations_of}
use Rattle.var_expand.specs.declared.expanded.Expanded.{Expanded}
use Rattle.var_expand.specs.declared.expanded.Expanded.TheVariants.{Variants, TooMany}
use Rattle.var_expand.specs.declared.fitting.Problem.{Problem}

-- the problem that the form sets, where these of its lists vary and these are its predicate variables and row variables
pub record IsProblem (f : Form) (varying : List (List Form)) (predicates rows : List Form) (told : Signatures) (chains : List Link) (problem : Problem) : Type 0 where
  pub variables : problem.variables ≡ predicates ++ rows
  pub lists : problem.lists ≡ varying
  pub arguments : problem.arguments ≡ flat_map (applied_below false) (compounds f)
  pub sentences : problem.sentences ≡ if_applied f ++ flat_map (applied_below true) (compounds f)
  pub conditions : problem.conditions ≡ all_demands predicates f
  pub signatures : problem.signatures.now ≡ told
  pub links : problem.taxonomy.now.links ≡ chains

-- the choices for all variables that pass
abbrev pub passing : Problem → List Choice
passing problem = filter (passes problem false) (choices (relations_of problem) problem.variables)

abbrev pub answer_by : Form → List Form → List Choice → Expanded
answer_by f predicates [] = nothing_fits predicates
answer_by f predicates (choice ∷ more) = Variants (map (replaced f) (choice ∷ more))

abbrev pub answer : Form → List Form → List Choice → Expanded
answer f predicates fitting = if nat_lt 20000 (length fitting) then TooMany else answer_by f predicates fitting

-- the variable heads one of the lists
unfoldable pub is_predicate : List (List Form) → Form → Bool
is_predicate lists name = is_variable name && list_any (begins_with name) lists
