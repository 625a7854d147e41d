-- The conditions that a form headed `=>` puts on what is chosen: its first part, or the direct parts of an `and` that stands there.
use Rattle.std.specs.Prelude.{◌≡◌, List, [], ◌∷◌, map, filter, Bool, false, ◌&&◌, ◌||◌, if◌then◌else◌, codes, Option, Some, is_some}
use Rattle.std.specs.List.{list_any, flat_map}
use Rattle.std.specs.Str.{bytes_eq}
use Rattle.kif_tree.specs.declared.form.Form.{Form}
use Rattle.kif_tree.specs.Terms.{Bytes, same, after_head}
use Rattle.kif_tree.specs.Names.{parts_in}
use Rattle.kif_tree.specs.Profile.{begins}
use Rattle.taxonomy.specs.Chains.{Chain}
use Rattle.taxonomy.specs.Told.{Link, kind_of, word_text, word_texts}
use Rattle.taxonomy.specs.declared.told.ChainKind.{ChainKind}
use Rattle.var_expand.specs.Choices.{predicate_variables}

abbrev pub is_word : Form → Bool
is_word f = is_some (word_text f)

abbrev pub is_one_of : List Form → Form → Bool
is_one_of fs f = list_any (same f) fs

-- `(instance ?R C)`, where ?R is one of the predicate variables
abbrev pub is_instance_condition : List Form → List Form → Bool
is_instance_condition predicates (head ∷ low ∷ high ∷ []) = begins (bytes_eq (codes "instance")) (head ∷ []) && (is_one_of predicates low && is_word high)
is_instance_condition predicates _ = false

abbrev pub is_side : List Form → Form → Bool
is_side predicates f = is_word f || is_one_of predicates f

-- `(subrelation r s)`, where each is a word or one of the predicate variables, and one at least such a variable
abbrev pub is_subrelation_condition : List Form → List Form → Bool
is_subrelation_condition predicates (head ∷ low ∷ high ∷ []) =
    begins (bytes_eq (codes "subrelation")) (head ∷ [])
    && ((is_side predicates low && is_side predicates high) && (is_one_of predicates low || is_one_of predicates high))
is_subrelation_condition predicates _ = false

abbrev pub is_condition : List Form → List Form → Bool
is_condition predicates parts = is_instance_condition predicates parts || is_subrelation_condition predicates parts

-- the first part of an implication
abbrev pub antecedents : List Form → List Form
antecedents (head ∷ first ∷ second ∷ []) = if begins (bytes_eq (codes "=>")) (head ∷ []) then first ∷ [] else []
antecedents _ = []

-- the parts of an `and`, and any other form itself
abbrev pub conjuncts : Form → List Form
conjuncts f = if begins (bytes_eq (codes "and")) (parts_in f) then after_head (parts_in f) else f ∷ []

-- the conditions of a form, each as its parts
abbrev pub conditions : Form → List (List Form)
conditions f = filter (is_condition (predicate_variables f)) (map parts_in (flat_map conjuncts (antecedents (parts_in f))))

-- ---- whether a condition is met, once it is a list of words

-- a chain of the kind that the head names leads from the one word to the other
abbrev pub IsMetBy : List Link → Option (List Bytes) → Type 0
IsMetBy links (Some (head ∷ low ∷ high ∷ [])) = (kind : ChainKind) × (kind_of head ≡ Some kind) × Chain links kind low high
IsMetBy links _ = ⊥

abbrev pub IsMet : List Link → List Form → Type 0
IsMet links parts = IsMetBy links (word_texts parts)
