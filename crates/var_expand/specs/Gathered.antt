-- The lists and conditions of a form, as they are gathered.
use Rattle.std.specs.Prelude.{List, [], ◌∷◌, Bool, not, ◌&&◌, ◌||◌, if◌then◌else◌, codes, Option, Some, None}
use Rattle.std.specs.List.{flat_map}
use Rattle.std.specs.Str.{bytes_eq}
use Rattle.kif_tree.specs.declared.form.Form.{Form}
use Rattle.kif_tree.specs.declared.form.Form.TheVariants as form
use Rattle.kif_tree.specs.Names.{parts_in}
use Rattle.kif_tree.specs.Terms.{Bytes}
use Rattle.kif_tree.specs.Profile.{is_logical, operands}
use Rattle.taxonomy.specs.Told.{word_text}
use Rattle.taxonomy.specs.declared.told.ChainKind.{ChainKind}
use Rattle.taxonomy.specs.declared.told.ChainKind.TheVariants as kinds
use Rattle.var_expand.specs.Conditions.{is_word, is_one_of, is_side, antecedents, conjuncts}
use Rattle.var_expand.specs.Fitting.{varies, has_variable_head}

abbrev pub if_varies : List Form → List (List Form)
if_varies parts = if varies parts then parts ∷ [] else []

-- the list that the form is, where a variable heads it
abbrev pub if_applied : Form → List (List Form)
if_applied f = if has_variable_head (parts_in f) then parts_in f ∷ [] else []

-- the answer of a test is the one that is wanted
abbrev pub is_as : Bool → Bool → Bool
is_as wanted answer = if wanted then answer else not answer

-- the lists headed by variables among the operands of a list whose head is a logical word, or of one whose head isn't
abbrev pub applied_below : Bool → List Form → List (List Form)
applied_below logical parts = if is_as logical (is_logical parts) then flat_map if_applied (operands parts) else []

-- a chain of the kind is to lead from the one to the other, once both are words
pub record Demand : Type 0 where
  pub kind : ChainKind
  pub low : Form
  pub high : Form

-- the word at the head of such a condition
abbrev pub kind_word : ChainKind → Bytes
kind_word kinds.Class = codes "subclass"
kind_word kinds.Instance = codes "instance"
kind_word kinds.Relation = codes "subrelation"

abbrev pub demand_parts : Demand → List Form
demand_parts demand = form.Word (kind_word demand.kind) ∷ demand.low ∷ demand.high ∷ []

-- ---- the conditions among the parts of an `and`

abbrev pub relates : List Form → Form → Form → Bool
relates predicates low high = (is_side predicates low && is_side predicates high) && (is_one_of predicates low || is_one_of predicates high)

abbrev pub kind_by : List Form → Bytes → Form → Form → Option ChainKind
kind_by predicates word low high =
    if bytes_eq (codes "instance") word && (is_one_of predicates low && is_word high) then Some kinds.Instance
    else if bytes_eq (codes "subrelation") word && relates predicates low high then Some kinds.Relation
    else None

abbrev pub demand_by : Form → Form → Option ChainKind → List Demand
demand_by low high (Some kind) = record { kind = kind; low = low; high = high } ∷ []
demand_by low high None = []

abbrev pub kind_of_head : List Form → Option Bytes → Form → Form → Option ChainKind
kind_of_head predicates (Some word) low high = kind_by predicates word low high
kind_of_head predicates None low high = None

-- what the list of these parts demands, if it is a condition
abbrev pub demands : List Form → List Form → List Demand
demands predicates (head ∷ low ∷ high ∷ []) = demand_by low high (kind_of_head predicates (word_text head) low high)
demands predicates _ = []

-- what the form demands
abbrev pub all_demands : List Form → Form → List Demand
all_demands predicates f = flat_map (λ antecedent. flat_map (λ part. demands predicates (parts_in part)) (conjuncts antecedent)) (antecedents (parts_in f))
