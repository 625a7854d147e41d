-- What the search for choices that fit asks of a choice of some of the variables.
use Rattle.std.specs.Prelude.{◌≡◌, ℕ, ◌-◌, ◌⊎◌, List, [], ◌∷◌, ◌++◌, map, filter, length, take, Bool, true, false, not, ◌&&◌, ◌||◌, nat_eq, nat_lt, Option, Some, None}
use Rattle.std.specs.List.{list_all, list_any}
use Rattle.std.specs.Str.{bytes_eq}
use Rattle.kif_tree.specs.declared.form.Form.{Form, out-Form}
use Rattle.kif_tree.specs.declared.form.Form.TheOpen.{Form-F}
use Rattle.kif_tree.specs.Names.{is_function_word}
use Rattle.kif_tree.specs.Terms.{Bytes, same}
use Rattle.sigma_base.specs.Lists.{Each}
use Rattle.signatures.specs.Tables.{arity_in, relations_in}
use Rattle.signatures.specs.declared.told.Arity.{Arity}
use Rattle.signatures.specs.declared.told.Arity.TheVariants.{Exactly, Any, Unstated}
use Rattle.signatures.specs.declared.signatures.Signatures.{Signatures}
use Rattle.taxonomy.specs.ChainDecision.{leads_by, is_kind}
use Rattle.taxonomy.specs.Told.{Link}
use Rattle.taxonomy.specs.declared.told.ChainKind.{ChainKind}
use Rattle.taxonomy.specs.declared.told.Told.{Told}
use Rattle.var_expand.specs.Choices.{Setting, Choice, sets, options, choices, becomes_by, after, is_row, row_part, row_numbers}
use Rattle.var_expand.specs.Chosen.{is_set, first_word}
use Rattle.var_expand.specs.Gathered.{Demand, is_as}
use Rattle.var_expand.specs.Offered.{Offered}
use Rattle.var_expand.specs.declared.fitting.Problem.{Problem}

-- ---- tests of a choice. Where it is one of some variables, what isn't set yet passes

-- a row variable for which nothing is set stands among the forms
abbrev pub has_room : Choice → List Form → Bool
has_room choice fs = list_any (λ f. is_row f && not (is_set choice f)) fs

-- so many arguments may stand behind a head of the arity, or more where there is room
abbrev pub takes_by : Arity → ℕ → Bool → Bool
takes_by (Exactly arity) least room = nat_eq least arity || (nat_lt least arity && room)
takes_by Any least room = true
takes_by Unstated least room = true

abbrev pub word_takes : Signatures → Option Bytes → ℕ → Bool → Bool
word_takes signatures (Some word) least room = takes_by (arity_in signatures word) least room
word_takes signatures None least room = true

abbrev pub count_passes : Signatures → Bool → Choice → List Form → Bool
count_passes signatures partly choice [] = true
count_passes signatures partly choice (head ∷ arguments) =
    word_takes signatures (first_word (becomes_by choice head)) (length (after choice arguments)) (partly && has_room choice arguments)

abbrev pub word_names : Bool → Bool → Option Bytes → Bool
word_names partly function (Some word) = is_as function (is_function_word word)
word_names partly function None = partly || not function

abbrev pub name_passes : Bool → Bool → Choice → List Form → Bool
name_passes partly function choice [] = partly || not function
name_passes partly function choice (head ∷ arguments) = word_names partly function (first_word (becomes_by choice head))

abbrev pub is_of_kind : ChainKind → Told → Bool
is_of_kind kind told = is_kind kind told.kind

-- a told link of that kind begins with the word
abbrev pub begins_chain : List Link → ChainKind → Bytes → Bool
begins_chain links kind word = list_any (λ (link : Link). bytes_eq link.low word && is_kind kind link.kind) links

-- with the lower word alone, a chain may begin there
abbrev pub words_lead : List Link → Bool → Demand → Option Bytes → Option Bytes → Bool
words_lead links partly demand (Some low) (Some high) = leads_by links demand.kind low high
words_lead links partly demand (Some low) None = partly && begins_chain links demand.kind low
words_lead links partly demand None (Some high) = partly
words_lead links partly demand None None = partly

abbrev pub condition_passes : List Link → Bool → Choice → Demand → Bool
condition_passes links partly choice demand = words_lead links partly demand (first_word (becomes_by choice demand.low)) (first_word (becomes_by choice demand.high))

unfoldable pub passes : Problem → Bool → Choice → Bool
passes problem partly choice =
    list_all (name_passes partly true choice) problem.arguments
    && (list_all (name_passes partly false choice) problem.sentences
    && (list_all (condition_passes problem.taxonomy.now.links partly choice) problem.conditions
    && list_all (count_passes problem.signatures.now partly choice) problem.lists))

-- ---- what variables may become

abbrev pub row_parts_layer : Form-F Form → List Form
row_parts_layer (Form-F.Word text) = []
row_parts_layer (Form-F.Variable text) = []
row_parts_layer (Form-F.Row text) = map (row_part text) row_numbers
row_parts_layer (Form-F.Numeral text) = []
row_parts_layer (Form-F.Quoted text) = []
row_parts_layer (Form-F.List parts) = []

-- the variables of a row variable; any other form has none
abbrev pub row_parts : Form → List Form
row_parts f = row_parts_layer (out-Form f)

-- ---- choices of all variables, and of some

-- x is one of the list
abbrev pub Has : {X : Type 0} → List X → X → Type 0
Has [] x = ⊥
Has (y ∷ ys) x = (y ≡ x) ⊎ Has ys x

abbrev pub relations_of : Problem → List Bytes
relations_of problem = relations_in problem.signatures.now

abbrev pub variable_of : Setting → Form
variable_of setting = setting.variable

-- each variable becomes one of its options
abbrev pub IsDrawn : List Bytes → Choice → Type 0
IsDrawn relations choice = Each (λ (setting : Setting). Has (options relations setting.variable) setting.becomes) choice

-- the choice is one for all variables of the problem
pub record IsWhole (problem : Problem) (choice : Choice) : Type 0 where
  pub covers : map variable_of choice ≡ problem.variables
  pub drawn : IsDrawn (relations_of problem) choice

-- what the one sets, the other one sets to the same
pub record Agrees (part whole : Choice) : Type 0 where
  pub alike : (f : Form) → is_set part f ≡ true → becomes_by part f ≡ becomes_by whole f

-- no choice that fits agrees with it
pub record IsHopeless (problem : Problem) (part : Choice) : Type 0 where
  pub none : (whole : Choice) → IsWhole problem whole → Agrees part whole → passes problem false whole ≡ false

-- ---- offers

-- what the variable alone may become
abbrev pub keeps : Problem → Form → List Form → Bool
keeps problem variable becomes = passes problem true (sets variable becomes ∷ [])

abbrev pub offered : Problem → Form → Offered
offered problem variable = record { variable = variable; allowed = filter (keeps problem variable) (options (relations_of problem) variable) }

pub record IsOffer (problem : Problem) (offer : Offered) : Type 0 where
  pub is_variable : Has problem.variables offer.variable
  pub allows : offer.allowed ≡ filter (keeps problem offer.variable) (options (relations_of problem) offer.variable)

abbrev pub AreOffers : Problem → List Offered → Type 0
AreOffers problem offers = Each (IsOffer problem) offers

abbrev pub offered_variable : Offered → Form
offered_variable offer = offer.variable

-- ---- the search

-- the choices that begin so and fit, where these variables are left
abbrev pub fitting : Problem → Choice → List Form → List Choice
fitting problem choice variables = filter (passes problem false) (map (λ more. choice ++ more) (choices (relations_of problem) variables))

-- more is added as long as there aren't more than 20,000
abbrev pub filled : {X : Type 0} → List X → List X → List X
filled found more = found ++ take (20001 - length found) more

-- each form stands once
abbrev pub AreDistinct : List Form → Type 0
AreDistinct [] = Unit {0}
AreDistinct (f ∷ fs) = (list_any (same f) fs ≡ false) × AreDistinct fs

-- the variables of the choice and then those left are all of the problem, each once
pub record IsBegun (problem : Problem) (choice : Choice) (left : List Form) : Type 0 where
  pub covers : map variable_of choice ++ left ≡ problem.variables
  pub distinct : AreDistinct problem.variables
  pub drawn : IsDrawn (relations_of problem) choice
