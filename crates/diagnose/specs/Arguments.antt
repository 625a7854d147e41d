-- Lists whose arguments are too few, too many or of a wrong type.
use Rattle.std.specs.Prelude.{◌≡◌, ◌≢◌, ℕ, ◌+◌, ◌⊎◌, List, [], ◌∷◌, ◌++◌, length, Bool, true, false, codes, Option, Some, None, Contains, MatchBool}
use Rattle.std.specs.List.{list_any}
use Rattle.kif_tree.specs.Terms.{Bytes}
use Rattle.kif_tree.specs.Names.{lists, is_function_word}
use Rattle.kif_tree.specs.Shape.{is_among, logical_words}
use Rattle.kif_tree.specs.declared.form.Form.{Form, out-Form}
use Rattle.kif_tree.specs.declared.form.Form.TheOpen.{Form-F}
use Rattle.kif_tree.specs.declared.form.Form.TheVariants as form
use Rattle.kif_tree.specs.declared.place.Located.{Located}
use Rattle.kif_tree.specs.declared.place.Place.{Place}
use Rattle.taxonomy.specs.declared.told.ChainKind.TheVariants as kinds
use Rattle.taxonomy.specs.Chains.{Chain, parents}
use Rattle.taxonomy.specs.Told.{Link, links}
use Rattle.signatures.specs.Arities.{IsArity}
use Rattle.signatures.specs.Types.{AreTypes, ranges}
use Rattle.signatures.specs.declared.told.Arity.TheVariants.{Exactly}
use Rattle.signatures.specs.declared.told.TypeTold.{TypeTold}

-- the form has a list with this head, a word that isn't logical, and these arguments
pub record HasList (f : Form) (head : Bytes) (arguments : List Form) : Type 0 where
  pub among : Contains (lists f) (form.Word head ∷ arguments)
  pub not_logical : is_among logical_words head ≡ false

-- ---- how many arguments

abbrev pub is_row_layer : Form-F Form → Bool
is_row_layer (Form-F.Word text) = false
is_row_layer (Form-F.Variable text) = false
is_row_layer (Form-F.Row text) = true
is_row_layer (Form-F.Numeral text) = false
is_row_layer (Form-F.Quoted text) = false
is_row_layer (Form-F.List parts) = false

abbrev pub is_row : Form → Bool
is_row f = is_row_layer (out-Form f)

-- a list without row variables has another count of arguments than its head takes
pub record HasWrongCount (forms : List Located) (f : Form) (head : Bytes) (other : Option Place) : Type 0 where
  pub arguments : List Form
  pub list : HasList f head arguments
  pub no_row : list_any is_row arguments ≡ false
  pub count : ℕ
  pub arity : IsArity forms head (Exactly count)
  pub apart : length arguments ≢ count
  pub alone : other ≡ None

-- ---- types of arguments

-- the class itself, or one to which a class chain leads
abbrev pub IsSubclassOf : List Link → Bytes → Bytes → Type 0
IsSubclassOf links word class = (word ≡ class) ⊎ Chain links kinds.Class word class

-- a told `subclass` form has the word
pub record IsClassWord (links : List Link) (word : Bytes) : Type 0 where
  pub link : Link
  pub told : Contains links link
  pub kind : link.kind ≡ kinds.Class
  pub has : (link.low ≡ word) ⊎ (link.high ≡ word)

-- an instance chain leads to the class; a word of a told `subclass` form is also an instance of `Class` and of what is above that
abbrev pub IsInstanceOf : List Link → Bytes → Bytes → Type 0
IsInstanceOf links word class = Chain links kinds.Instance word class ⊎ (IsClassWord links word × IsSubclassOf links (codes "Class") class)

-- the word has a told type: it is a subclass or an instance of its class
abbrev pub Fits : List Link → TypeTold → Bytes → Type 0
Fits links type word = MatchBool type.subclass (IsSubclassOf links word type.class) (IsInstanceOf links word type.class)

-- a word with a told parent that hasn't the type
pub record IsWrongWord (forms : List Located) (type : TypeTold) (argument : Form) (word : Bytes) : Type 0 where
  pub is : argument ≡ form.Word word
  pub has_parent : parents (links forms) word ≢ []
  pub unfit : Fits (links forms) type word → ⊥

-- a function's value, of which a range is told first, where an instance of a class is wanted to which that range doesn't lead
pub record IsWrongValue (forms : List Located) (type : TypeTold) (argument : Form) (function : Bytes) : Type 0 where
  pub arguments : List Form
  pub is : argument ≡ form.List (form.Word function ∷ arguments)
  pub is_function : is_function_word function ≡ true
  pub range : TypeTold
  pub more : List TypeTold
  pub has_range : ranges forms function ≡ range ∷ more
  pub of_instances : range.subclass ≡ false
  pub wants_instances : type.subclass ≡ false
  pub unfit : IsSubclassOf (links forms) range.class type.class → ⊥

-- an argument of a list hasn't one of the types of its place
pub record HasWrongType (forms : List Located) (f : Form) (term : Bytes) (other : Option Place) : Type 0 where
  pub head : Bytes
  pub before : List Form
  pub argument : Form
  pub after : List Form
  pub list : HasList f head (before ++ argument ∷ after)
  pub types : List TypeTold
  pub are_types : AreTypes forms head (length before + 1) types
  pub type : TypeTold
  pub among : Contains types type
  pub not_entity : type.class ≢ codes "Entity"
  pub wrong : IsWrongWord forms type argument term ⊎ IsWrongValue forms type argument term
  pub names : other ≡ Some type.place
