-- Told forms: the lists at the top of a text from which tables are read.
use Rattle.std.specs.Prelude.{ℕ, List, [], ◌∷◌, length, Bool, ◌&&◌, ◌||◌, nat_eq, nat_lt, if◌then◌else◌, codes, Option, Some, None}
use Rattle.std.specs.List.{filter_map}
use Rattle.std.specs.Str.{bytes_eq, all_ascii_digits}
use Rattle.std.specs.Str.Parse.{digits_value}
use Rattle.kif_tree.specs.Terms.{Bytes}
use Rattle.kif_tree.specs.declared.form.Form.{Form, out-Form}
use Rattle.kif_tree.specs.declared.form.Form.TheOpen.{Form-F}
use Rattle.kif_tree.specs.declared.place.Located.{Located}
use Rattle.kif_tree.specs.declared.place.Place.{Place}
use Rattle.taxonomy.specs.declared.told.ChainKind.{ChainKind}
use Rattle.taxonomy.specs.declared.told.ChainKind.TheVariants as kinds

abbrev pub word_layer : Form-F Form → Option Bytes
word_layer (Form-F.Word text) = Some text
word_layer (Form-F.Variable text) = None
word_layer (Form-F.Row text) = None
word_layer (Form-F.Numeral text) = None
word_layer (Form-F.Quoted text) = None
word_layer (Form-F.List parts) = None

-- the text of a word
unfoldable pub word_text : Form → Option Bytes
word_text form = word_layer (out-Form form)

abbrev pub text_before : Option Bytes → Option (List Bytes) → Option (List Bytes)
text_before (Some text) (Some texts) = Some (text ∷ texts)
text_before (Some text) None = None
text_before None (Some texts) = None
text_before None None = None

-- the texts of parts that are all words
abbrev pub word_texts : List Form → Option (List Bytes)
word_texts [] = Some []
word_texts (part ∷ parts) = text_before (word_text part) (word_texts parts)

abbrev pub parts_layer : Form-F Form → List Form
parts_layer (Form-F.Word text) = []
parts_layer (Form-F.Variable text) = []
parts_layer (Form-F.Row text) = []
parts_layer (Form-F.Numeral text) = []
parts_layer (Form-F.Quoted text) = []
parts_layer (Form-F.List parts) = parts

-- the parts of a list; any other form has none
unfoldable pub parts_of : Form → List Form
parts_of form = parts_layer (out-Form form)

-- the words of a form that is a list of words
abbrev pub told_words : Form → Option (List Bytes)
told_words form = word_texts (parts_of form)

-- ---- two words: `(head first second)`

pub record ToldPair : Type 0 where
  pub head : Bytes
  pub first : Bytes
  pub second : Bytes
  pub place : Place

abbrev pub pair_of_words : Place → Option (List Bytes) → Option ToldPair
pair_of_words place (Some (head ∷ first ∷ second ∷ [])) = Some (record { head = head; first = first; second = second; place = place })
pair_of_words place _ = None

abbrev pub told_pair : Located → Option ToldPair
told_pair located = pair_of_words located.place (told_words located.form)

-- the told forms of a head and two words, in order
abbrev pub pairs : List Located → List ToldPair
pairs forms = filter_map told_pair forms

-- ---- links: `(instance low high)`, `(subclass low high)`, `(subrelation low high)`

pub record Link : Type 0 where
  pub kind : ChainKind
  pub low : Bytes
  pub high : Bytes
  pub place : Place

-- the kind of chain that begins with a form of this head
abbrev pub kind_of : Bytes → Option ChainKind
kind_of head =
    if bytes_eq head (codes "instance") then Some kinds.Instance
    else if bytes_eq head (codes "subclass") then Some kinds.Class
    else if bytes_eq head (codes "subrelation") then Some kinds.Relation
    else None

abbrev pub link_of_kind : Bytes → Bytes → Place → Option ChainKind → Option Link
link_of_kind low high place (Some kind) = Some (record { kind = kind; low = low; high = high; place = place })
link_of_kind low high place None = None

abbrev pub link_of_words : Place → Option (List Bytes) → Option Link
link_of_words place (Some (head ∷ low ∷ high ∷ [])) = link_of_kind low high place (kind_of head)
link_of_words place _ = None

abbrev pub told_link : Located → Option Link
told_link located = link_of_words located.place (told_words located.form)

-- the links that the forms tell, in order
abbrev pub links : List Located → List Link
links forms = filter_map told_link forms

-- ---- words that are disjoint: `(disjoint one other)`, `(partition whole one other ..)`, `(disjointDecomposition whole one other ..)`

pub record DisjointWords : Type 0 where
  pub words : List Bytes
  pub place : Place

abbrev pub parts_a_whole : Bytes → Bool
parts_a_whole head = bytes_eq head (codes "partition") || bytes_eq head (codes "disjointDecomposition")

abbrev pub disjoint_of_words : Place → Option (List Bytes) → Option DisjointWords
disjoint_of_words place (Some (head ∷ one ∷ other ∷ [])) =
    if bytes_eq head (codes "disjoint") then Some (record { words = one ∷ other ∷ []; place = place }) else None
disjoint_of_words place (Some (head ∷ whole ∷ one ∷ other ∷ more)) =
    if parts_a_whole head then Some (record { words = one ∷ other ∷ more; place = place }) else None
disjoint_of_words place _ = None

abbrev pub told_disjoint : Located → Option DisjointWords
told_disjoint located = disjoint_of_words located.place (told_words located.form)

-- the words that each told form calls disjoint, in order of the forms
abbrev pub disjoint_words : List Located → List DisjointWords
disjoint_words forms = filter_map told_disjoint forms

-- what a taxonomy keeps of forms
pub record ToldTaxonomy : Type 0 where
  pub links : List Link
  pub disjoint : List DisjointWords

abbrev pub told_taxonomy : List Located → ToldTaxonomy
told_taxonomy forms = record { links = links forms; disjoint = disjoint_words forms }

-- ---- numbers: `(domain word number class)`, `(domainSubclass word number class)`, `(valence word number)`

-- one to nine digits
abbrev pub is_short_number : Bytes → Bool
is_short_number text = all_ascii_digits text && (nat_lt 0 (length text) && nat_lt (length text) 10)

abbrev pub number_layer : Form-F Form → Option ℕ
number_layer (Form-F.Word text) = None
number_layer (Form-F.Variable text) = None
number_layer (Form-F.Row text) = None
number_layer (Form-F.Numeral text) = if is_short_number text then Some (digits_value 10 text) else None
number_layer (Form-F.Quoted text) = None
number_layer (Form-F.List parts) = None

-- the value of a numeral of one to nine digits
unfoldable pub short_number : Form → Option ℕ
short_number form = number_layer (out-Form form)

pub record ToldArgument : Type 0 where
  pub head : Bytes
  pub word : Bytes
  pub number : ℕ
  pub class : Bytes
  pub place : Place

abbrev pub argument_of : Place → Option (List Bytes) → Option ℕ → Option ToldArgument
argument_of place (Some (head ∷ word ∷ class ∷ [])) (Some number) =
    if nat_eq number 0 then None else Some (record { head = head; word = word; number = number; class = class; place = place })
argument_of place _ _ = None

abbrev pub argument_of_parts : Place → List Form → Option ToldArgument
argument_of_parts place (head ∷ word ∷ number ∷ class ∷ []) = argument_of place (word_texts (head ∷ word ∷ class ∷ [])) (short_number number)
argument_of_parts place _ = None

abbrev pub told_argument : Located → Option ToldArgument
told_argument located = argument_of_parts located.place (parts_of located.form)

-- the told forms of a head, a word, a number from 1 and a word, in order
abbrev pub arguments : List Located → List ToldArgument
arguments forms = filter_map told_argument forms

pub record ToldNumber : Type 0 where
  pub head : Bytes
  pub word : Bytes
  pub number : ℕ
  pub place : Place

abbrev pub number_of : Place → Option (List Bytes) → Option ℕ → Option ToldNumber
number_of place (Some (head ∷ word ∷ [])) (Some number) = Some (record { head = head; word = word; number = number; place = place })
number_of place _ _ = None

abbrev pub number_of_parts : Place → List Form → Option ToldNumber
number_of_parts place (head ∷ word ∷ number ∷ []) = number_of place (word_texts (head ∷ word ∷ [])) (short_number number)
number_of_parts place _ = None

abbrev pub told_number : Located → Option ToldNumber
told_number located = number_of_parts located.place (parts_of located.form)

-- the told forms of a head, a word and a number, 0 among them, in order
abbrev pub numbers : List Located → List ToldNumber
numbers forms = filter_map told_number forms
