-- Words whose own arity tells or classes may give.
use Rattle.std.specs.Prelude.{◌≡◌, List, map, Bool, true, false, not, ◌||◌, Option, Some, None, if◌then◌else◌, codes}
use Rattle.std.specs.Str.{bytes_eq}
use Rattle.sigma_base.specs.Lists.{Each}
use Rattle.kif_tree.specs.Shape.{is_among}
use Rattle.kif_tree.specs.Terms.{Bytes}
use Rattle.kif_tree.specs.declared.place.Located.{Located}
use Rattle.taxonomy.specs.declared.told.ChainKind.{ChainKind}
use Rattle.taxonomy.specs.declared.told.ChainKind.TheVariants as kinds
use Rattle.taxonomy.specs.Told.{Link, told_link, ToldNumber, told_number}
use Rattle.signatures.specs.declared.below.Below.{Below}
use Rattle.signatures.specs.Arities.{ClassArity, function_classes, relation_classes, variable_classes}
use Rattle.signatures.specs.Marks.{Marks, has}

abbrev pub class_names : List ClassArity → List Bytes
class_names classes = map (λ (entry : ClassArity). entry.class) classes

-- the class gives its instances an arity
abbrev pub is_arity_class : Bytes → Bool
is_arity_class word = (is_among (class_names function_classes) word || is_among (class_names relation_classes) word) || is_among (class_names variable_classes) word

abbrev pub is_at : {S : Type 0} → Marks S → Bytes → Bool
is_at words word = is_arity_class word || has words word

-- what is marked of a class is marked of its subclass
abbrev pub IsClosedAt : {S : Type 0} → Marks S → Located → Type 0
IsClosedAt words located = (link : Link) → told_link located ≡ Some link → link.kind ≡ kinds.Class → is_at words link.high ≡ true → is_at words link.low ≡ true

-- instances of the word may have an arity by a class
abbrev pub may_lead : Below → Bytes → Bool
may_lead below word = not below.is_whole || is_at below.words word

-- where instances of a class may have an arity, so may those of its subclass
abbrev pub IsOpenAt : Below → Located → Type 0
IsOpenAt below located = (link : Link) → told_link located ≡ Some link → link.kind ≡ kinds.Class → may_lead below link.high ≡ true → may_lead below link.low ≡ true

abbrev pub IsOpen : List Located → Below → Type 0
IsOpen forms below = Each (IsOpenAt below) forms

-- ---- words that may have an own arity

abbrev pub word_by_kind : Below → ChainKind → Bytes → Bytes → Option Bytes
word_by_kind below kinds.Class low high = None
word_by_kind below kinds.Instance low high = if may_lead below high then Some low else None
word_by_kind below kinds.Relation low high = Some high

-- an instance of a class that may give it an arity, or the relation above another one
abbrev pub word_by_link : Below → Option Link → Option Bytes
word_by_link below (Some link) = word_by_kind below link.kind link.low link.high
word_by_link below None = None

abbrev pub word_by_valence : Option ToldNumber → Option Bytes
word_by_valence (Some told) = if bytes_eq told.head (codes "valence") then Some told.word else None
word_by_valence None = None

-- the word that the form's link may give an arity or that inherits it further, or the one of which the form tells a valence
abbrev pub arity_word : Below → Bool → Located → Option Bytes
arity_word below true located = word_by_link below (told_link located)
arity_word below false located = word_by_valence (told_number located)
