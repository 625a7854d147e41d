-- Told forms as the code finds them.
use Rattle.std.specs.Prelude.{ℕ, List, [], Option, Some, None, nat_eq, if◌then◌else◌}
use Rattle.std.specs.Borrow.{Bor}
use Rattle.std.specs.Option.{option_map}
use Rattle.kif_tree.specs.Terms.{Bytes}
use Rattle.kif_tree.specs.declared.place.Located.{Located}
use Rattle.taxonomy.specs.declared.told.ChainKind.{ChainKind}
use Rattle.taxonomy.specs.declared.told.ChainKind.TheVariants as kinds
use Rattle.taxonomy.specs.Told.{text_before, Link, told_link, ToldPair, ToldNumber, ToldArgument}
use Rattle.signatures.specs.declared.forms.FoundLink.{FoundLink}
use Rattle.signatures.specs.declared.forms.FoundPair.{FoundPair}
use Rattle.signatures.specs.declared.forms.FoundNumber.{FoundNumber}
use Rattle.signatures.specs.declared.forms.FoundArgument.{FoundArgument}

-- a found link without its references to the form
abbrev pub found_link : FoundLink → Link
found_link link = record { kind = link.kind; low = link.low.now; high = link.high.now; place = link.place }

abbrev pub low_of_relation : ChainKind → Bytes → Option Bytes
low_of_relation kinds.Class low = None
low_of_relation kinds.Instance low = None
low_of_relation kinds.Relation low = Some low

abbrev pub relation_of : Option Link → Option Bytes
relation_of (Some link) = low_of_relation link.kind link.low
relation_of None = None

-- the word that a `subrelation` form calls the lower one
abbrev pub relation_word : Located → Option Bytes
relation_word located = relation_of (told_link located)

abbrev pub text_in : Option (Bor Bytes) → Option Bytes
text_in word = option_map (λ (text : Bor Bytes). text.now) word

abbrev pub two_texts : Option Bytes → Option Bytes → Option (List Bytes)
two_texts first second = text_before first (text_before second (Some []))

abbrev pub three_texts : Option Bytes → Option Bytes → Option Bytes → Option (List Bytes)
three_texts first second third = text_before first (two_texts second third)

-- a found form without its references to the form
abbrev pub found_pair : FoundPair → ToldPair
found_pair found = record { head = found.head.now; first = found.first.now; second = found.second.now; place = found.place }

abbrev pub found_number : FoundNumber → ToldNumber
found_number found = record { head = found.head.now; word = found.word.now; number = found.number; place = found.place }

abbrev pub found_argument : FoundArgument → ToldArgument
found_argument found = record { head = found.head.now; word = found.word.now; number = found.number; class = found.class.now; place = found.place }

-- a head and two words, and a number before the last of them
abbrev pub argument_by : Option ToldPair → Option ℕ → Option ToldArgument
argument_by (Some pair) (Some number) =
    if nat_eq number 0 then None else Some (record { head = pair.head; word = pair.first; number = number; class = pair.second; place = pair.place })
argument_by (Some pair) None = None
argument_by None (Some number) = None
argument_by None None = None
