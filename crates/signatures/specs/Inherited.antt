-- Values of words, and what words without one take from the nearest word that has one.
use Rattle.std.specs.Prelude.{List, Option, Some, None}
use Rattle.std.specs.HashMap.{HashMap}
use Rattle.kif_tree.specs.Terms.{Bytes}
use Rattle.taxonomy.specs.Told.{Link}
use Rattle.signatures.specs.declared.inherited.Inherited.{Inherited}
use Rattle.signatures.specs.Layers.{near_of, AreNearest}
use Rattle.signatures.specs.WordTables.{Key, find}

abbrev pub find_near : {V S : Type 0} → HashMap Key V S → Option Bytes → Option V
find_near own (Some near) = find own near
find_near own None = None

abbrev pub first_found : {V : Type 0} → Option V → Option V → Option V
first_found (Some value) other = Some value
first_found None other = other

-- the word's own value, or else that of the word that is noted as its nearest
abbrev pub value_in : {V : Type 0} → Inherited V → Bytes → Option V
value_in table word = first_found (find table.own word) (find_near table.own (near_of (find table.nearest word)))

-- each word without a value of its own has the nearest word that has one, and where there is none, no word
abbrev pub Inherits : {V : Type 0} → List Link → Inherited V → Type 0
Inherits links table = AreNearest links table.own table.nearest
