-- All tables together.
use Rattle.std.proofs.Common.{◌≡◌, List}
use Rattle.kif_tree.specs.Terms.{Bytes}
use Rattle.kif_tree.specs.declared.place.Located.{Located}
use Rattle.taxonomy.specs.Told.{links}
use Rattle.signatures.specs.declared.signatures.Signatures.{Signatures}
use Rattle.signatures.specs.Arities.{IsArity}
use Rattle.signatures.specs.ArgumentTables.{AreTables}
use Rattle.signatures.specs.Inherited.{Inherits}
use Rattle.signatures.specs.Marks.{Marks, OrderedMarks, AreMarked, key_words}
use Rattle.signatures.specs.Names.{AreNames}
use Rattle.signatures.specs.OwnArities.{AreOwnArities}
use Rattle.signatures.specs.Relations.{AreAscending, heads_a_list, is_snapshot_word}
use Rattle.signatures.specs.Tables.{AreSignatures, arity_by}
use Rattle.signatures.specs.TypeTables.{AreToldTypes, range_at}
use Rattle.signatures.proofs.ArgumentLaws.{types_by}
use Rattle.signatures.proofs.ArityLaws.{is_arity}
use Rattle.signatures.proofs.NameLaws.{relation_names}
use Rattle.signatures.proofs.TypeLaws.{ranges_by}

pub are_signatures : {S : Type 0} (forms : List Located) (tables : Signatures) (names : OrderedMarks) (heads : Marks S) → AreOwnArities forms tables.arities.own → Inherits (links forms) tables.arities
    → AreTables forms forms tables.types → AreToldTypes range_at forms tables.ranges → AreMarked (heads_a_list forms) heads → AreNames heads tables.arities (is_snapshot_word forms) names → AreAscending (key_words names)
    → tables.relations.items ≡ key_words names → AreSignatures forms tables
are_signatures forms tables names heads is_own inherits types told in_heads in_names rising is = record {
  arities = arity;
  types = types_by forms tables.types types;
  are_ranges = ranges_by forms tables.ranges told;
  relations = relation_names forms names heads tables.arities tables.relations.items in_heads in_names arity rising is;
}
  where
    arity : (word : Bytes) → IsArity forms word (arity_by tables.arities word)
    arity = is_arity forms tables.arities is_own inherits
