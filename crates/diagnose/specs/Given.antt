-- What is made of forms, and told to those who look for faults in them.
use Rattle.std.specs.Prelude.{◌≡◌, List}
use Rattle.kif_tree.specs.declared.place.Located.{Located}
use Rattle.taxonomy.specs.Told.{links, told_taxonomy}
use Rattle.signatures.specs.Tables.{AreSignatures}
use Rattle.diagnose.specs.Arguments.{IsClassWord}
use Rattle.diagnose.specs.WordTables.{AreWords}
use Rattle.diagnose.specs.declared.arguments.Given.{Given}

-- the tables were made of these forms
pub record AreGiven (forms : List Located) (given : Given) : Type 0 where
  pub taxonomy : given.taxonomy.now ≡ told_taxonomy forms
  pub signatures : AreSignatures forms given.signatures.now
  pub class_words : AreWords (IsClassWord (links forms)) given.class_words.now
