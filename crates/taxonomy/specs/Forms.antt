-- Told forms as the code finds them.
use Rattle.std.specs.Prelude.{◌≡◌, List, Some}
use Rattle.kif_tree.specs.Terms.{Bytes}
use Rattle.kif_tree.specs.declared.form.Form.{Form}
use Rattle.kif_tree.specs.declared.place.Located.{Located}
use Rattle.taxonomy.specs.declared.forms.FoundLink.{FoundLink}
use Rattle.taxonomy.specs.Told.{Link, word_texts, told_disjoint}

-- a found link without its reference to the form
abbrev pub found_link : FoundLink → Link
found_link link = record { kind = link.kind; low = link.low.now; high = link.high.now; place = link.place }

-- the form calls the words that these parts are disjoint
pub record IsDisjointForm (located : Located) (parts : List Form) : Type 0 where
  pub texts : List Bytes
  pub words : word_texts parts ≡ Some texts
  pub told : told_disjoint located ≡ Some (record { words = texts; place = located.place })
