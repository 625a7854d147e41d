-- The table of fingerprints, one clause longer.
use Rattle.std.proofs.Common.{◌≡◌, List, [], ◌∷◌, ◌++◌, ap₂}
use Rattle.std.proofs.lemmas.List.{map-append}
use Rattle.kif_tree.specs.Clauses.{Literals}
use Rattle.saturate.specs.declared.fingerprint.Fingerprints.{Fingerprints}
use Rattle.saturate.specs.declared.table.FingerprintTable.{FingerprintTable}
use Rattle.saturate.specs.declared.marks.Marks.{Marks}
use Rattle.saturate.specs.Fingerprints.{fingerprints}
use Rattle.saturate.specs.Marks.{marks, tabled, tabled_with}

abbrev pub table_of : List Fingerprints → List Marks → FingerprintTable
table_of prints numbers = record { all = prints; marks = numbers }

pub tabled_more : (all : List Literals) (clause : Literals) → tabled (all ++ clause ∷ []) ≡ tabled_with (tabled all) clause
tabled_more all clause = ap₂ table_of (map-append fingerprints all (clause ∷ [])) (map-append marks all (clause ∷ []))
