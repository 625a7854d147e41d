-- The page of clauses.
use Rattle.std.specs.Prelude.{List, [], ◌++◌, length, Option, Some, None, codes, decimal}
use Rattle.std.specs.List.{flat_map}
use Rattle.kif_tree.specs.declared.clause.InputClause.{InputClause}
use Rattle.kif_tree.specs.declared.place.LoadName.{LoadName}
use Rattle.kif_tree.specs.declared.place.Place.{Place}
use Rattle.kif_tree.specs.Printed.{clause_text, place_text}
use Rattle.kif_tree.specs.Terms.{Bytes}

-- the place, where there is one
abbrev pub place_if : List LoadName → Option Place → Bytes
place_if names None = []
place_if names (Some place) = place_text names place

-- `CLAUSE [PLACE vVARIANT]`
unfoldable pub input_text : List LoadName → InputClause → Bytes
input_text names input = clause_text input.clause ++ (codes " [" ++ (place_if names input.place ++ (codes " v" ++ (decimal input.variant ++ codes "]\n"))))

-- a line for each clause, and last how many there are
unfoldable pub clauses_page : List LoadName → List InputClause → Bytes
clauses_page names inputs = flat_map (input_text names) inputs ++ (decimal (length inputs) ++ codes " clauses\n")
