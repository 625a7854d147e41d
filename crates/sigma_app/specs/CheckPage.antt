-- The page of a check.
use Rattle.std.specs.Prelude.{ℕ, ◌==◌, if◌then◌else◌, List, [], ◌∷◌, ◌++◌, length, Option, Some, None, codes, decimal}
use Rattle.std.specs.List.{flat_map}
use Rattle.kif_tree.specs.declared.place.Place.{Place}
use Rattle.kif_tree.specs.declared.place.LoadName.{LoadName}
use Rattle.kif_tree.specs.Terms.{Bytes}
use Rattle.kif_tree.specs.Printed.{place_text}
use Rattle.diagnose.specs.declared.diagnostic.Diagnostic.{Diagnostic}

-- what a code says
abbrev pub code_text : ℕ → Bytes
code_text code =
    if code == 1 then codes "no parent"
    else if code == 2 then codes "no documentation"
    else if code == 3 then codes "disjoint parents"
    else if code == 4 then codes "wrong argument type"
    else if code == 5 then codes "wrong argument count"
    else if code == 6 then codes "unquantified variable"
    else if code == 7 then codes "quantified variable unused"
    else if code == 8 then codes "outside the profile, not translated"
    else if code == 9 then codes "row variable never fits"
    else if code == 10 then codes "too many variants"
    else if code == 11 then codes "arity unstated"
    else if code == 12 then codes "no relation fits"
    else if code == 13 then codes "too many clauses"
    else []

-- the other place in brackets after a blank, where there is one
abbrev pub other_text : List LoadName → Option Place → Bytes
other_text names None = []
other_text names (Some place) = codes " [" ++ (place_text names place ++ codes "]")

-- `CODE PLACE`
unfoldable pub where_text : List LoadName → Diagnostic → Bytes
where_text names d = decimal d.code ++ (32 ∷ place_text names d.place)

-- `TERM TEXT` and the other place
unfoldable pub what_text : List LoadName → Diagnostic → Bytes
what_text names d = d.term ++ (32 ∷ (code_text d.code ++ other_text names d.other))

-- the line of a diagnostic
unfoldable pub diagnostic_text : List LoadName → Diagnostic → Bytes
diagnostic_text names d = where_text names d ++ (32 ∷ (what_text names d ++ 10 ∷ []))

-- a line for each diagnostic, and last how many there are
unfoldable pub check_page : List LoadName → List Diagnostic → Bytes
check_page names list = flat_map (diagnostic_text names) list ++ (decimal (length list) ++ codes " diagnostics\n")
