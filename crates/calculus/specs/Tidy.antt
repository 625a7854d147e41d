-- Tidy clauses: each literal once, and the variables named X1, X2 and so on in order of first occurrence.
use Rattle.std.specs.Prelude.{◌≡◌, ℕ, ◌+◌, List, [], ◌∷◌, map, filter, not, if◌then◌else◌}
use Rattle.std.specs.List.{list_any}
use Rattle.std.specs.Str.{bytes_eq}
use Rattle.std.specs.Int.Digits.{digits_of}
use Rattle.kif_tree.specs.declared.form.Form.TheVariants as form
use Rattle.kif_tree.specs.declared.subst.Pair.{Pair}
use Rattle.kif_tree.specs.Terms.{Bytes, distinct}
use Rattle.kif_tree.specs.Subst.{Filling, lookup, via, any_word}
use Rattle.kif_tree.specs.Clauses.{Literals, same_literal, bind_clause, clause_variables}

-- X and the decimal digits of the number
abbrev pub new_name : ℕ → Bytes
new_name n = 88 ∷ map (λ digit. 48 + digit) (digits_of 10 n)

-- the names become those of the numbers from n
abbrev pub numbered : ℕ → List Bytes → List Pair
numbered n [] = []
numbered n (name ∷ names) = record { variable = name; term = form.Variable (new_name n) } ∷ numbered (n + 1) names

-- without each literal that equals an earlier one
abbrev pub without_repeats : Literals → Literals
without_repeats [] = []
without_repeats (literal ∷ clause) = literal ∷ filter (λ other. not (same_literal literal other)) (without_repeats clause)

-- the new name of each variable of the clause
abbrev pub renaming : Literals → Filling
renaming clause = lookup (numbered 1 (distinct (clause_variables clause)))

abbrev pub renamed : Literals → Literals
renamed clause = bind_clause (renaming clause) clause

unfoldable pub tidy : Literals → Literals
tidy clause = renamed (without_repeats clause)

abbrev pub IsTidy : Literals → Type 0
IsTidy clause = tidy clause ≡ clause

-- what the variables of a clause become, given what those of the renamed clause become; any other variable becomes a word
abbrev pub back_over : Literals → Filling → Filling
back_over clause g name = if list_any (bytes_eq name) (clause_variables clause) then via (renaming clause) g name else any_word

-- what the variables of a clause become, given what those of the tidy clause become
unfoldable pub turned_back : Literals → Filling → Filling
turned_back clause g = back_over (without_repeats clause) g
