-- Clauses and steps without row variables, and ground clauses.
use Rattle.std.specs.Prelude.{◌≡◌, List, [], ◌∷◌, Bool, true, false, ◌&&◌}
use Rattle.kif_tree.specs.declared.subst.Pair.{Pair}
use Rattle.kif_tree.specs.Terms.{Bytes, clean, is_ground, has_no_row}
use Rattle.kif_tree.specs.Subst.{Filling}
use Rattle.kif_tree.specs.Clauses.{Literals}
use Rattle.calculus.specs.declared.step.Step.{Step}

-- no row variable occurs, and no variable where none may
abbrev pub clean_clause : Bool → Literals → Bool
clean_clause variables [] = true
clean_clause variables (literal ∷ clause) = clean variables literal.atom && clean_clause variables clause

-- no variable and no row variable occurs
abbrev pub ground_clause : Literals → Bool
ground_clause = clean_clause false

-- no row variable occurs
abbrev pub rowless_clause : Literals → Bool
rowless_clause = clean_clause true

-- no row variable occurs in the forms of the pairs
abbrev pub clean_pairs : List Pair → Bool
clean_pairs [] = true
clean_pairs (pair ∷ pairs) = has_no_row pair.term && clean_pairs pairs

-- no row variable occurs in the forms of the step's substitutions
abbrev pub clean_in : Step → Bool
clean_in (Step.Input i) = true
clean_in (Step.Resolve left i f right j g) = clean_pairs f.pairs && clean_pairs g.pairs
clean_in (Step.Factor parent i j f) = clean_pairs f.pairs
clean_in (Step.Paramodulate source i flipped f target j path g) = clean_pairs f.pairs && clean_pairs g.pairs

-- each variable becomes a ground form
abbrev pub Closes : Filling → Type 0
Closes g = (name : Bytes) → is_ground (g name) ≡ true

-- a filling as a list of pairs, over those variables
abbrev pub pairs_of : Filling → List Bytes → List Pair
pairs_of g [] = []
pairs_of g (name ∷ names) = record { variable = name; term = g name } ∷ pairs_of g names
