-- Scopes of terms.
use Rattle.std.proofs.Common.{ℕ, ◌+◌, List, [], ◌∷◌, Bool, true, false, if◌then◌else◌}
use Rattle.std.specs.Str.{bytes_eq}
use Rattle.sigma_base.specs.Lists.{Each, each_append}
use Rattle.kif_tree.specs.declared.form.Form.{Form}
use Rattle.kif_tree.specs.declared.subst.Pair.{Pair}
use Rattle.kif_tree.specs.Terms.{Bytes}
use Rattle.kif_tree.specs.Subst.{lookup}
use Rattle.calculus.specs.Tidy.{numbered, new_name}
use Rattle.clause_form.specs.Readings.{terms_of, universal, existential, entered, skolem_symbol, skolem_term, skolemized, outermost}
use Rattle.clause_form.specs.SentenceLaws.{IsTerm, IsTermScope}
use Rattle.clause_form.specs.declared.scope.Counts.{Counts}
use Rattle.clause_form.specs.declared.scope.Scope.{Scope}
use Rattle.clause_form.proofs.AtomLaws.{variable_term, word_term, list_term}

abbrev pub PairIsTerm : Pair → Type 0
PairIsTerm pair = IsTerm pair.term

pub lookup_term : (pairs : List Pair) → Each PairIsTerm pairs → (name : Bytes) → IsTerm (lookup pairs name)
lookup_term [] each name = variable_term name
lookup_term (pair ∷ pairs) each name = go (bytes_eq pair.variable name) (lookup_term pairs each.1 name)
  where
    go : (b : Bool) → IsTerm (lookup pairs name) → IsTerm (if b then pair.term else lookup pairs name)
    go true rest = each.0
    go false rest = rest

pub numbered_terms : (n : ℕ) (names : List Bytes) → Each PairIsTerm (numbered n names)
numbered_terms n [] = tt
numbered_terms n (name ∷ names) = (variable_term (new_name n), numbered_terms (n + 1) names)

pub terms_of_pairs : (pairs : List Pair) → Each PairIsTerm pairs → Each IsTerm (terms_of pairs)
terms_of_pairs [] each = tt
terms_of_pairs (pair ∷ pairs) each = (each.0, terms_of_pairs pairs each.1)

skolem_is_term : (symbol : Bytes) (universals : List Form) → Each IsTerm universals → IsTerm (skolem_term symbol universals)
skolem_is_term symbol [] each = word_term symbol
skolem_is_term symbol (universal ∷ universals) each = list_term symbol (universal ∷ universals) each

skolemized_terms : (prefix : Bytes) (universals : List Form) → Each IsTerm universals → (number : ℕ) (names : List Bytes) → Each PairIsTerm (skolemized prefix universals number names)
skolemized_terms prefix universals each number [] = tt
skolemized_terms prefix universals each number (name ∷ names) =
    (skolem_is_term (skolem_symbol prefix number) universals each, skolemized_terms prefix universals each (number + 1) names)

pub universal_terms : (names : List Bytes) (scope : Scope) (counts : Counts) → IsTermScope scope → IsTermScope (universal names scope counts).scope
universal_terms names scope counts terms =
    let pairs = numbered (counts.variables + 1) names in
    let new = numbered_terms (counts.variables + 1) names in
    record {
      pairs = each_append PairIsTerm pairs scope.pairs new terms.pairs;
      universals = each_append IsTerm scope.universals (terms_of pairs) terms.universals (terms_of_pairs pairs new);
    }

existential_terms : (prefix : Bytes) (names : List Bytes) (scope : Scope) (counts : Counts) → IsTermScope scope → IsTermScope (existential prefix names scope counts).scope
existential_terms prefix names scope counts terms = record {
  pairs = each_append PairIsTerm (skolemized prefix scope.universals (counts.skolems + 1) names) scope.pairs (skolemized_terms prefix scope.universals terms.universals (counts.skolems + 1) names) terms.pairs;
  universals = terms.universals;
}

-- a quantifier's scope
pub entered_terms : (prefix : Bytes) (universally : Bool) (names : List Bytes) (scope : Scope) (counts : Counts) → IsTermScope scope → IsTermScope (entered prefix universally names scope counts).scope
entered_terms prefix true names scope counts terms = universal_terms names scope counts terms
entered_terms prefix false names scope counts terms = existential_terms prefix names scope counts terms

pub outermost_terms : IsTermScope outermost
outermost_terms = record { pairs = tt; universals = tt }
