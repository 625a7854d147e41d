-- Laws of truth, of tidy clauses and of derivations.
use Rattle.std.specs.Prelude.{◌≡◌, ℕ, List, [], ◌∷◌, ◌++◌, map, take, true, Some}
use Rattle.std.specs.List.{list_all}
use Rattle.sigma_base.specs.Lists.{Each}
use Rattle.kif_tree.specs.declared.form.Form.{Form}
use Rattle.kif_tree.specs.declared.subst.Pair.{Pair}
use Rattle.kif_tree.specs.declared.clause.Literal.{Literal}
use Rattle.kif_tree.specs.Terms.{is_ground}
use Rattle.kif_tree.specs.Subst.{Filling, lookup, compose, value_of}
use Rattle.kif_tree.specs.Clauses.{Literals, bind_clause, bare, is_answer, clause_variables}
use Rattle.calculus.specs.declared.step.Step.{Step}
use Rattle.calculus.specs.Truth.{satisfies, satisfies_all, Refutes, negation}
use Rattle.calculus.specs.Tidy.{tidy}
use Rattle.calculus.specs.Rules.{nth, Derivation}
use Rattle.calculus.specs.Closed.{clean_in, rowless_clause, Closes, pairs_of}
use Rattle.calculus.specs.Equality.{yes, no}
use Rattle.calculus.specs.Evidence.{list_from, step_evidence, evidence, uses}
use Rattle.calculus.specs.Answers.{Among, IsEvidence, UseAnswers, IsOfUses, IsSearchInput, HasAnswer, shown_bindings, IsEvidenceFor, IsContradiction}

-- ---- truth

-- clauses with the same literals are satisfied alike, whatever their order and however often each stands
abbrev pub SatisfactionIsOfLiterals : Type 0
SatisfactionIsOfLiterals = (atoms : List Form) (first second : Literals)
    → ((literal : Literal) → Among literal first → Among literal second) → ((literal : Literal) → Among literal second → Among literal first)
    → satisfies atoms first ≡ satisfies atoms second

-- what satisfies two clauses satisfies what one resolution on an atom concludes from them
abbrev pub ResolutionHolds : Type 0
ResolutionHolds = (atoms : List Form) (atom : Form) (before following others more : Literals)
    → satisfies atoms (before ++ yes atom ∷ following) ≡ true → satisfies atoms (others ++ no atom ∷ more) ≡ true
    → satisfies atoms ((before ++ following) ++ (others ++ more)) ≡ true

-- nothing satisfies a clause together with the negation of each of its literals
abbrev pub NegationRefutes : Type 0
NegationRefutes = (clause : Literals) → Refutes (clause ∷ map (λ literal. negation literal ∷ []) clause)

-- ---- clauses under substitutions, and tidy clauses

-- one substitution and then another act on a clause as their composition does
abbrev pub ClausesCompose : Type 0
ClausesCompose = (first second : List Pair) (clause : Literals) → bind_clause (lookup (compose first second)) clause ≡ bind_clause (lookup second) (bind_clause (lookup first) clause)

abbrev pub TidyIsIdempotent : Type 0
TidyIsIdempotent = (clause : Literals) → tidy (tidy clause) ≡ tidy clause

-- two clauses that fillings turn into each other have one tidy form
abbrev pub TidiesAlike : Type 0
TidiesAlike = (first second : Literals) (there back : Filling) → bind_clause there first ≡ second → bind_clause back second ≡ first → tidy first ≡ tidy second

-- ---- derivations

-- what satisfies the evidence of a clause satisfies the clause
abbrev pub EvidenceHolds : Type 0
EvidenceHolds = (inputs : List Literals) (steps : List Step) (clauses : List Literals) → Derivation inputs steps clauses
    → (n : ℕ) (clause : Literals) → nth clauses n ≡ Some clause → (g : Filling) (atoms : List Form)
    → satisfies_all atoms (evidence inputs steps clauses n g) ≡ true → satisfies atoms (bare clause g) ≡ true

-- so the evidence of a clause that has answer literals alone, or no literal, refutes
abbrev pub EvidenceRefutes : Type 0
EvidenceRefutes = (inputs : List Literals) (steps : List Step) (clauses : List Literals) → Derivation inputs steps clauses
    → (n : ℕ) (clause : Literals) → nth clauses n ≡ Some clause → list_all (λ literal. is_answer literal.atom) clause ≡ true
    → (g : Filling) → Refutes (evidence inputs steps clauses n g)

-- where no row variable occurs, each member of the evidence is a ground instance of an input or of equality
abbrev pub EvidenceIsGround : Type 0
EvidenceIsGround = (inputs : List Literals) (steps : List Step) (clauses : List Literals) → Derivation inputs steps clauses
    → list_all rowless_clause inputs ≡ true → list_all clean_in steps ≡ true
    → (n : ℕ) (g : Filling) → Closes g → Each (IsEvidence inputs) (evidence inputs steps clauses n g)

-- and each that is of an input is so under one of the uses
abbrev pub EvidenceIsOfUses : Type 0
EvidenceIsOfUses = (inputs : List Literals) (steps : List Step) (clauses : List Literals) → Derivation inputs steps clauses
    → list_all rowless_clause inputs ≡ true → list_all clean_in steps ≡ true
    → (n : ℕ) (g : Filling) → Closes g → Each (IsOfUses inputs (uses steps clauses n g)) (evidence inputs steps clauses n g)

-- the answer literals of each input that is used are answer literals of the clause, both filled in
abbrev pub AnswersStay : Type 0
AnswersStay = (inputs : List Literals) (steps : List Step) (clauses : List Literals) → Derivation inputs steps clauses
    → (n : ℕ) (clause : Literals) → nth clauses n ≡ Some clause → (g : Filling) → Each (UseAnswers inputs clause g) (uses steps clauses n g)

-- the evidence of a clause from that of earlier ones: the recursion ends by itself
abbrev pub EvidenceSteps : Type 0
EvidenceSteps = (inputs : List Literals) (steps : List Step) (clauses : List Literals) (n : ℕ) (g : Filling)
    → evidence inputs steps clauses n g ≡ list_from (nth steps n) (λ step. step_evidence inputs (take n clauses) (evidence inputs steps clauses) step g)

-- a ground instance under a filling is one under a list of pairs
abbrev pub PairsSuffice : Type 0
PairsSuffice = (clause : Literals) (g : Filling) → bare clause (value_of (pairs_of g (clause_variables clause))) ≡ bare clause g

-- evidence depends on what the variables of its clause become, and on no other variable
abbrev pub EvidenceIsOfVariables : Type 0
EvidenceIsOfVariables = (inputs : List Literals) (steps : List Step) (clauses : List Literals) → Derivation inputs steps clauses
    → (n : ℕ) (clause : Literals) → nth clauses n ≡ Some clause
    → (first second : Filling) → Each (λ name. first name ≡ second name) (clause_variables clause)
    → evidence inputs steps clauses n first ≡ evidence inputs steps clauses n second

-- pairs of ground forms make each variable ground, also one that no pair names
abbrev pub GroundPairsClose : Type 0
GroundPairsClose = (pairs : List Pair) → list_all (λ pair. is_ground pair.term) pairs ≡ true → Closes (value_of pairs)

-- ---- queries

-- The evidence of a clause that has answer literals alone is evidence for the query under the bindings that the clause shows.
-- The derivation begins from the inputs, the clauses of the query and maybe (equal ?X1 ?X1), in any order.
abbrev pub QueryEvidence : Type 0
QueryEvidence = (inputs query_clauses search_inputs : List Literals) (steps : List Step) (clauses : List Literals) → Derivation search_inputs steps clauses
    → Each (IsSearchInput inputs query_clauses) search_inputs → Each HasAnswer query_clauses
    → list_all rowless_clause search_inputs ≡ true → list_all clean_in steps ≡ true
    → (n : ℕ) (clause : Literals) → nth clauses n ≡ Some clause → list_all (λ literal. is_answer literal.atom) clause ≡ true
    → (g : Filling) → Closes g → IsEvidenceFor inputs query_clauses (shown_bindings clause g) (evidence search_inputs steps clauses n g)

-- the evidence of a clause without literals is a contradiction of the inputs alone
abbrev pub ContradictionEvidence : Type 0
ContradictionEvidence = (inputs query_clauses search_inputs : List Literals) (steps : List Step) (clauses : List Literals) → Derivation search_inputs steps clauses
    → Each (IsSearchInput inputs query_clauses) search_inputs → Each HasAnswer query_clauses
    → list_all rowless_clause search_inputs ≡ true → list_all clean_in steps ≡ true
    → (n : ℕ) → nth clauses n ≡ Some [] → (g : Filling) → Closes g → IsContradiction inputs (evidence search_inputs steps clauses n g)
