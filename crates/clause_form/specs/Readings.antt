-- The reading of a form with a sign, from left to right: it counts the new variables and the Skolem terms that it makes.
use Rattle.std.specs.Prelude.{ℕ, ◌+◌, List, [], ◌∷◌, ◌++◌, map, length, Bool, true, false, not, if◌then◌else◌, codes, Option, Some, decimal}
use Rattle.kif_tree.specs.declared.form.Form.{Form, para-Form}
use Rattle.kif_tree.specs.declared.form.Form.TheOpen.{Form-F}
use Rattle.kif_tree.specs.declared.form.Form.TheVariants as form
use Rattle.kif_tree.specs.declared.subst.Pair.{Pair}
use Rattle.kif_tree.specs.Terms.{Bytes, variables, distinct}
use Rattle.kif_tree.specs.Subst.{apply}
use Rattle.kif_tree.specs.Clauses.{same_sign}
use Rattle.calculus.specs.Tidy.{numbered}
use Rattle.clause_form.specs.Connectives.{connective_of}
use Rattle.clause_form.specs.declared.connective.Connective.{Connective}
use Rattle.clause_form.specs.declared.connective.Connective.TheVariants.{Not, And, Or, Implies, Equivalent, ForAll, Exists}
use Rattle.clause_form.specs.declared.matrix.Matrix.{Matrix}
use Rattle.clause_form.specs.declared.matrix.Matrix.TheVariants as matrix
use Rattle.clause_form.specs.declared.scope.Counts.{Counts}
use Rattle.clause_form.specs.declared.scope.Scope.{Scope}

-- what was read, and the counts after it
pub record Read : Type 0 where
  pub matrix : Matrix
  pub counts : Counts

pub record ReadAll : Type 0 where
  pub matrices : List Matrix
  pub counts : Counts

-- what is read with a sign, in a scope, after these counts
abbrev pub Reading : Type 0
Reading = Bool → Scope → Counts → Read

-- a part of a list beside its reading
abbrev pub Part : Type 0
Part = Form × Reading

-- ---- literals, conjunctions and disjunctions

abbrev pub literal : Form → Reading
literal atom sign scope counts = record { matrix = matrix.Literal (record { positive = sign; atom = apply scope.pairs atom }); counts = counts }

abbrev pub none : Counts → ReadAll
none counts = record { matrices = []; counts = counts }

-- one after the other
abbrev pub before : Read → (Counts → ReadAll) → ReadAll
before first rest = record { matrices = first.matrix ∷ (rest first.counts).matrices; counts = (rest first.counts).counts }

abbrev pub each : List Part → Bool → Scope → Counts → ReadAll
each [] sign scope counts = none counts
each (part ∷ parts) sign scope counts = before (part.1 sign scope counts) (each parts sign scope)

-- a conjunction or a disjunction
abbrev pub grouped : Bool → ReadAll → Read
grouped conjoins all = record { matrix = if conjoins then matrix.Conjunction all.matrices else matrix.Disjunction all.matrices; counts = all.counts }

-- two parts, each with a sign of its own
abbrev pub two : Bool → Part → Bool → Part → Bool → Scope → Counts → Read
two conjoins first first_sign second second_sign scope counts =
    grouped conjoins (before (first.1 first_sign scope counts) (λ after. before (second.1 second_sign scope after) none))

-- ---- the connectives

abbrev pub negation : Part → Reading
negation part sign scope counts = part.1 (not sign) scope counts

abbrev pub conjunction : List Part → Reading
conjunction parts sign scope counts = grouped sign (each parts sign scope counts)

abbrev pub disjunction : List Part → Reading
disjunction parts sign scope counts = grouped (not sign) (each parts sign scope counts)

-- positive: the first negative or the second positive; negative: the first positive and the second negative
abbrev pub implication : Part → Part → Reading
implication first second sign scope counts = two (not sign) first (not sign) second sign scope counts

-- the second half: positive, the second negative or the first positive; negative, the first negative or the second negative
abbrev pub second_half : Part → Part → Reading
second_half first second true scope counts = two false second false first true scope counts
second_half first second false scope counts = two false first false second false scope counts

-- positive: the first negative or the second positive, and the second half; negative: one of both positive, and one of both negative
abbrev pub equivalence : Part → Part → Reading
equivalence first second sign scope counts =
    grouped true (before (two false first (not sign) second true scope counts) (λ after. before (second_half first second sign scope after) none))

-- ---- quantifiers

pub record Entered : Type 0 where
  pub scope : Scope
  pub counts : Counts

abbrev pub terms_of : List Pair → List Form
terms_of pairs = map (λ (pair : Pair). pair.term) pairs

-- each name becomes a new variable, and is a universal variable from there on
abbrev pub universal : List Bytes → Scope → Counts → Entered
universal names scope counts = record {
  scope = record {
    pairs = numbered (counts.variables + 1) names ++ scope.pairs;
    universals = scope.universals ++ terms_of (numbered (counts.variables + 1) names);
  };
  counts = record { variables = counts.variables + length names; skolems = counts.skolems };
}

-- the prefix, a point and the number
abbrev pub skolem_symbol : Bytes → ℕ → Bytes
skolem_symbol prefix number = prefix ++ codes "." ++ decimal number

-- the symbol alone, or the list of it and the universal variables around it
abbrev pub skolem_term : Bytes → List Form → Form
skolem_term symbol [] = form.Word symbol
skolem_term symbol (universal ∷ universals) = form.List (form.Word symbol ∷ universal ∷ universals)

-- the names become the Skolem terms of the numbers from this one
abbrev pub skolemized : Bytes → List Form → ℕ → List Bytes → List Pair
skolemized prefix universals number [] = []
skolemized prefix universals number (name ∷ names) =
    record { variable = name; term = skolem_term (skolem_symbol prefix number) universals } ∷ skolemized prefix universals (number + 1) names

abbrev pub existential : Bytes → List Bytes → Scope → Counts → Entered
existential prefix names scope counts = record {
  scope = record {
    pairs = skolemized prefix scope.universals (counts.skolems + 1) names ++ scope.pairs;
    universals = scope.universals;
  };
  counts = record { variables = counts.variables; skolems = counts.skolems + length names };
}

-- positive `forall` and negative `exists` bind universal variables
abbrev pub entered : Bytes → Bool → List Bytes → Scope → Counts → Entered
entered prefix universally names scope counts = if universally then universal names scope counts else existential prefix names scope counts

abbrev pub within : Part → Bool → Entered → Read
within body sign inner = body.1 sign inner.scope inner.counts

-- what the quantifier lists counts once, at its first place
abbrev pub quantified : Bytes → Bool → Part → Part → Reading
quantified prefix for_all names body sign scope counts = within body sign (entered prefix (same_sign for_all sign) (distinct (variables names.0)) scope counts)

-- ---- forms

-- `not`, `=>`, `<=>` or a quantifier before another number of parts reads as a literal
abbrev pub connected : Bytes → Option Connective → List Part → Reading → Reading
connected prefix (Some Not) (part ∷ []) other = negation part
connected prefix (Some And) parts other = conjunction parts
connected prefix (Some Or) parts other = disjunction parts
connected prefix (Some Implies) (first ∷ second ∷ []) other = implication first second
connected prefix (Some Equivalent) (first ∷ second ∷ []) other = equivalence first second
connected prefix (Some ForAll) (names ∷ body ∷ []) other = quantified prefix true names body
connected prefix (Some Exists) (names ∷ body ∷ []) other = quantified prefix false names body
connected prefix _ _ other = other

abbrev pub list_reading : Bytes → List Part → Reading
list_reading prefix [] = literal (form.List [])
list_reading prefix (head ∷ parts) = connected prefix (connective_of head.0) parts (literal (form.List (map (λ (part : Part). part.0) (head ∷ parts))))

abbrev pub reading_step : Bytes → Form-F Part → Reading
reading_step prefix (Form-F.Word text) = literal (form.Word text)
reading_step prefix (Form-F.Variable text) = literal (form.Variable text)
reading_step prefix (Form-F.Row text) = literal (form.Row text)
reading_step prefix (Form-F.Numeral text) = literal (form.Numeral text)
reading_step prefix (Form-F.Quoted text) = literal (form.Quoted text)
reading_step prefix (Form-F.List parts) = list_reading prefix parts

-- the reading of a form, where Skolem symbols begin with the prefix
unfoldable pub reading : Bytes → Form → Reading
reading prefix = para-Form Reading (reading_step prefix)

-- outside of all quantifiers
abbrev pub outermost : Scope
outermost = record { pairs = []; universals = [] }

-- before anything was read
abbrev pub nothing : Counts
nothing = record { variables = 0; skolems = 0 }

-- the matrix of a closed form
abbrev pub matrix_of : Bytes → Form → Matrix
matrix_of prefix f = (reading prefix f true outermost nothing).matrix
