-- A form has as many clauses as its sizes say.
use Rattle.std.proofs.Common.{◌≡◌, ℕ, ◌+◌, ◌*◌, List, [], ◌∷◌, ◌++◌, map, length, arith, Bool, true, false, not, if◌then◌else◌, refl, sym, ap, ap₂, ◌∙◌, length-append}
use Rattle.std.specs.Prelude.{Option, Some, None}
use Rattle.std.specs.List.{flat_map}
use Rattle.std.proofs.lemmas.List.{length-map}
use Rattle.std.proofs.Math.Nat.{suc-mul}
use Rattle.sigma_base.specs.Lists.{Each}
use Rattle.kif_tree.specs.Clauses.{Literals, same_sign}
use Rattle.kif_tree.specs.declared.clause.Literal.{Literal}
use Rattle.kif_tree.specs.declared.form.Form.{Form, out-Form}
use Rattle.kif_tree.specs.declared.form.Form.TheVariants as form
use Rattle.kif_tree.specs.declared.form.Form.TheOpen.{Form-F}
use Rattle.kif_tree.specs.FormLaws.{induction}
use Rattle.kif_tree.specs.Subst.{apply}
use Rattle.kif_tree.specs.Terms.{Bytes, variables, distinct}
use Rattle.clause_form.specs.Connectives.{connective_of}
use Rattle.clause_form.specs.declared.connective.Connective.{Connective}
use Rattle.clause_form.specs.declared.connective.Connective.TheVariants.{Not, And, Or, Implies, Equivalent, ForAll, Exists}
use Rattle.clause_form.specs.declared.counting.Sizes.{Sizes}
use Rattle.clause_form.specs.declared.matrix.Matrix.{Matrix, fold-Matrix, fold-roll-Matrix}
use Rattle.clause_form.specs.declared.matrix.Matrix.TheVariants as matrix
use Rattle.clause_form.specs.declared.matrix.Matrix.TheOpen.{Matrix-F}
use Rattle.clause_form.specs.declared.scope.Counts.{Counts}
use Rattle.clause_form.specs.declared.scope.Scope.{Scope}
use Rattle.clause_form.specs.Matrices.{products, joined, distribution_step, distribution}
use Rattle.clause_form.specs.ReadingLaws.{reading-List, reading_headed, reading_other}
use Rattle.clause_form.specs.Readings.{Part, Read, Reading, literal, each, grouped, two, negation, conjunction, disjunction, implication, second_half, equivalence, Entered, entered, quantified, connected, reading}
use Rattle.clause_form.specs.Reads as reads
use Rattle.clause_form.specs.Sizes as size
use Rattle.clause_form.proofs.SizeLaws.{sizes-List, sizes_other, all_sizes}

-- ---- the clauses of a matrix

distribution-Literal : (l : Literal) → distribution (matrix.Literal l) ≡ (l ∷ []) ∷ []
unfolding distribution
distribution-Literal l = ap (fold-Matrix (List Literals) distribution_step) (sym (matrix.rolls-Literal l)) ∙ fold-roll-Matrix (List Literals) distribution_step (Matrix-F.Literal l)

distribution-Conjunction : (parts : List Matrix) → distribution (matrix.Conjunction parts) ≡ joined (map distribution parts)
unfolding distribution
distribution-Conjunction parts =
    ap (fold-Matrix (List Literals) distribution_step) (sym (matrix.rolls-Conjunction parts)) ∙ fold-roll-Matrix (List Literals) distribution_step (Matrix-F.Conjunction parts)

distribution-Disjunction : (parts : List Matrix) → distribution (matrix.Disjunction parts) ≡ products (map distribution parts)
unfolding distribution
distribution-Disjunction parts =
    ap (fold-Matrix (List Literals) distribution_step) (sym (matrix.rolls-Disjunction parts)) ∙ fold-roll-Matrix (List Literals) distribution_step (Matrix-F.Disjunction parts)

-- how many clauses a matrix has
abbrev count : Matrix → ℕ
count m = length (distribution m)

abbrev sum : List ℕ → ℕ
sum [] = 0
sum (n ∷ ns) = n + sum ns

abbrev product : List ℕ → ℕ
product [] = 1
product (n ∷ ns) = n * product ns

length-joined : (parts : List Matrix) → length (joined (map distribution parts)) ≡ sum (map count parts)
length-joined [] = refl
length-joined (m ∷ parts) = length-append (distribution m) (joined (map distribution parts)) ∙ ap (λ n. count m + n) (length-joined parts)

-- each of these has as many results
length-each : (f : Literals → List Literals) (n : ℕ) → ((clause : Literals) → length (f clause) ≡ n) → (clauses : List Literals) → length (flat_map f clauses) ≡ length clauses * n
length-each f n h [] = omega arith
length-each f n h (clause ∷ clauses) =
    length-append (f clause) (flat_map f clauses) ∙ ap₂ (λ m k. m + k) (h clause) (length-each f n h clauses)
    ∙ turned (length clauses * n) ∙ sym (suc-mul (length clauses) n)
  where
    turned : (m : ℕ) → n + m ≡ m + n
    turned m = omega arith

length-products : (parts : List Matrix) → length (products (map distribution parts)) ≡ product (map count parts)
length-products [] = refl
length-products (m ∷ parts) =
    length-each (λ clause. map (λ rest. clause ++ rest) (products (map distribution parts))) (length (products (map distribution parts)))
    (λ clause. length-map (products (map distribution parts)) (λ rest. clause ++ rest)) (distribution m)
    ∙ ap (λ n. count m * n) (length-products parts)

-- a sum or a product
abbrev combined : Bool → List ℕ → ℕ
combined conjoins ns = if conjoins then sum ns else product ns

count_group : (conjoins : Bool) (parts : List Matrix) → count (reads.group conjoins parts) ≡ combined conjoins (map count parts)
count_group true parts = ap length (distribution-Conjunction parts) ∙ length-joined parts
count_group false parts = ap length (distribution-Disjunction parts) ∙ length-products parts

-- ---- readings

-- whatever the sign, the scope and the counts, the reading has as many clauses as these sizes say
abbrev HasSizes : Reading → Sizes → Type 0
HasSizes read sizes = (sign : Bool) (scope : Scope) (counts : Counts) → count (read sign scope counts).matrix ≡ size.by_sign sign sizes

literal_counts : (atom : Form) → HasSizes (literal atom) size.one_each
literal_counts atom true scope counts = ap length (distribution-Literal (record { positive = true; atom = apply scope.pairs atom }))
literal_counts atom false scope counts = ap length (distribution-Literal (record { positive = false; atom = apply scope.pairs atom }))

-- two parts, each with a sign
two_count : (conjoins : Bool) (first : Part) (first_sign : Bool) (second : Part) (second_sign : Bool) (a b : Sizes) → HasSizes first.1 a → HasSizes second.1 b → (scope : Scope) (counts : Counts)
    → count (two conjoins first first_sign second second_sign scope counts).matrix ≡ combined conjoins (size.by_sign first_sign a ∷ size.by_sign second_sign b ∷ [])
two_count conjoins first first_sign second second_sign a b h k scope counts =
    count_group conjoins (first_read.matrix ∷ second_read.matrix ∷ [])
    ∙ ap₂ (λ m n. combined conjoins (m ∷ n ∷ [])) (h first_sign scope counts) (k second_sign scope first_read.counts)
  where
    first_read : Read
    first_read = first.1 first_sign scope counts

    second_read : Read
    second_read = second.1 second_sign scope first_read.counts

-- ---- the connectives

times_one : (m n : ℕ) → m * (n * 1) ≡ m * n
times_one m n = ap (λ k. m * k) (omega arith)

negation_counts : (part : Part) (a : Sizes) → HasSizes part.1 a → HasSizes (negation part) (size.swapped a)
negation_counts part a h true = h false
negation_counts part a h false = h true

implication_counts : (first second : Part) (a b : Sizes) → HasSizes first.1 a → HasSizes second.1 b → HasSizes (implication first second) (size.implied a b)
implication_counts first second a b h k true scope counts = two_count false first false second true a b h k scope counts ∙ times_one a.negative b.positive
implication_counts first second a b h k false scope counts = two_count true first true second false a b h k scope counts ∙ omega arith

-- what an equivalence says beside the first disjunction
abbrev converse_size : Bool → Sizes → Sizes → ℕ
converse_size true a b = b.negative * a.positive
converse_size false a b = a.negative * b.negative

converse_counts : (first second : Part) (a b : Sizes) → HasSizes first.1 a → HasSizes second.1 b → (sign : Bool) (scope : Scope) (counts : Counts)
    → count (second_half first second sign scope counts).matrix ≡ converse_size sign a b
converse_counts first second a b h k true scope counts = two_count false second false first true b a k h scope counts ∙ times_one b.negative a.positive
converse_counts first second a b h k false scope counts = two_count false first false second false a b h k scope counts ∙ times_one a.negative b.negative

equivalence_counts : (first second : Part) (a b : Sizes) → HasSizes first.1 a → HasSizes second.1 b → HasSizes (equivalence first second) (size.equated a b)
equivalence_counts first second a b h k sign scope counts = joined_count ∙ by sign
  where
    one : Read
    one = two false first (not sign) second true scope counts

    other : Read
    other = second_half first second sign scope one.counts

    joined_count : count (equivalence first second sign scope counts).matrix ≡ size.by_sign (not sign) a * (b.positive * 1) + (converse_size sign a b + 0)
    joined_count =
        count_group true (one.matrix ∷ other.matrix ∷ [])
        ∙ ap₂ (λ m n. m + (n + 0)) (two_count false first (not sign) second true a b h k scope counts) (converse_counts first second a b h k sign scope one.counts)

    by : (sign : Bool) → size.by_sign (not sign) a * (b.positive * 1) + (converse_size sign a b + 0) ≡ size.by_sign sign (size.equated a b)
    by true = ap₂ (λ m n. m + n) (times_one a.negative b.positive) (omega arith)
    by false = ap₂ (λ m n. m + n) (times_one a.positive b.positive) (omega arith)

-- ---- forms

abbrev IsCounted : Bytes → Form → Type 0
IsCounted prefix f = HasSizes (reading prefix f) (size.sizes f)

each_counts : (prefix : Bytes) (parts : List Form) → Each (IsCounted prefix) parts → (sign : Bool) (scope : Scope) (counts : Counts)
    → map count (each (map (reads.beside prefix) parts) sign scope counts).matrices ≡ map (λ f. size.by_sign sign (size.sizes f)) parts
each_counts prefix [] h sign scope counts = refl
each_counts prefix (f ∷ parts) h sign scope counts = ap₂ ◌∷◌ (h.0 sign scope counts) (each_counts prefix parts h.1 sign scope (reading prefix f sign scope counts).counts)

sum_of : (sign : Bool) (parts : List Form) → sum (map (λ f. size.by_sign sign (size.sizes f)) parts) ≡ size.by_sign sign (size.totals (map size.sizes parts)).sums
sum_of true [] = refl
sum_of false [] = refl
sum_of true (f ∷ parts) = ap (λ n. (size.sizes f).positive + n) (sum_of true parts)
sum_of false (f ∷ parts) = ap (λ n. (size.sizes f).negative + n) (sum_of false parts)

product_of : (sign : Bool) (parts : List Form) → product (map (λ f. size.by_sign sign (size.sizes f)) parts) ≡ size.by_sign sign (size.totals (map size.sizes parts)).products
product_of true [] = refl
product_of false [] = refl
product_of true (f ∷ parts) = ap (λ n. (size.sizes f).positive * n) (product_of true parts)
product_of false (f ∷ parts) = ap (λ n. (size.sizes f).negative * n) (product_of false parts)

grouped_counts : (prefix : Bytes) (parts : List Form) → Each (IsCounted prefix) parts → (conjoins sign : Bool) (scope : Scope) (counts : Counts)
    → count (grouped conjoins (each (map (reads.beside prefix) parts) sign scope counts)).matrix ≡ combined conjoins (map (λ f. size.by_sign sign (size.sizes f)) parts)
grouped_counts prefix parts h conjoins sign scope counts =
    count_group conjoins (each (map (reads.beside prefix) parts) sign scope counts).matrices ∙ ap (combined conjoins) (each_counts prefix parts h sign scope counts)

conjunction_counts : (prefix : Bytes) (parts : List Form) → Each (IsCounted prefix) parts → HasSizes (conjunction (map (reads.beside prefix) parts)) (size.conjoined (size.totals (map size.sizes parts)))
conjunction_counts prefix parts h true scope counts = grouped_counts prefix parts h true true scope counts ∙ sum_of true parts
conjunction_counts prefix parts h false scope counts = grouped_counts prefix parts h false false scope counts ∙ product_of false parts

disjunction_counts : (prefix : Bytes) (parts : List Form) → Each (IsCounted prefix) parts → HasSizes (disjunction (map (reads.beside prefix) parts)) (size.disjoined (size.totals (map size.sizes parts)))
disjunction_counts prefix parts h true scope counts = grouped_counts prefix parts h false true scope counts ∙ product_of true parts
disjunction_counts prefix parts h false scope counts = grouped_counts prefix parts h true false scope counts ∙ sum_of false parts

-- a reading has the sizes that equal these
as_sizes : (read : Reading) (a b : Sizes) → a ≡ b → HasSizes read b → HasSizes read a
as_sizes read a b e h sign scope counts = h sign scope counts ∙ sym (ap (size.by_sign sign) e)

quantified_counts : (prefix : Bytes) (for_all : Bool) (names body : Form) → IsCounted prefix body → HasSizes (quantified prefix for_all (reads.beside prefix names) (reads.beside prefix body)) (size.sizes body)
quantified_counts prefix for_all names body h sign scope counts = h sign (inner for_all).scope (inner for_all).counts
  where
    inner : Bool → Entered
    inner universally = entered prefix (same_sign universally sign) (distinct (variables names)) scope counts

connected_counts : (prefix : Bytes) (named : Option Connective) (parts : List Form) (other : Reading) → HasSizes other size.one_each → Each (IsCounted prefix) parts
    → HasSizes (connected prefix named (map (reads.beside prefix) parts) other) (size.connected named (map size.beside parts))
connected_counts prefix None parts other h k = h
connected_counts prefix (Some Not) [] other h k = h
connected_counts prefix (Some Not) (f ∷ []) other h k = negation_counts (reads.beside prefix f) (size.sizes f) k.0
connected_counts prefix (Some Not) (f ∷ g ∷ parts) other h k = h
connected_counts prefix (Some And) parts other h k =
    as_sizes (conjunction (map (reads.beside prefix) parts)) (size.connected (Some And) (map size.beside parts)) (size.conjoined (size.totals (map size.sizes parts)))
    (ap (λ (all : List Sizes). size.conjoined (size.totals all)) (all_sizes parts)) (conjunction_counts prefix parts k)
connected_counts prefix (Some Or) parts other h k =
    as_sizes (disjunction (map (reads.beside prefix) parts)) (size.connected (Some Or) (map size.beside parts)) (size.disjoined (size.totals (map size.sizes parts)))
    (ap (λ (all : List Sizes). size.disjoined (size.totals all)) (all_sizes parts)) (disjunction_counts prefix parts k)
connected_counts prefix (Some Implies) [] other h k = h
connected_counts prefix (Some Implies) (f ∷ []) other h k = h
connected_counts prefix (Some Implies) (f ∷ g ∷ []) other h k = implication_counts (reads.beside prefix f) (reads.beside prefix g) (size.sizes f) (size.sizes g) k.0 k.1.0
connected_counts prefix (Some Implies) (f ∷ g ∷ e ∷ parts) other h k = h
connected_counts prefix (Some Equivalent) [] other h k = h
connected_counts prefix (Some Equivalent) (f ∷ []) other h k = h
connected_counts prefix (Some Equivalent) (f ∷ g ∷ []) other h k = equivalence_counts (reads.beside prefix f) (reads.beside prefix g) (size.sizes f) (size.sizes g) k.0 k.1.0
connected_counts prefix (Some Equivalent) (f ∷ g ∷ e ∷ parts) other h k = h
connected_counts prefix (Some ForAll) [] other h k = h
connected_counts prefix (Some ForAll) (f ∷ []) other h k = h
connected_counts prefix (Some ForAll) (f ∷ g ∷ []) other h k = quantified_counts prefix true f g k.1.0
connected_counts prefix (Some ForAll) (f ∷ g ∷ e ∷ parts) other h k = h
connected_counts prefix (Some Exists) [] other h k = h
connected_counts prefix (Some Exists) (f ∷ []) other h k = h
connected_counts prefix (Some Exists) (f ∷ g ∷ []) other h k = quantified_counts prefix false f g k.1.0
connected_counts prefix (Some Exists) (f ∷ g ∷ e ∷ parts) other h k = h

-- forms of other kinds than lists
leaf_counts : (prefix : Bytes) (f : Form) → ((parts : List Form) → f ≡ form.List parts → ⊥) → IsCounted prefix f
leaf_counts prefix f no_list sign scope counts =
    ap (λ (read : Reading). count (read sign scope counts).matrix) (reading_other prefix f no_list) ∙ literal_counts f sign scope counts ∙ sym (ap (size.by_sign sign) (sizes_other f no_list))

list_counts : (prefix : Bytes) (parts : List Form) → Each (IsCounted prefix) parts → IsCounted prefix (form.List parts)
list_counts prefix [] h sign scope counts =
    ap (λ (read : Reading). count (read sign scope counts).matrix) (reading-List prefix []) ∙ literal_counts (form.List []) sign scope counts ∙ sym (ap (size.by_sign sign) (sizes-List []))
list_counts prefix (head ∷ parts) h sign scope counts =
    ap (λ (read : Reading). count (read sign scope counts).matrix) (reading_headed prefix head parts)
    ∙ connected_counts prefix (connective_of head) parts (literal (form.List (head ∷ parts))) (literal_counts (form.List (head ∷ parts))) h.1 sign scope counts
    ∙ sym (ap (size.by_sign sign) (sizes-List (head ∷ parts)))

no_list_of : (f : Form) (layer : Form-F Form) → out-Form f ≡ layer → ((parts : List Form) → layer ≡ Form-F.List parts → ⊥) → (parts : List Form) → f ≡ form.List parts → ⊥
no_list_of f layer out other parts e = other parts (sym out ∙ ap out-Form e ∙ form.outs-List parts)

-- whatever the sign, the scope and the counts, a form has as many clauses as its sizes say
pub counts_clauses : (prefix : Bytes) (f : Form) (sign : Bool) (scope : Scope) (counts : Counts) → length (distribution (reading prefix f sign scope counts).matrix) ≡ size.by_sign sign (size.sizes f)
counts_clauses prefix = induction (IsCounted prefix) (record {
  word = λ text. leaf_counts prefix (form.Word text) (no_list_of (form.Word text) (Form-F.Word text) (form.outs-Word text) (λ parts e. cc));
  variable = λ text. leaf_counts prefix (form.Variable text) (no_list_of (form.Variable text) (Form-F.Variable text) (form.outs-Variable text) (λ parts e. cc));
  row = λ text. leaf_counts prefix (form.Row text) (no_list_of (form.Row text) (Form-F.Row text) (form.outs-Row text) (λ parts e. cc));
  numeral = λ text. leaf_counts prefix (form.Numeral text) (no_list_of (form.Numeral text) (Form-F.Numeral text) (form.outs-Numeral text) (λ parts e. cc));
  quoted = λ text. leaf_counts prefix (form.Quoted text) (no_list_of (form.Quoted text) (Form-F.Quoted text) (form.outs-Quoted text) (λ parts e. cc));
  list = list_counts prefix;
})
