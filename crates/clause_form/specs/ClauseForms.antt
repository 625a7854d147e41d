-- The clause form of a variant.
use Rattle.std.specs.Prelude.{◌≡◌, List, ◌++◌, map, length, Bool, if◌then◌else◌, codes, decimal, nat_lt}
use Rattle.kif_tree.specs.declared.form.Form.{Form}
use Rattle.kif_tree.specs.Terms.{Bytes}
use Rattle.kif_tree.specs.Subst.{Filling}
use Rattle.kif_tree.specs.Clauses.{Literals, bind_clause}
use Rattle.calculus.specs.Tidy.{tidy}
use Rattle.calculus.specs.Truth.{satisfies_all}
use Rattle.clause_form.specs.Matrices.{distribution, is_true_matrix}
use Rattle.clause_form.specs.Readings.{matrix_of}
use Rattle.clause_form.specs.declared.conversion.SkolemBase.{SkolemBase}
use Rattle.clause_form.specs.declared.conversion.ClauseForm.{ClauseForm}
use Rattle.clause_form.specs.declared.conversion.ClauseForm.TheVariants.{Clauses, TooMany}
use Rattle.clause_form.specs.declared.matrix.Matrix.{Matrix}

-- `!`, the load, the form and the variant, parted by points
abbrev pub skolem_prefix : SkolemBase → Bytes
skolem_prefix base = codes "!" ++ decimal base.load ++ codes "." ++ decimal base.form ++ codes "." ++ decimal base.variant

-- how many clauses there are at most
abbrev pub passes_limit : List Literals → Bool
passes_limit clauses = nat_lt 4096 (length clauses)

-- the clauses before they are made tidy
abbrev pub raw_clauses : Bytes → Form → List Literals
raw_clauses prefix f = distribution (matrix_of prefix f)

abbrev pub clauses_within : List Literals → ClauseForm
clauses_within raw = if passes_limit raw then TooMany else Clauses (map tidy raw)

-- the tidy clauses of a closed form
abbrev pub clause_form : SkolemBase → Form → ClauseForm
clause_form base f = clauses_within (raw_clauses (skolem_prefix base) f)

-- the clauses hold together exactly where the matrix is true, for all true atoms and whatever fills in the variables
abbrev pub DistributionIsTrue : Matrix → Type 0
DistributionIsTrue matrix = (atoms : List Form) (g : Filling) → satisfies_all atoms (map (bind_clause g) (distribution matrix)) ≡ is_true_matrix atoms g matrix
