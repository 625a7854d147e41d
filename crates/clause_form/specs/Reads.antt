-- Parts beside their readings, and what a literal and a group read as.
use Rattle.std.specs.Prelude.{List, Bool, if◌then◌else◌}
use Rattle.kif_tree.specs.declared.form.Form.{Form}
use Rattle.kif_tree.specs.Terms.{Bytes}
use Rattle.kif_tree.specs.Subst.{apply}
use Rattle.clause_form.specs.Readings.{Part, reading}
use Rattle.clause_form.specs.declared.matrix.Matrix.{Matrix}
use Rattle.clause_form.specs.declared.matrix.Matrix.TheVariants as matrix
use Rattle.clause_form.specs.declared.scope.Scope.{Scope}

abbrev pub beside : Bytes → Form → Part
beside prefix f = (f, reading prefix f)

abbrev pub literal_matrix : Form → Bool → Scope → Matrix
literal_matrix atom sign scope = matrix.Literal (record { positive = sign; atom = apply scope.pairs atom })

abbrev pub group : Bool → List Matrix → Matrix
group conjoins matrices = if conjoins then matrix.Conjunction matrices else matrix.Disjunction matrices
