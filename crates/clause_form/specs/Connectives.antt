-- The connectives that the logical words name.
use Rattle.std.specs.Prelude.{if◌then◌else◌, codes, Option, Some, None}
use Rattle.std.specs.Str.{bytes_eq}
use Rattle.kif_tree.specs.declared.form.Form.{Form, out-Form}
use Rattle.kif_tree.specs.declared.form.Form.TheOpen.{Form-F}
use Rattle.kif_tree.specs.Terms.{Bytes}
use Rattle.clause_form.specs.declared.connective.Connective.{Connective}
use Rattle.clause_form.specs.declared.connective.Connective.TheVariants.{Not, And, Or, Implies, Equivalent, ForAll, Exists}

abbrev pub quantifier_named : Bytes → Option Connective
quantifier_named word =
    if bytes_eq word (codes "forall") then Some ForAll
    else if bytes_eq word (codes "exists") then Some Exists
    else None

abbrev pub connective_named : Bytes → Option Connective
connective_named word =
    if bytes_eq word (codes "not") then Some Not
    else if bytes_eq word (codes "and") then Some And
    else if bytes_eq word (codes "or") then Some Or
    else if bytes_eq word (codes "=>") then Some Implies
    else if bytes_eq word (codes "<=>") then Some Equivalent
    else quantifier_named word

abbrev pub connective_layer : Form-F Form → Option Connective
connective_layer (Form-F.Word text) = connective_named text
connective_layer (Form-F.Variable text) = None
connective_layer (Form-F.Row text) = None
connective_layer (Form-F.Numeral text) = None
connective_layer (Form-F.Quoted text) = None
connective_layer (Form-F.List parts) = None

-- the connective that the head of a list names
abbrev pub connective_of : Form → Option Connective
connective_of head = connective_layer (out-Form head)
