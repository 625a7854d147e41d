use Rattle.std.proofs.Common.{◌≡◌, take, map}
use Rattle.kif_tree.specs.declared.form.Form.TheVariants as form
use Rattle.var_expand.proofs.options.words_of.Given as goal

abbrev pub invariant-loop-relation : goal.invariant-loop-relation
invariant-loop-relation l = l.words ≡ map form.Word (take l.relation-index l.relations)
