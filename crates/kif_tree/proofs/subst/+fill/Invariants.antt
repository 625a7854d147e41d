use Rattle.std.proofs.Common.{◌≡◌, map, take}
use Rattle.kif_tree.specs.Subst.{bind, filling_of}
use Rattle.kif_tree.proofs.subst.+fill.Given as goal

abbrev pub invariant-fill_all-loop-form : goal.invariant-fill_all-loop-form
invariant-fill_all-loop-form l = l.filled ≡ map (bind (filling_of l.unnamed l.pairs)) (take l.form-index l.forms)
