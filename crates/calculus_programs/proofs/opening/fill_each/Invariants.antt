use Rattle.std.proofs.Common.{◌≡◌, map, take}
use Rattle.kif_tree.specs.Subst.{bind, filling_of}
use Rattle.calculus_programs.proofs.opening.fill_each.Given as goal

abbrev pub invariant-loop-form : goal.invariant-loop-form
invariant-loop-form l = l.filled ≡ map (bind (filling_of l.unnamed l.pairs)) (take l.form-index l.forms)
