use Rattle.std.proofs.Common.{◌≡◌, ◌++◌, map, take}
use Rattle.kif_tree.specs.Subst.{bind, lookup}
use Rattle.infer.proofs.paramodulation.append_substituted.Given as goal

abbrev pub invariant-loop-form : goal.invariant-loop-form
invariant-loop-form l = l.out ≡ l.fn.out ++ map (bind (lookup l.subst.pairs)) (take l.form-index l.forms)
