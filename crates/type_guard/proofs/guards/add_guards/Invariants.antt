use Rattle.std.proofs.Common.{List, ◌++◌, take}
use Rattle.kif_tree.specs.declared.form.Form.{Form}
use Rattle.kif_tree.specs.declared.form.Form.TheVariants as form
use Rattle.type_guard.specs.Gathered.{AreGathered}
use Rattle.type_guard.specs.Guards.{guards_for}
use Rattle.type_guard.proofs.guards.add_guards.Given as goal

abbrev pub invariant-loop-told : goal.invariant-loop-told
invariant-loop-told l = (all : List Form) → AreGathered all l.initial.guards l.initial.seen → AreGathered (all ++ guards_for (form.Variable l.variable) (take l.told-index l.types)) l.guards l.seen
