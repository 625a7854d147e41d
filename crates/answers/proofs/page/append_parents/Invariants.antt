use Rattle.std.proofs.Common.{◌≡◌, ◌++◌, take}
use Rattle.std.specs.List.{flat_map}
use Rattle.answers.specs.Pages as spec
use Rattle.answers.proofs.page.append_parents.Given as goal

abbrev pub invariant-loop-parent : goal.invariant-loop-parent
invariant-loop-parent l = l.out ≡ l.initial.out ++ flat_map spec.parent_text (take l.parent-index l.parents)
