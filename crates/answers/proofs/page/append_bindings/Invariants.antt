use Rattle.std.proofs.Common.{◌≡◌, ◌++◌, take}
use Rattle.std.specs.List.{flat_map}
use Rattle.answers.specs.Pages as spec
use Rattle.answers.proofs.page.append_bindings.Given as goal

abbrev pub invariant-loop-binding : goal.invariant-loop-binding
invariant-loop-binding l = l.out ≡ l.initial.out ++ flat_map spec.or_binding_text (take l.binding-index l.rest)
