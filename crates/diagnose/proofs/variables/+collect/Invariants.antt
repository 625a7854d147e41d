use Rattle.std.proofs.Common.{take}
use Rattle.diagnose.specs.Found.{Adds, OfSome}
use Rattle.diagnose.specs.VariableWalk.{Collects, is_free_in, IsUnusedAt}
use Rattle.diagnose.proofs.variables.+collect.Given as goal

abbrev pub invariant-collect_all-loop-part : goal.invariant-collect_all-loop-part
invariant-collect_all-loop-part l = record {
  free : Collects (is_free_in (take l.part-index l.parts)) l.initial.free l.free;
  found : Adds (OfSome (IsUnusedAt l.place) (take l.part-index l.parts)) l.initial.found.items l.found.items;
}
