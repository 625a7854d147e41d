use Rattle.std.proofs.Common.{take}
use Rattle.unify.specs.Bindings.{AreConsistent, Grows}
use Rattle.unify.specs.Matching.{Matched, GivesForms, variables_of_all}
use Rattle.unify.proofs.matching.+match_form.Given as goal

-- the parts so far match
abbrev pub invariant-match_parts-loop-at : goal.invariant-match_parts-loop-at
invariant-match_parts-loop-at l =
    Grows l.fn.bindings l.bindings × (AreConsistent l.fn.bindings → AreConsistent l.bindings)
    × (AreConsistent l.fn.bindings → Matched l.fn.bindings l.bindings (GivesForms (take l.at l.patterns) (take l.at l.targets)) (variables_of_all (take l.at
    l.patterns)))
