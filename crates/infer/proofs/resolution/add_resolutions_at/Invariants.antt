use Rattle.std.proofs.Common.{◌∷◌, []}
use Rattle.sigma_base.specs.Lists.{Each}
use Rattle.infer.specs.Conclusions.{Adds}
use Rattle.infer.specs.Plain.{IsPlain, IsPlainConclusion}
use Rattle.infer.specs.Sites.{each_below, resolution_sites}
use Rattle.infer.proofs.resolution.add_resolutions_at.Given as goal

abbrev pub invariant-loop-other : goal.invariant-loop-other
invariant-loop-other l =
    Adds (l.given ∷ l.partner ∷ []) (each_below l.other (resolution_sites l.literal)) l.initial.found l.found
    × (IsPlain l.given → IsPlain l.partner → Each IsPlainConclusion l.initial.found → Each IsPlainConclusion l.found)
