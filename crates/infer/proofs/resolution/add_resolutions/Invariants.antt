use Rattle.std.proofs.Common.{◌∷◌, [], length}
use Rattle.sigma_base.specs.Lists.{Each}
use Rattle.infer.specs.Conclusions.{Adds}
use Rattle.infer.specs.Plain.{IsPlain, IsPlainConclusion}
use Rattle.infer.specs.Sites.{each_below, resolution_sites}
use Rattle.infer.proofs.resolution.add_resolutions.Given as goal

abbrev pub invariant-loop-literal : goal.invariant-loop-literal
invariant-loop-literal l =
    Adds (l.given ∷ l.partner ∷ []) (each_below l.literal (λ i. each_below (length l.partner) (resolution_sites i))) l.initial.found l.found
    × (IsPlain l.given → IsPlain l.partner → Each IsPlainConclusion l.initial.found → Each IsPlainConclusion l.found)
