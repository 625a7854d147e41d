use Rattle.std.proofs.Common.{◌≡◌, ℕ, List, Some}
use Rattle.sigma_base.specs.Lists.{Each}
use Rattle.kif_tree.specs.Clauses.{Literals}
use Rattle.calculus.specs.Rules.{nth}
use Rattle.infer.specs.Conclusions.{Adds}
use Rattle.infer.specs.Plain.{IsPlain, IsPlainConclusion}
use Rattle.infer.specs.Sites.{each_below}
use Rattle.infer.proofs.ConclusionLaws.{both_ways}
use Rattle.infer.proofs.paramodulation.add_paramodulations.Given as goal

abbrev pub invariant-loop-literal : goal.invariant-loop-literal
invariant-loop-literal l = record {
  adds : (clauses : List Literals) → nth clauses l.source_number ≡ Some l.source → nth clauses l.target_number ≡ Some l.target
      → Adds clauses (each_below l.literal (λ (i : ℕ). both_ways l.source_number i l.target_number l.target)) l.fn.found l.found;
  plain : IsPlain l.source → IsPlain l.target → Each IsPlainConclusion l.fn.found → Each IsPlainConclusion l.found;
}
