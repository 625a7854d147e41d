use Rattle.std.proofs.Common.{◌≡◌, List, Some}
use Rattle.sigma_base.specs.Lists.{Each}
use Rattle.kif_tree.specs.Clauses.{Literals}
use Rattle.calculus.specs.Rules.{nth}
use Rattle.infer.specs.Conclusions.{Adds}
use Rattle.infer.specs.Plain.{IsPlain, IsPlainConclusion}
use Rattle.infer.specs.Sites.{each_below, paramodulation_sites}
use Rattle.infer.proofs.paramodulation.add_by_equality.Given as goal

abbrev pub invariant-loop-literal : goal.invariant-loop-literal
invariant-loop-literal l = record {
  adds : (clauses : List Literals) → nth clauses l.equality.source.number ≡ Some l.equality.source.clause.now → nth clauses l.target_number ≡ Some l.target
      → Adds clauses
      (each_below l.literal (paramodulation_sites l.equality.source.number l.equality.source.literal l.equality.flipped l.target_number l.target))
      l.fn.found l.found;
  plain : IsPlain l.equality.source.clause.now → IsPlain l.target → Each IsPlainConclusion l.fn.found → Each IsPlainConclusion l.found;
}
