use Rattle.std.proofs.Common.{◌≡◌, ◌<◌, ◌++◌, ℕ, List, Some, map}
use Rattle.sigma_base.specs.Lists.{Each}
use Rattle.kif_tree.specs.Terms.{depth}
use Rattle.kif_tree.specs.Clauses.{Literals}
use Rattle.calculus.specs.Rules.{nth}
use Rattle.infer.specs.Conclusions.{Adds}
use Rattle.infer.specs.Plain.{IsPlain, IsPlainConclusion}
use Rattle.infer.proofs.ParamodulateLaws.{site}
use Rattle.infer.proofs.PathLaws.{reached}
use Rattle.infer.proofs.paramodulation.+add_inside.Given as goal

abbrev pub decreases-add_inside : goal.decreases-add_inside
decreases-add_inside l = depth l.form.now

abbrev pub invariant-loop-at : goal.invariant-loop-at
invariant-loop-at l = record {
  argument : 0 < l.at;
  path : l.path.items ≡ l.fn.path.items;
  adds : (clauses : List Literals) → nth clauses l.equality.source.number ≡ Some l.equality.source.clause.now
      → nth clauses l.target.number ≡ Some l.target.clause.now
      → Adds clauses
      (map (λ (more : List ℕ). site l.equality.source.number l.equality.source.literal l.equality.flipped l.target.number l.target.literal
      (l.fn.path.items ++ more)) (reached l.parts l.at)) l.fn.found l.found;
  plain : IsPlain l.equality.source.clause.now → IsPlain l.target.clause.now → Each IsPlainConclusion l.fn.found → Each IsPlainConclusion l.found;
}
