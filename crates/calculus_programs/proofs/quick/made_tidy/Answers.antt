use Rattle.std.proofs.Common.{◌≡◌, subst, ◌∙◌}
use Rattle.std.proofs.lemmas.Result.{IfOk-weaker}
use Rattle.kif_tree.specs.Clauses.{Literals}
use Rattle.calculus.specs.Tidy.{without_repeats}
use Rattle.calculus_programs.proofs.QuickLaws.{tidy_renamed}
use Rattle.calculus_programs.proofs.quick.made_tidy.Goals as goal

pub returns : goal.returns
returns c =
    let is : c.items.result.now ≡ c.args.clause = c.items.ensures ∙ c.clause.view_is in
    let kept : without_repeats c.args.clause ≡ c.args.clause = subst (λ (ls : Literals). without_repeats ls ≡ ls) is (c.has_repeats.ensures c.if-has_repeats.false) in
    IfOk-weaker c.renamed.result _ _ (λ made h. tidy_renamed c.args.clause made kept h) c.renamed.ensures
