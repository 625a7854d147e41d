use Rattle.std.proofs.Common.{◌≡◌, arith, rules}
use Rattle.std.proofs.lemmas.List.{same_lists}
use Rattle.calculus_programs.proofs.tidying.same_clauses.Goals as goal

pub returns : goal.returns
returns c =
    let same : c.args.first.now ≡ c.args.second.now = same_lists _ _ (omega arith) (λ k d lt. c.loop-at.invariant k d (omega arith)) in
    (λ _. same, λ _. search rules)
