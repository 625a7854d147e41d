use Rattle.std.proofs.Common.{◌≡◌, ◌+◌, ◌++◌, ◌∷◌, [], None, ap, ◌∙◌, arith}
use Rattle.kif_tree.specs.declared.clause.InputClause.{InputClause}
use Rattle.kif_tree.specs.Clauses.{Literals}
use Rattle.saturate.proofs.InputLaws.{numbered_more}
use Rattle.saturate.proofs.inputs.append_query.Goals as goal

pub loop-clause-preserved : goal.loop-clause-preserved
loop-clause-preserved c =
    let next : c.loop-clause.variant + 1 ≡ c.loop-clause.clause-index + 1 = omega arith in
    record {
      counted = next;
      numbered = numbered_more c.args.query.now c.loop-clause.clause-index c.clause-item.result c.loop-clause.more c.push.new.self
          (c.loop-clause.variant + 1) c.args.more.now c.loop-clause-test.true c.clause-item.is next c.loop-clause.invariant.numbered
          (c.in_ok-push.ensures.ok ∙ ap (λ (clause : Literals). let input : InputClause = record { clause = clause; place = None; variant = c.loop-clause.variant + 1 } in c.loop-clause.more ++ input ∷ []) c.in_ok-copy.ensures);
    }
