use Rattle.std.proofs.Common.{List, Option, sym, subst, ◌∙◌}
use Rattle.sigma_base.specs.Lists.{Each}
use Rattle.calculus_programs.proofs.PickLaws.{ok_map}
use Rattle.infer.specs.declared.conclusion.Conclusion.{Conclusion}
use Rattle.infer.specs.Conclusions.{clause_at, AreFactors}
use Rattle.infer.specs.Plain.{IsPlainConclusion}
use Rattle.saturate.specs.declared.ended.Ended.{Ended}
use Rattle.saturate.specs.Runs.{clauses}
use Rattle.saturate.proofs.SiteLaws.{none_factored, factored_there, plain_at}
use Rattle.saturate.proofs.turn.factor.Goals as goal
use Rattle.saturate.proofs.turn.factor.Goals.{in-Some+in_ok-list-in-Some, in-None}

pub returns-clause-factors : goal.returns-clause-factors
returns-clause-factors c =
    let all = clauses c.args.state.now.reached in
    let list : List Conclusion = c.match-clause.list in
    let are : AreFactors (clause_at all c.args.given) list = elim c.match-clause.branch [
      | in-Some+in_ok-list-in-Some w ↦
          factored_there all c.args.given w.in-Some.clause.now list w.in_ok-list-in-Some.list (sym w.in-Some.ensures) w.list-is w.in_ok-list-in-Some.ensures.all
      | in-None w ↦ none_factored all c.args.given list (sym w.in-None.ensures) (w.list-is ∙ w.new-list.ensures)
    ] in
    let plain : Each IsPlainConclusion list = elim c.match-clause.branch [
      | in-Some+in_ok-list-in-Some w ↦
          subst (λ (found : List Conclusion). Each IsPlainConclusion found) (sym w.list-is)
          (w.in_ok-list-in-Some.ensures.plain (plain_at all c.args.given w.in-Some.clause.now (sym w.in-Some.ensures) c.requires.plain))
      | in-None w ↦ subst (λ (found : List Conclusion). Each IsPlainConclusion found) (sym (w.list-is ∙ w.new-list.ensures)) tt
    ] in
    ok_map c.come.result _ _ (λ (end : Option Ended) come. record { list = list; are = are; plain = plain; come = come }) c.come.ensures.come
