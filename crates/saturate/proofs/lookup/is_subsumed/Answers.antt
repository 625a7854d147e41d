use Rattle.std.proofs.Common.{◌≡◌, true, false, refl, sym, ◌∙◌}
use Rattle.saturate.specs.Runs.{clauses}
use Rattle.saturate.proofs.SubsumedLaws.{subsumed_at, not_yet, unless_one}
use Rattle.saturate.proofs.lookup.is_subsumed.Goals as goal
use Rattle.saturate.proofs.lookup.is_subsumed.Goals.{else-may_subsume-via-then-may_subsume+in_ok-subsumes_at+else-branch, else-may_subsume-via-else-may_subsume}

pub returns-then-branch : goal.returns-then-branch
returns-then-branch c = (
  λ _. subsumed_at (clauses c.args.state.now.reached) c.args.clause.now c.args.numbers.now c.loop-number.number-index c.loop-number-test.true
      (c.in_ok-subsumes_at.ensures.0 c.if-branch.true),
  λ _. refl,
)

pub loop-number-preserved : goal.loop-number-preserved
loop-number-preserved c =
    let all = clauses c.args.state.now.reached in
    not_yet all c.args.clause.now c.args.numbers.now c.loop-number.number-index c.loop-number-test.true c.loop-number.invariant
    (elim c.else-may_subsume.branch [
      | else-may_subsume-via-then-may_subsume+in_ok-subsumes_at+else-branch w ↦ λ s.
          let no_way : true ≡ false = sym (w.in_ok-subsumes_at.ensures.1 s) ∙ w.if-branch.false in
          absurd (cc)
      | else-may_subsume-via-else-may_subsume w ↦
          unless_one all c.args.clause.now _
          (λ general at subsumes. c.may_subsume.ensures w.if-may_subsume.false general c.args.clause.now at c.requires.prints subsumes)
    ])
