use Rattle.std.proofs.Common.{◌∙◌, rules, sym, [], Bor, List, ℕ}
use Rattle.sigma_app.proofs.RepeatLaws.{left_all, left_after, was_new}
use Rattle.sigma_app.proofs.refusals.stand_twice.Goals as goal

pub loop-path-init : goal.loop-path-init
loop-path-init c = left_all c.new-seen.result c.args.paths.now (λ q. search rules)

pub loop-path-preserved : goal.loop-path-preserved
loop-path-preserved c =
    let i = c.loop-path.path-index in
    let d : Bor (List ℕ) = record { ref_ptr = (0, 0); now = [] } in
    c.loop-path.invariant ∙ left_after c.loop-path.seen c.insert.new.self c.args.paths.now i d c.loop-path-test.true
    (was_new _ (sym c.in_ok-insert.ensures.added ∙ c.if-not-branch.false)) c.in_ok-insert.ensures.updates
