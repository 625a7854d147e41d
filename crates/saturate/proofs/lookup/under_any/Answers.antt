use Rattle.std.proofs.Common.{◌≡◌, true, false, refl, sym, ◌∙◌}
use Rattle.saturate.specs.declared.fingerprint.Fingerprint.{Fingerprint}
use Rattle.saturate.specs.Indexes.{listed}
use Rattle.saturate.specs.Runs.{clauses}
use Rattle.saturate.proofs.LookupLaws.{any_at, none_yet}
use Rattle.saturate.proofs.lookup.under_any.Goals as goal

abbrev past : Fingerprint
past = record { positive = false; parts = 0; head = 0; first = 0; second = 0 }

pub returns-then-branch : goal.returns-then-branch
returns-then-branch c = (
  λ _. any_at (listed c.args.state.now.listed) (clauses c.args.state.now.reached) c.args.clause.now c.args.looked_up.now c.loop-print.print-index past c.loop-print-test.true
      (c.in_ok-under_head.ensures.0 c.if-branch.true),
  λ _. refl,
)

pub loop-print-preserved : goal.loop-print-preserved
loop-print-preserved c =
    none_yet (listed c.args.state.now.listed) (clauses c.args.state.now.reached) c.args.clause.now c.args.looked_up.now c.loop-print.print-index past c.loop-print-test.true c.loop-print.invariant
    (λ h. let no_way : true ≡ false = sym (c.in_ok-under_head.ensures.1 h) ∙ c.if-branch.false in absurd (cc))
