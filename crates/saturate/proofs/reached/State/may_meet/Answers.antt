use Rattle.std.proofs.Common.{◌≡◌, false, sym, ap₂, ◌∙◌}
use Rattle.infer.specs.Conclusions.{clause_at}
use Rattle.saturate.specs.Marks.{marks, may_resolve_by, may_rewrite}
use Rattle.saturate.specs.Runs.{clauses}
use Rattle.saturate.proofs.RewriteLaws.{nothing_meets, nothing_shared}
use Rattle.saturate.proofs.StateLaws.{marks_listed}
use Rattle.saturate.proofs.reached.State.may_meet.Goals as goal

pub returns-then-may_resolve_by : goal.returns-then-may_resolve_by
returns-then-may_resolve_by c = λ fails.
    let all = clauses c.args.self.now.reached in
    let given = c.in-Some.ensures.lookup in
    let partner = c.in-Some-get.ensures.lookup in
    let own = marks_listed c.args.self.now c.items-marks.result.now c.args.given c.in-Some.own.now c.requires c.items-marks.ensures given.3.0 given.1 in
    let other = marks_listed c.args.self.now c.items-marks.result.now c.args.partner c.in-Some-get.other.now c.requires c.items-marks.ensures partner.3.0 partner.1 in
    let forth : may_rewrite (marks (clause_at all c.args.given)) (marks (clause_at all c.args.partner)) ≡ false =
    sym (ap₂ may_rewrite own other) ∙ sym c.may_rewrite.ensures ∙ c.if-may_rewrite.false in
    let back : may_rewrite (marks (clause_at all c.args.partner)) (marks (clause_at all c.args.given)) ≡ false =
    sym (ap₂ may_rewrite other own) ∙ sym c.may_rewrite-else-may_rewrite.ensures ∙ c.if-may_rewrite-2.false in
    nothing_meets (clause_at all c.args.given) (clause_at all c.args.partner) forth back (c.may_resolve.ensures fails)

pub returns-else-may_resolve_by : goal.returns-else-may_resolve_by
returns-else-may_resolve_by c = λ fails.
    let all = clauses c.args.self.now.reached in
    let given = c.in-Some.ensures.lookup in
    let partner = c.in-Some-get.ensures.lookup in
    let own = marks_listed c.args.self.now c.items-marks.result.now c.args.given c.in-Some.own.now c.requires c.items-marks.ensures given.3.0 given.1 in
    let other = marks_listed c.args.self.now c.items-marks.result.now c.args.partner c.in-Some-get.other.now c.requires c.items-marks.ensures partner.3.0 partner.1 in
    let forth : may_rewrite (marks (clause_at all c.args.given)) (marks (clause_at all c.args.partner)) ≡ false =
    sym (ap₂ may_rewrite own other) ∙ sym c.may_rewrite.ensures ∙ c.if-may_rewrite.false in
    let back : may_rewrite (marks (clause_at all c.args.partner)) (marks (clause_at all c.args.given)) ≡ false =
    sym (ap₂ may_rewrite other own) ∙ sym c.may_rewrite-else-may_rewrite.ensures ∙ c.if-may_rewrite-2.false in
    nothing_shared (clause_at all c.args.given) (clause_at all c.args.partner) forth back (sym (ap₂ may_resolve_by own other) ∙ sym c.may_resolve_by.ensures ∙ fails)
