use Rattle.std.proofs.Common.{nat_eq, sym}
use Rattle.calculus_programs.proofs.PickLaws.{ok_map}
use Rattle.saturate.specs.Runs.{clauses}
use Rattle.saturate.proofs.SiteLaws.{none_given, none_met, plain_at}
use Rattle.saturate.proofs.turn.concluded.Goals as goal

pub returns-in_default-clause-all : goal.returns-in_default-clause-all
returns-in_default-clause-all c =
    none_given (clauses c.args.reached.now) c.args.given c.args.partner (nat_eq c.args.given c.args.partner) c.new.result (sym c.in_default.ensures) c.new.ensures

pub returns-in_default-clause-clause-all : goal.returns-in_default-clause-clause-all
returns-in_default-clause-clause-all c =
    none_met (clauses c.args.reached.now) c.args.given c.args.partner (nat_eq c.args.given c.args.partner) c.new-in_default-clause.result
    (sym c.in_default-clause.ensures) c.new-in_default-clause.ensures

pub returns-clause-plain : goal.returns-clause-plain
returns-clause-plain c =
    let all = clauses c.args.reached.now in
    ok_map c.conclusions.result _ _
    (λ list plain. plain (plain_at all c.args.given c.in-Some.given_clause.now (sym c.in-Some.ensures) c.requires)
    (plain_at all c.args.partner c.in-Some-clause.partner_clause.now (sym c.in-Some-clause.ensures) c.requires))
    c.conclusions.ensures.plain
