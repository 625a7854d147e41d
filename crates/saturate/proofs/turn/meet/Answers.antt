use Rattle.std.proofs.Common.{[], nat_eq, refl}
use Rattle.saturate.proofs.turn.meet.Goals as goal

pub returns-then-not-may_meet-clause-meets : goal.returns-then-not-may_meet-clause-meets
returns-then-not-may_meet-clause-meets c = record {
  list = [];
  are = c.may_meet.ensures c.if-not-may_meet.true (nat_eq c.args.given c.args.partner);
  plain = tt;
  come = (refl, refl);
}
