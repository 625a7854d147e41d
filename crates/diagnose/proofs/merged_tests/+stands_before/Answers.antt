use Rattle.std.proofs.Common.{◌≡◌, rules}
use Rattle.diagnose.proofs.ConditionLaws.{stands_first, stands_later}
use Rattle.diagnose.proofs.merged_tests.+stands_before.Goals as goal

pub returns-then-eq : goal.returns-then-eq
returns-then-eq t c =
    let at : c.one-item.result.place ≡ c.args.first = search rules in
    stands_first c.args.forms.now c.one-item.result c.in-len1-up.len_at_least c.one-item.is c.args.first c.args.second c.has_place.result at c.has_place.ensures

pub returns : goal.returns
returns t c = stands_later c.args.forms.now c.one-item.result c.in-len1-up.len_at_least c.one-item.is c.args.first c.args.second c.stands_before.result c.stands_before.ensures
