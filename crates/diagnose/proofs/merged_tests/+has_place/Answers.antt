use Rattle.std.proofs.Common.{◌≡◌, rules}
use Rattle.std.proofs.lemmas.Bool.{OnTrue_from}
use Rattle.diagnose.specs.SoFar.{HasPlace}
use Rattle.diagnose.proofs.ConditionLaws.{place_first, place_later}
use Rattle.diagnose.proofs.merged_tests.+has_place.Goals as goal

pub returns-then-eq : goal.returns-then-eq
returns-then-eq t c =
    let at : c.first-item.result.place ≡ c.args.place = search rules in
    OnTrue_from c.eq.result (HasPlace c.args.forms.now c.args.place) (λ h. place_first c.args.forms.now c.first-item.result c.in-len1-up.len_at_least c.first-item.is c.args.place at)

pub returns-else-eq : goal.returns-else-eq
returns-else-eq t c = place_later c.args.forms.now c.first-item.result c.in-len1-up.len_at_least c.first-item.is c.args.place c.has_place.result c.has_place.ensures
