use Rattle.diagnose.proofs.ConditionLaws.{some_place}
use Rattle.diagnose.proofs.merged_tests.is_form_place.Goals as goal

pub returns-in-Some : goal.returns-in-Some
returns-in-Some c = some_place c.args.forms.now c.args.place c.in-Some.place c.has_place.result c.in-Some.is c.has_place.ensures
