use Rattle.std.proofs.Common.{◌≡◌, rules}
use Rattle.std.specs.Cmp.Lexicographic.{slice_cmp}
use Rattle.std.specs.Ordering.{nat_cmp}
use Rattle.std.specs.declared.cmp.Ordering.TheVariants.{Equal}
use Rattle.std.proofs.lemmas.Map.Lookups.{exact_bytes}
use Rattle.diagnose.proofs.ConditionLaws.{by_other}
use Rattle.diagnose.proofs.merged_tests.comes_before.Goals as goal

pub returns-in-Equal : goal.returns-in-Equal
returns-in-Equal c =
    let places : c.args.first.now.place ≡ c.args.second.now.place = search rules in
    let codes : c.args.first.now.code ≡ c.args.second.now.code = search rules in
    let compared : slice_cmp nat_cmp c.args.first.now.term c.args.second.now.term ≡ Equal = search rules in
    by_other c.args.forms.now c.args.first.now c.args.second.now c.other_before.result places codes (exact_bytes c.args.first.now.term c.args.second.now.term compared) c.other_before.ensures
