use Rattle.std.proofs.Common.{sym, subst}
use Rattle.diagnose.specs.Diagnostics.{AreAscending, AreDiagnostics}
use Rattle.diagnose.specs.Merged.{ArePlaced}
use Rattle.diagnose.proofs.MergeLaws.{diagnostics_placed}
use Rattle.sigma_app.proofs.TranslationLaws.{left_out_placed, all_listed_ok}
use Rattle.sigma_app.proofs.check.all_diagnostics.Goals as goal

pub merge-requires-clause-second_ascends : goal.merge-requires-clause-second_ascends
merge-requires-clause-second_ascends c =
    subst (AreAscending c.args.forms.now) (sym c.items.ensures) (left_out_placed c.args.forms.now c.args.translated.now c.requires.translated).0

pub merge-requires-clause-first_placed : goal.merge-requires-clause-first_placed
merge-requires-clause-first_placed c =
    subst (ArePlaced c.args.forms.now) (sym c.as_slice.ensures.value) (diagnostics_placed c.args.forms.now c.in_ok-list.list.items c.requires.places c.in_ok-list.ensures)

pub merge-requires-clause-second_placed : goal.merge-requires-clause-second_placed
merge-requires-clause-second_placed c =
    subst (ArePlaced c.args.forms.now) (sym c.items.ensures) (left_out_placed c.args.forms.now c.args.translated.now c.requires.translated).1

pub returns : goal.returns
returns c =
    all_listed_ok c.args.forms.now c.args.translated.now c.as_slice.result.now c.items.result.now
    (subst (AreDiagnostics c.args.forms.now) (sym c.as_slice.ensures.value) c.in_ok-list.ensures) c.items.ensures c.merge.result c.merge.ensures
