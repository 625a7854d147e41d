use Rattle.std.proofs.Common.{List, sym, subst, ◌∙◌}
use Rattle.std.specs.Prelude.{Contains, ◌↔◌}
use Rattle.kif_tree.specs.declared.place.Located.{Located}
use Rattle.kif_tree.specs.Places.{PlacesDiffer}
use Rattle.diagnose.specs.declared.diagnostic.Diagnostic.{Diagnostic}
use Rattle.diagnose.specs.SoFar.{AreTables, IsAt}
use Rattle.diagnose.proofs.WholeLaws.{shown_form, one_more, more_known}
use Rattle.diagnose.proofs.list.add_form.Goals as goal

pub returns-then-is_shown : goal.returns-then-is_shown
returns-then-is_shown c = λ before after stand differ tables so_far.
    shown_form c.args.forms.now before c.args.located.now after c.args.seen.now c.args.list.now.items stand differ (sym c.is_shown.ensures ∙ c.if-is_shown.true) so_far

pub returns : goal.returns
returns c = λ before after stand differ tables so_far.
    let shown = sym c.is_shown.ensures ∙ c.if-is_shown.false in
    let are : (d : Diagnostic) → Contains c.in_ok-found.found.items d ↔ IsAt c.args.forms.now c.args.located.now d =
    subst (λ (fs : List Located). PlacesDiffer fs → AreTables fs c.args.taxonomy.now c.args.signatures.now c.args.tables.now → (d : Diagnostic) → Contains c.in_ok-found.found.items d ↔ IsAt fs c.args.located.now d) (sym stand)
    (λ differ tables. c.in_ok-found.ensures.found before after differ shown tables so_far.words) differ tables in
    one_more c.args.forms.now before c.args.located.now after c.args.seen.now c.found_at.new.seen c.in_ok-found.found.items c.args.list.now.items c.append_ordered.new.list.items stand differ shown so_far
    (c.in_ok-found.ensures.words before so_far.words shown) are (c.in_ok-append_ordered.ensures tables.positions (more_known c.args.forms.now c.args.located.now c.in_ok-found.found.items are))
