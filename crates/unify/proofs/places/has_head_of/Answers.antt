use Rattle.std.proofs.Common.{map, sym, ap, ◌∙◌}
use Rattle.kif_tree.specs.Subst.{bind}
use Rattle.calculus.proofs.RenamingLaws.{list_same}
use Rattle.unify.proofs.PlaceLaws.{list_bound}
use Rattle.unify.proofs.places.has_head_of.Goals as goal

pub returns-in_default-target : goal.returns-in_default-target
returns-in_default-target c _ g e =
    c.in_default-target.not-List (map (bind g) c.in-List.parts) (list_bound g c.args.pattern.now c.args.target.now c.in-List.parts c.in-List.is e)

pub returns : goal.returns
returns c refused g e =
    let list = list_bound g c.args.pattern.now c.args.target.now c.in-List.parts c.in-List.is e in
    let same = list_same (map (bind g) c.in-List.parts) c.in-List-target.others (sym list ∙ c.in-List-target.is) in
    c.begins_as.ensures refused g (ap (map (bind g)) c.items.ensures ∙ same ∙ sym c.items-2.ensures)
