use Rattle.std.proofs.Common.{map, arith}
use Rattle.sigma_base.specs.Lists.{map_twice}
use Rattle.kif_tree.specs.declared.place.Located.{Located}
use Rattle.kif_tree.specs.Shape.{as_top}
use Rattle.kif_tree.proofs.ShapeLaws.{forms_told}
use Rattle.kif_tree.proofs.shape.first_fault_in.Goals as goal

pub returns : goal.returns
returns c =
    let told = forms_told (map (λ (located : Located). located.form) c.args.forms.now) in
    let twice = map_twice (λ (located : Located). located.form) as_top c.args.forms.now in
    grind (arith, told, twice)
