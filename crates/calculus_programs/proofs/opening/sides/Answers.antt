use Rattle.std.proofs.Common.{sym, ap, ◌∙◌, arith}
use Rattle.kif_tree.specs.declared.form.Form.TheVariants as form
use Rattle.calculus_programs.proofs.OpenLaws.{sides_unheaded, sides_some}
use Rattle.calculus_programs.proofs.opening.sides.Goals as goal

pub returns-then-not-is_headed : goal.returns-then-not-is_headed
returns-then-not-is_headed c =
    sym (sides_unheaded c.args.atom.now c.in-List.parts c.in-List.is (grind (arith, c.is_headed.ensures, c.if-not-is_headed.ensures)))

pub returns : goal.returns
returns c =
    let is = c.in-List.is ∙ ap form.List (sym c.items-parts.ensures) in
    let some = sides_some c.args.atom.now c.items-parts.result.now c.index-parts-1.result c.index-parts-2.result is (omega arith) c.index-parts-1.is c.index-parts-2.is
    (grind (arith, c.is_headed.ensures, c.if-not-is_headed.ensures)) in
    grind (arith, some, c.in_ok-left.ensures, c.in_ok-right.ensures)
