use Rattle.std.proofs.Common.{◌≡◌, ◌-◌, List, ◌∷◌, true, false, take, drop, length, arith, sym}
use Rattle.sigma_base.proofs.SliceLaws.{two_items}
use Rattle.kif_tree.specs.declared.form.Form.{Form}
use Rattle.kif_tree.specs.Shape.{as_part, is_misshapen, is_quantifier}
use Rattle.kif_tree.proofs.ShapeLaws.{walked_leaf, walked_misshapen, walked_list, walked_quantifier, walked_next, walked_end}
use Rattle.kif_tree.proofs.shape.+walk.Goals as goal

pub walk-returns-in_default : goal.walk-returns-in_default
walk-returns-in_default t c = let leaf = walked_leaf c.args.start c.args.form.now c.in_default.not-List in grind (arith, leaf)

pub walk-returns-then-is_misshapen : goal.walk-returns-then-is_misshapen
walk-returns-then-is_misshapen t c =
    let bad : is_misshapen c.in-List.parts ≡ true = grind arith in
    sym (walked_misshapen c.args.start c.args.form.now c.in-List.parts c.in-List.is bad (omega arith))

pub walk-returns-in_err-next : goal.walk-returns-in_err-next
walk-returns-in_err-next t c =
    let good : is_misshapen c.in-List.parts ≡ false = grind arith in
    let whole = walked_list c.args.start c.args.form.now c.in-List.parts c.in-List.is good in
    grind (arith, whole)

pub walk-returns : goal.walk-returns
walk-returns t c =
    let good : is_misshapen c.in-List.parts ≡ false = grind arith in
    let whole = walked_list c.args.start c.args.form.now c.in-List.parts c.in-List.is good in
    grind (arith, whole)

pub walk_all-loop-part-preserved : goal.walk_all-loop-part-preserved
walk_all-loop-part-preserved t c =
    let next = walked_next as_part c.args.parts.now c.loop-part.part-index c.part-item.result c.loop-part.next c.loop-part-test.true c.part-item.is in
    grind (arith, next)

pub walk_all-returns : goal.walk_all-returns
walk_all-returns t c =
    let end = walked_end as_part c.args.parts.now c.loop-part.part-index c.loop-part.next c.loop-part-test.false c.loop-part.invariant.fits in
    grind (arith, end)

pub walk_tested-returns-in_err-next : goal.walk_tested-returns-in_err-next
walk_tested-returns-in_err-next t c =
    let rest : List Form = take (length c.args.parts.now - 2) (drop 2 c.args.parts.now) in
    let parts : c.args.parts.now ≡ c.head-item.result ∷ c.names-item.result ∷ rest = two_items c.args.parts.now c.head-item.result c.names-item.result c.in-len2-up.len_at_least c.head-item.is c.names-item.is in
    let binds : is_quantifier c.head-item.result ≡ true = grind arith in
    let after = walked_quantifier c.args.start c.head-item.result c.names-item.result rest binds in
    grind (arith, parts, after)

pub walk_tested-returns-then-is_quantifier : goal.walk_tested-returns-then-is_quantifier
walk_tested-returns-then-is_quantifier t c =
    let rest : List Form = take (length c.args.parts.now - 2) (drop 2 c.args.parts.now) in
    let parts : c.args.parts.now ≡ c.head-item.result ∷ c.names-item.result ∷ rest = two_items c.args.parts.now c.head-item.result c.names-item.result c.in-len2-up.len_at_least c.head-item.is c.names-item.is in
    let binds : is_quantifier c.head-item.result ≡ true = grind arith in
    let after = walked_quantifier c.args.start c.head-item.result c.names-item.result rest binds in
    grind (arith, parts, after)
