use Rattle.std.proofs.Common.{◌≡◌, ℕ, ◌+◌, ◌-◌, List, [], ◌∷◌, ◌++◌, map, take, drop, length, get_or, sym, ap, ◌∙◌, arith}
use Rattle.sigma_base.proofs.SliceLaws.{to_the_end}
use Rattle.kif_tree.specs.declared.form.Form.TheVariants as form
use Rattle.kif_tree.specs.Subst.{bind, lookup}
use Rattle.calculus_programs.proofs.OpenLaws.{first_number}
use Rattle.infer.proofs.ExchangeLaws.{exchanged_in, exchanged_outside}
use Rattle.infer.proofs.paramodulation.+exchange.Goals as goal

abbrev rest_of : List ℕ → List ℕ
rest_of path = take (length path - 1) (drop 1 path)

pub returns-then-at-parts : goal.returns-then-at-parts
returns-then-at-parts t c = λ place there.
    let path = c.args.path.now in
    let parts = c.items-parts.result.now in
    let is : c.args.form.now ≡ form.List parts = c.in-List.is ∙ ap form.List (sym c.items-parts.ensures) in
    absurd (exchanged_outside path (rest_of path) (get_or path 0 0) c.args.form.now parts place
    (first_number path c.in-len1-up.len_at_least) is c.if-at-parts.true there)

pub returns : goal.returns
returns t c = λ place there.
    let path = c.args.path.now in
    let parts = c.items-parts.result.now in
    let k = get_or path 0 0 in
    let g = lookup c.args.subst.now.pairs in
    let is : c.args.form.now ≡ form.List parts = c.in-List.is ∙ ap form.List (sym c.items-parts.ensures) in
    let end = to_the_end parts (k + 1) in
    let whole = exchanged_in g path (rest_of path) k c.args.form.now parts place c.index-parts-at.result c.in_ok-exchange.field-0 c.args.other
    (first_number path c.in-len1-up.len_at_least) is (omega (arith, c.if-at-parts.false)) c.index-parts-at.is there c.in_ok-exchange.ensures in
    let out : c.append_substituted-2.new.out ≡ (map (bind g) (take k parts) ++ c.in_ok-exchange.field-0 ∷ []) ++ map (bind g) (drop (k + 1) parts) =
    grind (arith, end, c.new-filled.ensures, c.in_ok-append_substituted.ensures, c.in_ok-push.ensures.ok, c.in_ok-append_substituted-2.ensures) in
    ap form.List out ∙ whole
