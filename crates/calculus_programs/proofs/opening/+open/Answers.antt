use Rattle.std.proofs.Common.{◌≡◌, ℕ, ◌-◌, ◌<◌, List, length, get_or, take, drop, None, Some, sym, ap, ◌∙◌, arith}
use Rattle.kif_tree.specs.declared.form.Form.TheVariants as form
use Rattle.calculus.specs.Rules.{opened}
use Rattle.calculus_programs.proofs.OpenLaws.{absent, first_number, opened_outside, opened_no_inside, opened_some}
use Rattle.calculus_programs.proofs.opening.+open.Goals as goal

abbrev rest_of : List ℕ → List ℕ
rest_of path = take (length path - 1) (drop 1 path)

above_zero : (n : ℕ) → (n ≡ 0 → ⊥) → 0 < n
above_zero n h = omega (arith, h)

pub returns-then-at-parts : goal.returns-then-at-parts
returns-then-at-parts t c =
    let path = c.args.path.now in
    let parts = c.items-parts.result.now in
    let is : c.args.form.now ≡ form.List parts = c.in-List.is ∙ ap form.List (sym c.items-parts.ensures) in
    sym (opened_outside path (rest_of path) (get_or path 0 0) c.args.form.now parts (first_number path c.in-len1-up.len_at_least) is c.if-at-parts.true)

pub returns-in_default-2 : goal.returns-in_default-2
returns-in_default-2 t c =
    let path = c.args.path.now in
    let parts = c.items-parts.result.now in
    let is : c.args.form.now ≡ form.List parts = c.in-List.is ∙ ap form.List (sym c.items-parts.ensures) in
    let none : opened (rest_of path) c.index-parts-at.result ≡ None =
    sym c.in_ok-inside.ensures ∙ absent c.in_ok-inside.field-0 c.in_default-2.not-Some in
    sym (opened_no_inside path (rest_of path) (get_or path 0 0) c.args.form.now parts c.index-parts-at.result (first_number path c.in-len1-up.len_at_least) is
    (above_zero (get_or path 0 0) c.if-at-eq0.false) (omega (arith, c.if-at-parts.false)) c.index-parts-at.is none)

pub returns : goal.returns
returns t c =
    let path = c.args.path.now in
    let parts = c.items-parts.result.now in
    let is : c.args.form.now ≡ form.List parts = c.in-List.is ∙ ap form.List (sym c.items-parts.ensures) in
    let some : opened (rest_of path) c.index-parts-at.result ≡ Some c.in-Some.inside =
    sym c.in_ok-inside.ensures ∙ c.in-Some.is in
    ap Some c.in_ok-put_around.ensures
    ∙ sym (opened_some path (rest_of path) (get_or path 0 0) c.args.form.now parts c.in_ok-frame.frame c.index-parts-at.result c.in-Some.inside (first_number path c.in-len1-up.len_at_least) is
    (c.in_ok-frame.ensures c.index-parts-at.result c.index-parts-at.is) some)
