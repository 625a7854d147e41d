use Rattle.std.proofs.Common.{ℕ, List, length, drop, sym, ap, subst, ◌∙◌}
use Rattle.std.specs.Str.{bytes_eq}
use Rattle.kif_tree.specs.declared.form.Form.{Form}
use Rattle.taxonomy.specs.Told.{parts_a_whole}
use Rattle.taxonomy.specs.Forms.{IsDisjointForm}
use Rattle.taxonomy.proofs.FormLaws.{too_few, two_disjoint, two_other, many_disjoint, many_other}
use Rattle.taxonomy.proofs.forms.disjoint_in.Goals as goal

pub returns-then-parts-lt3 : goal.returns-then-parts-lt3
returns-then-parts-lt3 c = too_few c.args.located.now c.parts_of-parts.result.now c.parts_of-parts.ensures (sym c.if-not-are_words.false ∙ c.are_words.ensures) c.if-parts-lt3.true

pub returns-then-eq : goal.returns-then-eq
returns-then-eq c =
    subst (IsDisjointForm c.args.located.now) (sym c.split_at.ensures.back)
    (two_disjoint c.args.located.now c.parts_of-parts.result.now c.index-parts-0.result c.in_ok-head.head.now c.parts_of-parts.ensures (sym c.if-not-are_words.false ∙ c.are_words.ensures)
    c.index-parts-0.is c.in_ok-head.ensures (ap (λ (x : List Form). length x) (sym c.split_at.ensures.back) ∙ c.if-arguments-eq2.true)
    (ap (bytes_eq c.in_ok-head.head.now) (sym c.as_slice.ensures) ∙ ap (λ (x : List ℕ). bytes_eq x c.as_slice.result.now) (sym c.bytes.ensures) ∙ (sym c.eq.ensures ∙ c.if-eq.true)))

pub returns-then-arguments-eq2 : goal.returns-then-arguments-eq2
returns-then-arguments-eq2 c =
    two_other c.args.located.now c.parts_of-parts.result.now c.index-parts-0.result c.in_ok-head.head.now c.parts_of-parts.ensures (sym c.if-not-are_words.false ∙ c.are_words.ensures)
    c.index-parts-0.is c.in_ok-head.ensures (ap (λ (x : List Form). length x) (sym c.split_at.ensures.back) ∙ c.if-arguments-eq2.true)
    (ap (bytes_eq c.in_ok-head.head.now) (sym c.as_slice.ensures) ∙ ap (λ (x : List ℕ). bytes_eq x c.as_slice.result.now) (sym c.bytes.ensures) ∙ (sym c.eq.ensures ∙ c.if-eq.false))

pub returns-then-not-parts_a_whole : goal.returns-then-not-parts_a_whole
returns-then-not-parts_a_whole c =
    many_other c.args.located.now c.parts_of-parts.result.now c.index-parts-0.result c.in_ok-head.head.now c.parts_of-parts.ensures (sym c.if-not-are_words.false ∙ c.are_words.ensures)
    c.index-parts-0.is c.in_ok-head.ensures c.if-parts-lt3.false (λ two. c.if-arguments-eq2.false (ap (λ (x : List Form). length x) c.split_at.ensures.back ∙ two))
    (ap parts_a_whole (sym c.bytes-2.ensures) ∙ (sym c.parts_a_whole.ensures ∙ c.if-not-parts_a_whole.true))

pub returns : goal.returns
returns c =
    subst (IsDisjointForm c.args.located.now) (sym (c.split_at-2.ensures.back ∙ ap (λ (x : List Form). drop 1 x) c.split_at.ensures.back))
    (many_disjoint c.args.located.now c.parts_of-parts.result.now c.index-parts-0.result c.in_ok-head.head.now c.parts_of-parts.ensures (sym c.if-not-are_words.false ∙ c.are_words.ensures)
    c.index-parts-0.is c.in_ok-head.ensures c.if-parts-lt3.false (λ two. c.if-arguments-eq2.false (ap (λ (x : List Form). length x) c.split_at.ensures.back ∙ two))
    (ap parts_a_whole (sym c.bytes-2.ensures) ∙ (sym c.parts_a_whole.ensures ∙ c.if-not-parts_a_whole.false)))
