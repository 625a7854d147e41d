use Rattle.std.proofs.Common.{◌≡◌, List, [], ◌∷◌, IfOk, sym, ap, ◌∙◌, subst}
use Rattle.kif_tree.specs.Clauses.{Literals}
use Rattle.clause_form.specs.Matrices.{distribution, products}
use Rattle.clause_form.specs.MatrixLaws.{distribution-Literal}
use Rattle.clause_form.proofs.ProductLaws.{joined_more, products_more, products_by_one}
use Rattle.clause_form.proofs.distribution.+distribute.Goals as goal

pub distribute_each-loop-part-preserved : goal.distribute_each-loop-part-preserved
distribute_each-loop-part-preserved t c = let more = joined_more c.loop-part.yielded c.in-Some.part in cc (c.in_ok-distribute.ensures, c.in_ok-append.ensures.ok)

pub distribute_over-loop-part-preserved : goal.distribute_over-loop-part-preserved
distribute_over-loop-part-preserved t c = let more = products_more c.loop-part.yielded c.in-Some.part in cc c.in_ok-clauses-2.ensures

pub multiply_by-returns-in-Literal : goal.multiply_by-returns-in-Literal
multiply_by-returns-in-Literal t c =
    subst (λ (list : List Literals). IfOk c.with_literal.result (λ products. products ≡ list))
    (sym (ap (λ (others : List Literals). products (c.args.clauses ∷ others ∷ [])) (ap distribution c.in-Literal.is ∙ distribution-Literal c.in-Literal.literal) ∙ products_by_one c.args.clauses (c.in-Literal.literal ∷ [])))
    c.with_literal.ensures
