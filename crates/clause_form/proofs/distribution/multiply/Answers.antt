use Rattle.std.proofs.Common.{◌≡◌, List, [], ◌∷◌, IfOk, sym, ap, ◌∙◌, subst, arith}
use Rattle.std.proofs.lemmas.Grind.{common_steps}
use Rattle.kif_tree.specs.Clauses.{Literals}
use Rattle.clause_form.specs.Matrices.{products}
use Rattle.clause_form.proofs.ProductLaws.{products_unit, products_by_one}
use Rattle.clause_form.proofs.distribution.multiply.Goals as goal

pub returns-then-is_empty_clause : goal.returns-then-is_empty_clause
returns-then-is_empty_clause c =
    let empty : c.args.clauses ≡ [] ∷ [] = sym c.items.ensures ∙ c.is_empty_clause.ensures c.if-is_empty_clause.true in
    sym (ap (λ (clauses : List Literals). products (clauses ∷ c.args.others ∷ [])) empty ∙ products_unit c.args.others)

pub returns-in-len1 : goal.returns-in-len1
returns-in-len1 c =
    let one : c.args.others ≡ c.replace-literals.result ∷ [] = grind (arith, common_steps) in
    subst (λ (list : List Literals). IfOk c.with_literals.result (λ products. products ≡ list))
    (sym (ap (λ (others : List Literals). products (c.args.clauses ∷ others ∷ [])) one ∙ products_by_one c.args.clauses c.replace-literals.result))
    c.with_literals.ensures
