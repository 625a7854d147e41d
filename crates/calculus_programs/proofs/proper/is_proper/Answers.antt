use Rattle.std.proofs.Common.{arith, ◌≡◌, Bool, ◌&&◌, ◌↔◌, not, subst, ap₂, ◌∙◌}
use Rattle.std.specs.Bool.{IsTrue}
use Rattle.std.specs.List.{list_all, list_any}
use Rattle.kif_tree.specs.Clauses.{is_answer}
use Rattle.calculus.specs.Proper.{IsProper}
use Rattle.calculus_programs.specs.Shape.{fits}
use Rattle.calculus_programs.proofs.ShapeLaws.{proper_by_tests}
use Rattle.calculus_programs.proofs.proper.is_proper.Goals as goal

pub returns-then-asserting : goal.returns-then-asserting
returns-then-asserting c =
    let clause = c.args.clause.now in
    let asserting : list_any (λ literal. not (is_answer literal.atom)) clause ≡ c.asserts-asserting.result = grind (arith, c.asserts-asserting.ensures) in
    let fitting : list_all (λ literal. fits literal.atom) clause ≡ c.all_fit-fitting.result = grind (arith, c.all_fit-fitting.ensures) in
    let tests = ap₂ ◌&&◌ (ap₂ ◌&&◌ c.if-asserting.true.0 (asserting ∙ c.if-asserting.true.1)) fitting in
    subst (λ (b : Bool). IsTrue b ↔ IsProper clause) tests (proper_by_tests c.in_ok-tidy.tidy clause c.in_ok-tidy.ensures)
