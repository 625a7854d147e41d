use Rattle.std.proofs.Common.{◌≡◌, Bool, true, ◌↔◌, sym, subst, ap, ◌∙◌, arith}
use Rattle.std.specs.Bool.{IsTrue}
use Rattle.calculus.specs.Closed.{ground_clause}
use Rattle.calculus.specs.Equality.{IsEqualityInstance}
use Rattle.calculus_programs.specs.Shapes.{shape_test}
use Rattle.calculus_programs.proofs.PickLaws.{ok_map}
use Rattle.calculus_programs.proofs.ShapesLaws.{equality_by_tests}
use Rattle.calculus_programs.proofs.equality.is_equality_instance.Goals as goal

pub returns : goal.returns
returns c =
    let clause = c.args.clause.now in
    let closed : ground_clause clause ≡ true = grind arith in
    let whole : c.items-2.result.now ≡ clause = grind arith in
    ok_map c.has_shape.result _ _ (λ b h. subst (λ (t : Bool). IsTrue t ↔ IsEqualityInstance clause) (sym (h ∙ ap shape_test whole)) (equality_by_tests clause closed)) c.has_shape.ensures
