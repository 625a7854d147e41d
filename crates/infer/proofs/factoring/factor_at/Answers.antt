use Rattle.std.proofs.Common.{◌≡◌, arith, ap, subst, sym, ◌∙◌}
use Rattle.kif_tree.specs.Subst.{lookup}
use Rattle.kif_tree.specs.Clauses.{bind_clause}
use Rattle.calculus.specs.Tidy.{tidy}
use Rattle.calculus_programs.proofs.PickLaws.{apart}
use Rattle.calculus_programs.proofs.StepLaws.{option_none, option_some}
use Rattle.infer.specs.Plain.{IsPlain}
use Rattle.infer.proofs.PlainClauseLaws.{plain-atom, plain-others, plain-bind_clause, plain-tidy}
use Rattle.infer.proofs.FactorLaws.{factor_signs, factor_kept_answer, factor_dropped_answer, factor_none, factor_some}
use Rattle.infer.proofs.factoring.factor_at.Goals as goal

pub returns-then-first-second-clause-at : goal.returns-then-first-second-clause-at
returns-then-first-second-clause-at c =
    factor_signs c.args.given.now c.args.kept c.args.dropped c.index-all-kept.result c.index-all-dropped.result
    c.requires.there c.requires.order (grind arith) (grind arith) (λ e. grind arith)

pub returns-then-is_answer-clause-at : goal.returns-then-is_answer-clause-at
returns-then-is_answer-clause-at c =
    factor_kept_answer c.args.given.now c.args.kept c.args.dropped c.index-all-kept.result c.index-all-dropped.result
    c.requires.there c.requires.order (grind arith) (grind arith) (grind arith)

pub returns-then-is_answer-2-clause-at : goal.returns-then-is_answer-2-clause-at
returns-then-is_answer-2-clause-at c =
    factor_dropped_answer c.args.given.now c.args.kept c.args.dropped c.index-all-kept.result c.index-all-dropped.result
    c.requires.there c.requires.order (grind arith) (grind arith) (grind arith)

pub returns-in_default-clause-at : goal.returns-in_default-clause-at
returns-in_default-clause-at c =
    factor_none c.args.given.now c.args.kept c.args.dropped c.index-all-kept.result c.index-all-dropped.result
    c.requires.there c.requires.order (grind arith) (grind arith)
    (option_none c.in_ok-subst.field-0 _ _ c.in_ok-subst.ensures.general c.in_default.not-Some)

-- what is left of the clause
made_is : (c : goal.In_ok-clause) → c.in_ok-clause.clause ≡ tidy (bind_clause (lookup c.in-Some.subst.pairs) (apart c.args.given.now c.args.dropped))
made_is c = c.in_ok-clause.ensures ∙ ap tidy (grind (arith, c.new-literals.ensures, c.in_ok-append_others.ensures))

pub returns-clause-at : goal.returns-clause-at
returns-clause-at c =
    factor_some c.args.given.now c.args.kept c.args.dropped c.index-all-kept.result c.index-all-dropped.result
    c.requires.there c.requires.order (grind arith) (grind arith) c.in-Some.subst c.in_ok-clause.clause (grind arith) (grind arith) (grind arith)
    (option_some c.in_ok-subst.field-0 _ _ c.in-Some.subst c.in_ok-subst.ensures.general c.in-Some.is)
    (made_is c)

pub returns-clause-plain : goal.returns-clause-plain
returns-clause-plain c = λ plain.
    let kept = plain-atom c.args.given.now c.args.kept c.index-all-kept.result (omega arith) (grind arith) plain in
    let dropped = plain-atom c.args.given.now c.args.dropped c.index-all-dropped.result (omega arith) (grind arith) plain in
    let pairs = option_some c.in_ok-subst.field-0 _ _ c.in-Some.subst (c.in_ok-subst.ensures.plain kept dropped) c.in-Some.is in
    let others = plain-others c.args.dropped c.args.given.now plain in
    record {
      clause = subst IsPlain (sym (made_is c)) (plain-tidy _ (plain-bind_clause c.in-Some.subst.pairs _ pairs others));
      step = pairs;
    }
