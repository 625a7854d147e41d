use Rattle.std.proofs.Common.{◌∷◌, [], refl, arith}
use Rattle.calculus.specs.declared.step.Step.{Step}
use Rattle.calculus_programs.proofs.StepLaws.{on_ok}
use Rattle.infer.specs.Plain.{IsPlainConclusion}
use Rattle.infer.specs.Sites.{resolution_sites, unset}
use Rattle.infer.proofs.ListLaws.{adds-nothing, adds-first, adds-second, each-added}
use Rattle.infer.proofs.ResolveLaws.{first_negative, first_positive, one_sign, first_answer, second_answer}
use Rattle.infer.proofs.resolution.add_resolution.Goals as goal

pub returns-then-first-second-clause-adds : goal.returns-then-first-second-clause-adds
returns-then-first-second-clause-adds c =
    adds-nothing (c.args.given.now ∷ c.args.partner.now ∷ []) (resolution_sites c.args.literal c.args.other) c.args.found.now
    (one_sign c.args.given.now c.args.partner.now c.args.literal c.args.other c.index-items-literal.result c.index-items-other.result
    c.requires.literal c.requires.other (grind arith) (grind arith) (grind arith))

pub returns-then-is_answer-clause-adds : goal.returns-then-is_answer-clause-adds
returns-then-is_answer-clause-adds c =
    adds-nothing (c.args.given.now ∷ c.args.partner.now ∷ []) (resolution_sites c.args.literal c.args.other) c.args.found.now
    (first_answer c.args.given.now c.args.partner.now c.args.literal c.args.other c.index-items-literal.result c.index-items-other.result
    c.requires.literal c.requires.other (grind arith) (grind arith) (grind arith))

pub returns-then-is_answer-2-clause-adds : goal.returns-then-is_answer-2-clause-adds
returns-then-is_answer-2-clause-adds c =
    adds-nothing (c.args.given.now ∷ c.args.partner.now ∷ []) (resolution_sites c.args.literal c.args.other) c.args.found.now
    (second_answer c.args.given.now c.args.partner.now c.args.literal c.args.other c.index-items-literal.result c.index-items-other.result
    c.requires.literal c.requires.other (grind arith) (grind arith) (grind arith))

pub returns-in_ok-made-clause-adds : goal.returns-in_ok-made-clause-adds
returns-in_ok-made-clause-adds c =
    on_ok c.push_made.result _ _
    (λ pushed. adds-first (c.args.given.now ∷ c.args.partner.now ∷ []) (Step.Resolve 0 c.args.literal unset 1 c.args.other unset)
    (Step.Resolve 1 c.args.other unset 0 c.args.literal unset)
    c.in_ok-made.made c.args.found.now c.push_made.new.found pushed
    (c.in_ok-made.ensures.at (c.args.given.now ∷ c.args.partner.now ∷ []) refl refl)
    (first_positive c.args.given.now c.args.partner.now c.args.literal c.args.other c.index-items-literal.result c.index-items-other.result
    c.requires.literal c.requires.other (grind arith) (grind arith) c.if-first.true))
    c.push_made.ensures

pub returns-in_ok-made-clause-plain : goal.returns-in_ok-made-clause-plain
returns-in_ok-made-clause-plain c =
    on_ok c.push_made.result _ _
    (λ pushed given partner old. each-added IsPlainConclusion c.in_ok-made.made c.args.found.now c.push_made.new.found
    (c.in_ok-made.ensures.plain given partner) pushed old)
    c.push_made.ensures

pub returns-in_ok-made-2-clause-adds : goal.returns-in_ok-made-2-clause-adds
returns-in_ok-made-2-clause-adds c =
    on_ok c.push_made-else-first.result _ _
    (λ pushed. adds-second (c.args.given.now ∷ c.args.partner.now ∷ []) (Step.Resolve 0 c.args.literal unset 1 c.args.other unset)
    (Step.Resolve 1 c.args.other unset 0 c.args.literal unset)
    c.in_ok-made-2.made c.args.found.now c.push_made-else-first.new.found pushed
    (first_negative c.args.given.now c.args.partner.now c.args.literal c.args.other c.index-items-literal.result c.index-items-other.result
    c.requires.literal c.requires.other (grind arith) (grind arith) c.if-first.false)
    (c.in_ok-made-2.ensures.at (c.args.given.now ∷ c.args.partner.now ∷ []) refl refl))
    c.push_made-else-first.ensures

pub returns-in_ok-made-2-clause-plain : goal.returns-in_ok-made-2-clause-plain
returns-in_ok-made-2-clause-plain c =
    on_ok c.push_made-else-first.result _ _
    (λ pushed given partner old. each-added IsPlainConclusion c.in_ok-made-2.made c.args.found.now c.push_made-else-first.new.found
    (c.in_ok-made-2.ensures.plain partner given) pushed old)
    c.push_made-else-first.ensures
