use Rattle.unify.proofs.PlainLaws.{plain-apply}
use Rattle.calculus_programs.proofs.StepLaws.{option_none, option_some}
use Rattle.infer.proofs.ApartLaws.{meet_none, meet_some, plain-tagging, plain-followed}
use Rattle.infer.proofs.apart.meet.Goals as goal

pub returns-in_default-clause-meet : goal.returns-in_default-clause-meet
returns-in_default-clause-meet c =
    meet_none c.args.left.now c.args.first.now c.args.right.now c.args.second.now c.requires.first c.requires.second
    c.in_ok-left_tags.left_tags.pairs c.in_ok-right_tags.right_tags.pairs c.in_ok-left_tags.ensures c.in_ok-right_tags.ensures
    (option_none c.in_ok-unifier.field-0 _ _ c.in_ok-unifier.ensures.general c.in_default.not-Some)

pub returns-clause-meet : goal.returns-clause-meet
returns-clause-meet c =
    meet_some c.args.left.now c.args.first.now c.args.right.now c.args.second.now c.requires.first c.requires.second
    c.in_ok-left_tags.left_tags.pairs c.in_ok-right_tags.right_tags.pairs c.in-Some.unifier.pairs
    (record { left = c.in_ok-followed.field-0; right = c.in_ok-followed-2.field-0 }) c.in_ok-left_tags.ensures c.in_ok-right_tags.ensures
    (option_some c.in_ok-unifier.field-0 _ _ c.in-Some.unifier c.in_ok-unifier.ensures.general c.in-Some.is)
    c.in_ok-followed.ensures c.in_ok-followed-2.ensures

pub returns-clause-plain : goal.returns-clause-plain
returns-clause-plain c = λ first second.
    let left = plain-tagging 76 c.args.left.now c.in_ok-left_tags.left_tags.pairs c.in_ok-left_tags.ensures in
    let right = plain-tagging 82 c.args.right.now c.in_ok-right_tags.right_tags.pairs c.in_ok-right_tags.ensures in
    let unifier = option_some c.in_ok-unifier.field-0 _ _ c.in-Some.unifier
    (c.in_ok-unifier.ensures.plain (plain-apply c.in_ok-left_tags.left_tags.pairs left c.args.first.now first)
    (plain-apply c.in_ok-right_tags.right_tags.pairs right c.args.second.now second)) c.in-Some.is in (
      plain-followed c.in_ok-left_tags.left_tags.pairs c.in-Some.unifier.pairs c.in_ok-followed.field-0.pairs left unifier c.in_ok-followed.ensures,
      plain-followed c.in_ok-right_tags.right_tags.pairs c.in-Some.unifier.pairs c.in_ok-followed-2.field-0.pairs right unifier c.in_ok-followed-2.ensures,
    )
