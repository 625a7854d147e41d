use Rattle.std.proofs.Common.{◌≡◌, ◌+◌, ◌∷◌, [], ◌++◌, take, drop, ap, sym, ◌∙◌, arith}
use Rattle.sigma_base.proofs.SliceLaws.{to_the_end}
use Rattle.kif_tree.specs.declared.clause.Literal.{Literal}
use Rattle.kif_tree.specs.Subst.{bind, lookup}
use Rattle.kif_tree.specs.Clauses.{bind_clause}
use Rattle.calculus.specs.Rules.{plugged}
use Rattle.calculus_programs.specs.Picks.{exchanged}
use Rattle.calculus_programs.proofs.PickLaws.{same_item, apart, exchanged_is}
use Rattle.calculus_programs.proofs.replacing.conclude.Goals as goal

pub returns : goal.returns
returns c = λ m is.
    let source = c.args.source.now in
    let target = c.args.target.now in
    let f = lookup source.subst.now.pairs in
    let g = lookup target.subst.now.pairs in
    let same = same_item target.literals.now target.at m c.index-target-at.result c.requires.target_literal is c.index-target-at.is in
    let end = to_the_end target.literals.now (target.at + 1) in
    let atom = plugged c.args.frames.now (bind f c.args.to.now) in
    let made : Literal → Literal = λ (l : Literal). record { positive = l.positive; atom = atom } in
    let out : c.append_filled-2.new.out ≡ ((bind_clause f (apart source.literals.now source.at) ++ bind_clause g (take target.at target.literals.now)) ++ made c.index-target-at.result ∷ []) ++ bind_clause g (drop (target.at + 1) target.literals.now) =
    grind (arith, end, c.new-conclusion.ensures, c.in_ok-append_others.ensures, c.in_ok-append_filled.ensures, c.in_ok-changed.ensures, c.in_ok-push.ensures.ok, c.in_ok-append_filled-2.ensures, c.items-pairs.ensures) in
    out ∙ exchanged_is source.literals.now source.at f target.literals.now target.at g (made c.index-target-at.result)
    ∙ ap (λ (l : Literal). exchanged source.literals.now source.at f target.literals.now target.at g (made l)) (sym same)
