use Rattle.std.proofs.Common.{◌≡◌, ◌+◌, ◌∷◌, [], ◌++◌, take, drop, get_or, ap, sym, ◌∙◌, arith}
use Rattle.sigma_base.proofs.SliceLaws.{to_the_end}
use Rattle.kif_tree.specs.declared.clause.Literal.{Literal}
use Rattle.kif_tree.specs.Subst.{lookup}
use Rattle.kif_tree.specs.Clauses.{Literals, bind_clause}
use Rattle.calculus.specs.Rules.{opened, changed}
use Rattle.calculus_programs.specs.Picks.{exchanged}
use Rattle.calculus_programs.proofs.PickLaws.{same_item, apart, exchanged_is}
use Rattle.infer.proofs.ExchangeLaws.{changed_is}
use Rattle.infer.proofs.paramodulation.replaced.Goals as goal

pub returns : goal.returns
returns c = λ literal place is there.
    let source = c.args.equality.now.source in
    let first = source.clause.now in
    let target = c.args.target.now in
    let second = target.clause.now in
    let f = lookup c.args.apart.now.left.pairs in
    let g = lookup c.args.apart.now.right.pairs in
    let one = c.index-all-at.result in
    let two = c.index-all-at-2.result in
    let all : c.items-all.result.now ≡ second = c.items-all.ensures ∙ c.second.view_is in
    let one_same : literal ≡ one =
    same_item second target.literal literal one c.requires.target is (c.index-all-at.is ∙ ap (λ (xs : Literals). get_or xs target.literal one) all) in
    let two_same : literal ≡ two =
    same_item second target.literal literal two c.requires.target is (c.index-all-at-2.is ∙ ap (λ (xs : Literals). get_or xs target.literal two) all) in
    let atom = c.in_ok-atom.ensures place (ap (λ (l : Literal). opened c.args.path.now l.atom) (sym c.index-all-at.is ∙ sym one_same) ∙ there) in
    let made : Literal = record { positive = two.positive; atom = c.in_ok-atom.atom } in
    let made_is : made ≡ changed f c.args.equality.now.to.now g literal place =
    changed_is f c.args.equality.now.to.now g literal two place c.in_ok-other.other c.in_ok-atom.atom two_same c.in_ok-other.ensures atom in
    let end = to_the_end second (target.literal + 1) in
    let others = bind_clause f (apart first source.literal) in
    let before = bind_clause g (take target.literal second) in
    let following = bind_clause g (drop (target.literal + 1) second) in
    let out : c.append_filled-2.new.out ≡ ((others ++ before) ++ made ∷ []) ++ following =
    grind (
      arith,
      end,
      c.new-literals.ensures,
      c.in_ok-append_others.ensures,
      c.in_ok-append_filled.ensures,
      c.in_ok-push.ensures.ok,
      c.in_ok-append_filled-2.ensures,
      c.items-pairs.ensures,
      c.items.ensures,
    ) in
    out ∙ exchanged_is first source.literal f second target.literal g made ∙ ap (exchanged first source.literal f second target.literal g) made_is
