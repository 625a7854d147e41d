use Rattle.std.proofs.Common.{◌≡◌, ◌++◌, get_or, arith, ap, sym, subst, ◌∙◌}
use Rattle.kif_tree.specs.declared.clause.Literal.{Literal}
use Rattle.kif_tree.specs.Clauses.{bind_clause}
use Rattle.kif_tree.specs.Subst.{lookup}
use Rattle.calculus.specs.Tidy.{tidy}
use Rattle.calculus_programs.proofs.PickLaws.{apart}
use Rattle.calculus_programs.proofs.StepLaws.{option_none, option_some}
use Rattle.unify.specs.Unifiers.{is_plain}
use Rattle.infer.specs.Plain.{IsPlain}
use Rattle.infer.proofs.PlainClauseLaws.{plain-atom, plain-append, plain-others, plain-bind_clause, plain-tidy}
use Rattle.infer.proofs.ResolveLaws.{literal-of, resolve_none, resolve_some, meet-there, none-there}
use Rattle.infer.proofs.resolution.resolvent.Goals as goal

pub meet-requires-clause-first : goal.meet-requires-clause-first
meet-requires-clause-first c = literal-of c.items-first.result.now c.args.left.now.literal c.index-first-left.result (grind arith)

pub meet-requires-clause-second : goal.meet-requires-clause-second
meet-requires-clause-second c = literal-of c.items-second.result.now c.args.right.now.literal c.index-second-right.result (grind arith)

pub returns-in_default-clause-at : goal.returns-in_default-clause-at
returns-in_default-clause-at c = λ clauses left right.
    resolve_none clauses c.args.left.now.number c.args.left.now.literal c.args.right.now.number c.args.right.now.literal c.args.left.now.clause.now
    c.args.right.now.clause.now
    c.index-first-left.result c.index-second-right.result left right c.requires.left c.requires.right (grind arith) (grind arith)
    (none-there _ c.index-first-left.result.atom _ c.index-second-right.result.atom
    (ap (λ (l : Literal). l.atom) (sym c.index-first-left.is)) (ap (λ (l : Literal). l.atom) (sym c.index-second-right.is))
    (option_none c.in_ok-apart.field-0 _ _ c.in_ok-apart.ensures.meet c.in_default.not-Some))

-- what is left of the two clauses
made_is : (c : goal.In_ok-clause)
    → c.in_ok-clause.clause ≡ tidy (bind_clause (lookup c.in-Some.apart.left.pairs) (apart c.args.left.now.clause.now c.args.left.now.literal)
    ++ bind_clause (lookup c.in-Some.apart.right.pairs) (apart c.args.right.now.clause.now c.args.right.now.literal))
made_is c = c.in_ok-clause.ensures ∙ ap tidy (grind (arith, c.new-literals.ensures, c.in_ok-append_others.ensures, c.in_ok-append_others-2.ensures))

pub returns-clause-at : goal.returns-clause-at
returns-clause-at c = λ clauses left right.
    let l_is : c.index-first-left.result ≡ get_or c.args.left.now.clause.now c.args.left.now.literal c.index-first-left.result = grind arith in
    let r_is : c.index-second-right.result ≡ get_or c.args.right.now.clause.now c.args.right.now.literal c.index-second-right.result = grind arith in
    resolve_some clauses c.args.left.now.number c.args.left.now.literal c.args.right.now.number c.args.right.now.literal c.args.left.now.clause.now
    c.args.right.now.clause.now
    c.index-first-left.result c.index-second-right.result left right c.requires.left c.requires.right l_is r_is
    c.in-Some.apart c.in_ok-clause.clause (c.requires.signs c.index-first-left.result c.index-second-right.result l_is r_is)
    (meet-there c.items-first.result.now c.args.left.now.clause.now c.items-second.result.now c.args.right.now.clause.now _ c.index-first-left.result.atom
    _ c.index-second-right.result.atom c.in-Some.apart
    (grind arith) (grind arith) (ap (λ (l : Literal). l.atom) (sym c.index-first-left.is)) (ap (λ (l : Literal). l.atom) (sym c.index-second-right.is))
    (option_some c.in_ok-apart.field-0 _ _ c.in-Some.apart c.in_ok-apart.ensures.meet c.in-Some.is))
    (made_is c)

pub returns-clause-plain : goal.returns-clause-plain
returns-clause-plain c = λ left right.
    let first = plain-atom c.args.left.now.clause.now c.args.left.now.literal c.index-first-left.result c.requires.left (grind arith) left in
    let second = plain-atom c.args.right.now.clause.now c.args.right.now.literal c.index-second-right.result c.requires.right (grind arith) right in
    let pairs = option_some c.in_ok-apart.field-0 _ _ c.in-Some.apart
    (c.in_ok-apart.ensures.plain (ap (λ (l : Literal). is_plain l.atom) (sym c.index-first-left.is) ∙ first)
    (ap (λ (l : Literal). is_plain l.atom) (sym c.index-second-right.is) ∙ second))
    c.in-Some.is in
    record {
      clause = subst IsPlain (sym (made_is c)) (plain-tidy _ (plain-append _ _
          (plain-bind_clause c.in-Some.apart.left.pairs _ pairs.0 (plain-others c.args.left.now.literal c.args.left.now.clause.now left))
          (plain-bind_clause c.in-Some.apart.right.pairs _ pairs.1 (plain-others c.args.right.now.literal c.args.right.now.clause.now right))));
      step = pairs;
    }
