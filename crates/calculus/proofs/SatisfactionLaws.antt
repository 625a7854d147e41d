-- When a truth assignment satisfies a clause.
use Rattle.std.proofs.Common.{◌≡◌, List, [], ◌∷◌, ◌++◌, map, Bool, true, false, not, ◌||◌, ◌&&◌, if◌then◌else◌, refl, sym, ap, ap₂, ◌∙◌}
use Rattle.std.specs.List.{list_all}
use Rattle.kif_tree.specs.declared.form.Form.{Form}
use Rattle.kif_tree.specs.declared.clause.Literal.{Literal}
use Rattle.kif_tree.specs.Clauses.{Literals}
use Rattle.kif_tree.proofs.SubstLaws.{apply-compose}
use Rattle.calculus.specs.Truth.{is_true, holds, satisfies, negation}
use Rattle.calculus.specs.Equality.{yes, no}
use Rattle.calculus.specs.Answers.{Among}
use Rattle.calculus.specs.Laws.{SatisfactionIsOfLiterals, ResolutionHolds, NegationRefutes, ClausesCompose}
use Rattle.calculus.proofs.PathLaws.{alike}
use Rattle.calculus.proofs.RuleLaws.{cut}
use Rattle.calculus.proofs.MemberLaws.{any-among, found, any-append}

within : (atoms : List Form) (first second : Literals) → ((literal : Literal) → Among literal first → Among literal second) → satisfies atoms first ≡ true → satisfies atoms second ≡ true
within atoms first second move h = let there = found (holds atoms) first h in any-among (holds atoms) second there.item (move there.item there.stands) there.passes

pub satisfaction : SatisfactionIsOfLiterals
satisfaction atoms first second there back = alike (satisfies atoms first) (satisfies atoms second) (within atoms first second there) (within atoms second first back)

apart : (b : Bool) → (b && not b) ≡ false
apart true = refl
apart false = refl

split : (atoms : List Form) (before following : Literals) (l : Literal) → satisfies atoms (before ++ l ∷ following) ≡ true → (satisfies atoms before || (holds atoms l || satisfies atoms following)) ≡ true
split atoms before following l h = sym (any-append (holds atoms) before (l ∷ following)) ∙ h

pub resolution : ResolutionHolds
resolution atoms atom before following others more left right =
    any-append (holds atoms) (before ++ following) (others ++ more)
    ∙ ap₂ ◌||◌ (any-append (holds atoms) before following) (any-append (holds atoms) others more)
    ∙ cut (is_true atoms atom) (not (is_true atoms atom)) (satisfies atoms before) (satisfies atoms following) (satisfies atoms others) (satisfies atoms more)
    (split atoms before following (yes atom) left) (split atoms others more (no atom) right) (apart (is_true atoms atom))

other_sign : (positive truth : Bool) → (if not positive then truth else not truth) ≡ not (if positive then truth else not truth)
other_sign true truth = refl
other_sign false true = refl
other_sign false false = refl

clash : (h a b : Bool) → (a && b) ≡ false → ((h || a) && ((not h || false) && b)) ≡ false
clash true a b e = refl
clash false true b e = e
clash false false b e = refl

pub negations_refute : NegationRefutes
negations_refute [] atoms = refl
negations_refute (l ∷ ls) atoms =
    ap (λ (n : Bool). (holds atoms l || satisfies atoms ls) && ((n || false) && list_all (satisfies atoms) (map (λ (m : Literal). negation m ∷ []) ls))) (other_sign l.positive (is_true atoms l.atom))
    ∙ clash (holds atoms l) (satisfies atoms ls) (list_all (satisfies atoms) (map (λ (m : Literal). negation m ∷ []) ls)) (negations_refute ls atoms)

pub clauses_compose : ClausesCompose
clauses_compose first second [] = refl
clauses_compose first second (l ∷ ls) =
    ap₂ (λ (a : Form) (rest : Literals). let made : Literal = record { positive = l.positive; atom = a } in made ∷ rest) (apply-compose first second l.atom) (clauses_compose first second ls)
