-- Resolvents of two literals at one site.
use Rattle.std.proofs.Common.{◌≡◌, ℕ, zero, suc, ◌<◌, List, [], ◌∷◌, ◌++◌, length, get_or, Bool, true, false, not, ◌||◌, ◌&&◌, Option, Some, None, refl, sym, ap, ap₂, ◌∙◌, subst, arith}
use Rattle.std.specs.List.{list_any}
use Rattle.std.specs.Str.{bytes_eq}
use Rattle.sigma_base.specs.Lists.{Each, each_map}
use Rattle.kif_tree.specs.declared.form.Form.{Form}
use Rattle.kif_tree.specs.declared.subst.Subst.{Subst}
use Rattle.kif_tree.specs.declared.clause.Clause.{Clause}
use Rattle.kif_tree.specs.declared.clause.Literal.{Literal}
use Rattle.kif_tree.specs.Terms.{Bytes, same, variables}
use Rattle.kif_tree.specs.SameLaws.{same-Decides}
use Rattle.kif_tree.specs.Subst.{Filling, bind, lookup}
use Rattle.kif_tree.specs.Clauses.{Literals, bind_clause, clause_variables, is_answer}
use Rattle.calculus.specs.declared.step.Step.{Step}
use Rattle.calculus.specs.Tidy.{tidy}
use Rattle.calculus.specs.Rules.{after, given, nth, resolves, resolved, untidy, concluded, Concludes}
use Rattle.calculus.specs.Evidence.{list_from}
use Rattle.calculus.proofs.MemberLaws.{any-append}
use Rattle.calculus.proofs.PlaceLaws.{none_some}
use Rattle.calculus.proofs.TruthLaws.{both, false_true, members}
use Rattle.calculus_programs.proofs.PickLaws.{apart, resolved_at}
use Rattle.unify.specs.Unifiers.{HasNoneApart}
use Rattle.infer.specs.declared.apart.Apart.{Apart}
use Rattle.infer.specs.Fillings.{IsOf, Meet}
use Rattle.infer.specs.Inside.{MayMeet}
use Rattle.infer.specs.Sites.{site_of, unset, resolution_sites}
use Rattle.infer.specs.Conclusions.{Generalizes, IsTurned, clause_at, IsConclusionAt, GivesNothing}

-- ---- the variables of a literal

any_left : (p : Bytes → Bool) (xs ys : List Bytes) → list_any p xs ≡ true → list_any p (xs ++ ys) ≡ true
any_left p xs ys h = any-append p xs ys ∙ ap (λ (b : Bool). b || list_any p ys) h

any_right : (p : Bytes → Bool) (xs ys : List Bytes) → list_any p ys ≡ true → list_any p (xs ++ ys) ≡ true
any_right p xs ys h = any-append p xs ys ∙ ap (λ (b : Bool). list_any p xs || b) h ∙ either (list_any p xs)
  where
    either : (a : Bool) → (a || true) ≡ true
    either true = refl
    either false = refl

-- the variables of a literal are variables of its clause
pub literal-of : (clause : Literals) (i : ℕ) (default : Literal) → i < length clause → IsOf clause (get_or clause i default).atom
literal-of [] i default below = absurd (omega arith)
literal-of (literal ∷ clause) zero default below =
    each_map (λ name. list_any (bytes_eq name) (variables literal.atom) ≡ true) (λ name. list_any (bytes_eq name)
    (variables literal.atom ++ clause_variables clause) ≡ true)
    (λ name h. any_left (bytes_eq name) (variables literal.atom) (clause_variables clause) h) (variables literal.atom) (members (variables literal.atom))
literal-of (literal ∷ clause) (suc i) default below =
    each_map (λ name. list_any (bytes_eq name) (clause_variables clause) ≡ true) (λ name. list_any (bytes_eq name)
    (variables literal.atom ++ clause_variables clause) ≡ true)
    (λ name h. any_right (bytes_eq name) (variables literal.atom) (clause_variables clause) h) (variables (get_or clause i default).atom)
    (literal-of clause i default (omega arith))

-- ---- sites of resolutions

-- what holds of the resolutions of those literals holds of each step at their site
resolve_site : (P : Step → Type 0) (left i right j : ℕ) → ((f g : Subst) → P (Step.Resolve left i f right j g)) → (step : Step)
    → site_of step ≡ Step.Resolve left i unset right j unset → P step
resolve_site P left i right j h (Step.Input n) e = absurd (cc)
resolve_site P left i right j h (Step.Resolve left_2 i_2 f right_2 j_2 g) e =
    let lefts : left ≡ left_2 = cc in
    let firsts : i ≡ i_2 = cc in
    let rights : right ≡ right_2 = cc in
    let seconds : j ≡ j_2 = cc in
    let steps : Step.Resolve left i f right j g ≡ Step.Resolve left_2 i_2 f right_2 j_2 g = cc in
    subst P steps (h f g)
resolve_site P left i right j h (Step.Factor parent kept dropped f) e = absurd (cc)
resolve_site P left i right j h (Step.Paramodulate source k flipped f target m path g) e = absurd (cc)

-- ---- which literals resolve

record Joins (f g : Filling) (l r : Literal) : Type 0 where
  pub left_positive : l.positive ≡ true
  pub right_negative : not r.positive ≡ true
  pub left_asserts : not (is_answer l.atom) ≡ true
  pub right_asserts : not (is_answer r.atom) ≡ true
  pub equal : bind f l.atom ≡ bind g r.atom

joins : (f g : Filling) (l r : Literal) → resolves f g l r ≡ true → Joins f g l r
joins f g l r h =
    let meets = same (bind f l.atom) (bind g r.atom) in
    let first = both l.positive (not r.positive && (not (is_answer l.atom) && (not (is_answer r.atom) && meets))) h in
    let second = both (not r.positive) (not (is_answer l.atom) && (not (is_answer r.atom) && meets)) first.1 in
    let third = both (not (is_answer l.atom)) (not (is_answer r.atom) && meets) second.1 in
    let fourth = both (not (is_answer r.atom)) meets third.1 in
    record {
      left_positive = first.0;
      right_negative = second.0;
      left_asserts = third.0;
      right_asserts = fourth.0;
      equal = (same-Decides (bind f l.atom) (bind g r.atom)).0 fourth.1;
    }

joined : (f g : Filling) (l r : Literal) → Joins f g l r → resolves f g l r ≡ true
joined f g l r m =
    ap₂ ◌&&◌ m.left_positive (ap₂ ◌&&◌ m.right_negative (ap₂ ◌&&◌ m.left_asserts (ap₂ ◌&&◌ m.right_asserts
    ((same-Decides (bind f l.atom) (bind g r.atom)).1 m.equal))))

unjoined : (f g : Filling) (l r : Literal) → (Joins f g l r → ⊥) → resolves f g l r ≡ false
unjoined f g l r never = go (resolves f g l r) refl
  where
    go : (b : Bool) → resolves f g l r ≡ b → b ≡ false
    go true e = absurd (never (joins f g l r e))
    go false e = refl

-- ---- two literals of clauses of those numbers

module _ (clauses : List Literals) (left i right j : ℕ) (l_clause r_clause : Literals) (l r : Literal) (left_at : nth clauses left ≡ Some l_clause)
    (right_at : nth clauses right ≡ Some r_clause)
    (l_below : i < length l_clause) (r_below : j < length r_clause) (l_is : l ≡ get_or l_clause i l) (r_is : r ≡ get_or r_clause j r) where
  abbrev site : Step
  site = Step.Resolve left i unset right j unset

  untidy_if : (f g : Subst) (b : Bool) → resolves (lookup f.pairs) (lookup g.pairs) l r ≡ b
      → untidy (Step.Resolve left i f right j g) clauses
      ≡ given b (Some (bind_clause (lookup f.pairs) (apart l_clause i) ++ bind_clause (lookup g.pairs) (apart r_clause j)))
  untidy_if f g b e =
      ap₂ (λ (o p : Option Literals). after o (λ x. after p (λ y. resolved x i (lookup f.pairs) y j (lookup g.pairs)))) left_at right_at
      ∙ resolved_at l_clause i (lookup f.pairs) r_clause j (lookup g.pairs) l r l_below r_below l_is r_is b (sym e)

  resolve_never : ((f g : Filling) → Joins f g l r → ⊥) → GivesNothing clauses (Step.Resolve left i unset right j unset)
  resolve_never never = resolve_site (λ step. concluded step clauses ≡ None) left i right j
      (λ f g. ap (λ o. after o (λ c. Some (tidy c))) (untidy_if f g false (unjoined (lookup f.pairs) (lookup g.pairs) l r
      (never (lookup f.pairs) (lookup g.pairs)))))

  pub resolve_left_negative : l.positive ≡ false → GivesNothing clauses (Step.Resolve left i unset right j unset)
  resolve_left_negative sign = resolve_never (λ f g m. false_true (sym sign ∙ m.left_positive))

  pub resolve_right_positive : r.positive ≡ true → GivesNothing clauses (Step.Resolve left i unset right j unset)
  resolve_right_positive sign = resolve_never (λ f g m. false_true (sym (ap not sign) ∙ m.right_negative))

  pub resolve_left_answer : is_answer l.atom ≡ true → GivesNothing clauses (Step.Resolve left i unset right j unset)
  resolve_left_answer answer = resolve_never (λ f g m. false_true (sym (ap not answer) ∙ m.left_asserts))

  pub resolve_right_answer : is_answer r.atom ≡ true → GivesNothing clauses (Step.Resolve left i unset right j unset)
  resolve_right_answer answer = resolve_never (λ f g m. false_true (sym (ap not answer) ∙ m.right_asserts))

  pub resolve_none : HasNoneApart l.atom r.atom → GivesNothing clauses (Step.Resolve left i unset right j unset)
  resolve_none none = resolve_never (λ f g m. none f g m.equal)

  -- a resolution that is allowed makes the atoms equal
  joins_there : (f g : Subst) (made : Literals) → Concludes (Step.Resolve left i f right j g) clauses made → Joins (lookup f.pairs) (lookup g.pairs) l r
  joins_there f g made concludes = go (resolves (lookup f.pairs) (lookup g.pairs) l r) refl
    where
      go : (b : Bool) → resolves (lookup f.pairs) (lookup g.pairs) l r ≡ b → Joins (lookup f.pairs) (lookup g.pairs) l r
      go true e = joins (lookup f.pairs) (lookup g.pairs) l r e
      go false e = absurd (none_some made (sym (ap (λ o. after o (λ c. Some (tidy c))) (untidy_if f g false e)) ∙ concludes))

  left_there : clause_at clauses left ≡ l_clause
  left_there = ap (λ (o : Option Literals). list_from o (λ clause. clause)) left_at

  right_there : clause_at clauses right ≡ r_clause
  right_there = ap (λ (o : Option Literals). list_from o (λ clause. clause)) right_at

  more_general : (met : Apart) → Meet l_clause l.atom r_clause r.atom met → (f g : Subst) (made : Literals)
      → Concludes (Step.Resolve left i f right j g) clauses made
      → Generalizes clauses (Step.Resolve left i met.left right j met.right) (Step.Resolve left i f right j g)
  more_general met meet f g made concludes =
      let both_ones = meet.general (lookup f.pairs) (lookup g.pairs) (joins_there f g made concludes).equal in
      record {
        next = both_ones.next;
        turned = (
          subst (λ (c : Literals). IsTurned both_ones.next c met.left f) (sym left_there) both_ones.left,
          subst (λ (c : Literals). IsTurned both_ones.next c met.right g) (sym right_there) both_ones.right,
        );
      }

  pub resolve_some : (met : Apart) (made : Clause) → MayMeet l r → Meet l_clause l.atom r_clause r.atom met
      → made ≡ tidy (bind_clause (lookup met.left.pairs) (apart l_clause i) ++ bind_clause (lookup met.right.pairs) (apart r_clause j))
      → IsConclusionAt clauses (Step.Resolve left i unset right j unset) (record { clause = made; step = Step.Resolve left i met.left right j met.right })
  resolve_some met made may meet is =
      let m : Joins (lookup met.left.pairs) (lookup met.right.pairs) l r = record {
        left_positive = may.left_positive;
        right_negative = ap not may.right_negative;
        left_asserts = ap not may.left_asserts;
        right_asserts = ap not may.right_asserts;
        equal = meet.equal;
      } in
      record {
        at = refl;
        concludes = ap (λ o. after o (λ c. Some (tidy c))) (untidy_if met.left met.right true (joined (lookup met.left.pairs) (lookup met.right.pairs) l r m))
            ∙ ap Some (sym is);
        general = λ other c there concludes.
            resolve_site (λ step. Concludes step clauses c → Generalizes clauses (Step.Resolve left i met.left right j met.right) step) left i right j
            (λ f g h. more_general met meet f g c h) other there concludes;
      }

-- the same literals and clauses by other names
pub meet-there : (l_clause l_same r_clause r_same : Literals) (first first_same second second_same : Form) (apart : Apart) → l_clause ≡ l_same
    → r_clause ≡ r_same
    → first ≡ first_same → second ≡ second_same → Meet l_clause first r_clause second apart → Meet l_same first_same r_same second_same apart
meet-there l_clause l_same r_clause r_same first first_same second second_same apart l_is r_is first_is second_is meet =
    subst (λ (c : Literals). Meet c first_same r_same second_same apart) l_is
    (subst (λ (c : Literals). Meet l_clause first_same c second_same apart) r_is
    (subst (λ (f : Form). Meet l_clause f r_clause second_same apart) first_is
    (subst (λ (f : Form). Meet l_clause first r_clause f apart) second_is meet)))

pub none-there : (first first_same second second_same : Form) → first ≡ first_same → second ≡ second_same → HasNoneApart first second
    → HasNoneApart first_same second_same
none-there first first_same second second_same first_is second_is none =
    subst (λ (f : Form). HasNoneApart f second_same) first_is (subst (λ (f : Form). HasNoneApart first f) second_is none)

-- ---- both sites of a literal of the given clause and one of its partner

module _ (of_given of_partner : Literals) (i j : ℕ) (l r : Literal) (l_below : i < length of_given) (r_below : j < length of_partner)
    (l_is : l ≡ get_or of_given i l) (r_is : r ≡ get_or of_partner j r) where
  abbrev both_clauses : List Literals
  both_clauses = of_given ∷ of_partner ∷ []

  pub first_negative : l.positive ≡ false → GivesNothing (of_given ∷ of_partner ∷ []) (Step.Resolve 0 i unset 1 j unset)
  first_negative sign = resolve_left_negative both_clauses 0 i 1 j of_given of_partner l r refl refl l_below r_below l_is r_is sign

  pub first_positive : l.positive ≡ true → GivesNothing (of_given ∷ of_partner ∷ []) (Step.Resolve 1 j unset 0 i unset)
  first_positive sign = resolve_right_positive both_clauses 1 j 0 i of_partner of_given r l refl refl r_below l_below r_is l_is sign

  pub one_sign : l.positive ≡ r.positive → Each (GivesNothing (of_given ∷ of_partner ∷ [])) (resolution_sites i j)
  one_sign signs = go l.positive refl
    where
      go : (b : Bool) → l.positive ≡ b → Each (GivesNothing (of_given ∷ of_partner ∷ [])) (resolution_sites i j)
      go true e =
          let other = resolve_right_positive both_clauses 0 i 1 j of_given of_partner l r refl refl l_below r_below l_is r_is (sym signs ∙ e) in
          (other, (first_positive e, tt))
      go false e =
          let other = resolve_left_negative both_clauses 1 j 0 i of_partner of_given r l refl refl r_below l_below r_is l_is (sym signs ∙ e) in
          (first_negative e, (other, tt))

  pub first_answer : is_answer l.atom ≡ true → Each (GivesNothing (of_given ∷ of_partner ∷ [])) (resolution_sites i j)
  first_answer answer = (
    resolve_left_answer both_clauses 0 i 1 j of_given of_partner l r refl refl l_below r_below l_is r_is answer,
    (resolve_right_answer both_clauses 1 j 0 i of_partner of_given r l refl refl r_below l_below r_is l_is answer, tt),
  )

  pub second_answer : is_answer r.atom ≡ true → Each (GivesNothing (of_given ∷ of_partner ∷ [])) (resolution_sites i j)
  second_answer answer = (
    resolve_right_answer both_clauses 0 i 1 j of_given of_partner l r refl refl l_below r_below l_is r_is answer,
    (resolve_left_answer both_clauses 1 j 0 i of_partner of_given r l refl refl r_below l_below r_is l_is answer, tt),
  )
