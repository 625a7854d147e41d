-- Standings that differ in their steps alone, where two steps are variants.
use Rattle.std.proofs.Common.{◌≡◌, ◌<◌, ℕ, zero, suc, List, [], ◌∷◌, ◌++◌, map, length, Bool, Option, Some, refl, sym, ap, ◌∙◌, subst, inl, inr, ◌⊎◌, arith}
use Rattle.std.proofs.lemmas.List.{length-append}
use Rattle.sigma_base.specs.Lists.{Each}
use Rattle.kif_tree.specs.Clauses.{Literals}
use Rattle.kif_tree.specs.declared.subst.Subst.{Subst}
use Rattle.kif_tree.specs.Subst.{Filling, lookup}
use Rattle.calculus.specs.declared.step.Step.{Step}
use Rattle.calculus.specs.Rules.{nth, after, untidy, resolved, factored, replaced, replacement, Concludes}
use Rattle.calculus.specs.Tidy.{tidy}
use Rattle.calculus.proofs.PlaceLaws.{none_some, through}
use Rattle.infer.specs.declared.conclusion.Conclusion.{Conclusion}
use Rattle.infer.specs.Sites.{site_of, conclusion_sites, factor_sites}
use Rattle.infer.specs.Conclusions.{IsTurned, AreTurned, clause_at, AreAt, AreConclusions, AreFactors}
use Rattle.infer.specs.Laws.{AreVariants, EachTwo, AreAlike as AreAlikeConclusions}
use Rattle.infer.proofs.AlikeLaws.{one_list}
use Rattle.saturate.specs.Runs.{parent_number, renumbered_step, renumbered}
use Rattle.saturate.specs.Alike.{AreSameSteps}

-- ---- lists

pub nth_append : {X : Type 0} (xs ys : List X) (n : ℕ) → n < length xs → nth (xs ++ ys) n ≡ nth xs n
nth_append [] ys n h = absurd (omega arith)
nth_append (x ∷ xs) ys zero h = refl
nth_append (x ∷ xs) ys (suc n) h = nth_append xs ys n (omega arith)

pub clause_at_append : (xs ys : List Literals) (n : ℕ) → n < length xs → clause_at (xs ++ ys) n ≡ clause_at xs n
clause_at_append [] ys n h = absurd (omega arith)
clause_at_append (x ∷ xs) ys zero h = refl
clause_at_append (x ∷ xs) ys (suc n) h = clause_at_append xs ys n (omega arith)

nth_within : {X : Type 0} (xs : List X) (n : ℕ) (x : X) → nth xs n ≡ Some x → n < length xs
nth_within [] n x e = absurd (none_some x e)
nth_within (y ∷ xs) zero x e = omega arith
nth_within (y ∷ xs) (suc n) x e = let below = nth_within xs n x e in omega (arith, below)

-- something follows only from what is there
after_within : {X B : Type 0} (xs : List X) (n : ℕ) (f : X → Option B) (b : B) → after (nth xs n) f ≡ Some b → n < length xs
after_within xs n f b e = let t = through (nth xs n) f b e in nth_within xs n t.at t.is

-- ---- parents

-- the numbers of the step's parents are below the count
abbrev pub AreBelow : ℕ → Step → Type 0
AreBelow count (Step.Input i) = Unit {0}
AreBelow count (Step.Resolve left i f right j g) = (left < count) × (right < count)
AreBelow count (Step.Factor parent i j f) = parent < count
AreBelow count (Step.Paramodulate source i flipped f target j path g) = (source < count) × (target < count)

-- a step that concludes something has parents
conclusion_below : (list : List Literals) (step : Step) (clause : Literals) → Concludes step list clause → AreBelow (length list) step
conclusion_below list (Step.Input i) clause e = tt
conclusion_below list (Step.Resolve left i f right j g) clause e =
    let whole = through (untidy (Step.Resolve left i f right j g) list) (λ c. Some (tidy c)) clause e in
    let l = through (nth list left) (λ l. after (nth list right) (λ r. resolved l i (lookup f.pairs) r j (lookup g.pairs))) whole.at whole.is in
    (nth_within list left l.at l.is, after_within list right (λ r. resolved l.at i (lookup f.pairs) r j (lookup g.pairs)) whole.at l.gives)
conclusion_below list (Step.Factor parent i j f) clause e =
    let whole = through (untidy (Step.Factor parent i j f) list) (λ c. Some (tidy c)) clause e in
    after_within list parent (λ p. factored p i j (lookup f.pairs)) whole.at whole.is
conclusion_below list (Step.Paramodulate source i flipped f target j path g) clause e =
    let whole = through (untidy (Step.Paramodulate source i flipped f target j path g) list) (λ c. Some (tidy c)) clause e in
    let made = through (replacement (Step.Paramodulate source i flipped f target j path g) list) (λ w. Some w.conclusion) whole.at whole.is in
    let s = through (nth list source) (λ s. after (nth list target) (λ t. replaced s i flipped (lookup f.pairs) t j path (lookup g.pairs))) made.at made.is in
    (nth_within list source s.at s.is, after_within list target (λ t. replaced s.at i flipped (lookup f.pairs) t j path (lookup g.pairs)) made.at s.gives)

at_below : (list : List Literals) (sites : List Step) (found : List Conclusion) → AreAt list sites found
    → Each (λ (conclusion : Conclusion). AreBelow (length list) conclusion.step) found
at_below list [] found h = subst (Each (λ (conclusion : Conclusion). AreBelow (length list) conclusion.step)) (sym h) tt
at_below list (site ∷ sites) found (inl h) = at_below list sites found h.1
at_below list (site ∷ sites) found (inr h) =
    subst (Each (λ (conclusion : Conclusion). AreBelow (length list) conclusion.step)) (sym h.is)
    (conclusion_below list h.first.step h.first.clause h.concludes.concludes, at_below list sites h.rest h.more)

-- ---- steps over more clauses, or over others

-- from a short list of clauses to a long one, where each stands under another number
record Moves (short long : List Literals) (move : ℕ → ℕ) : Type 0 where
  within : (n : ℕ) → n < length short → move n < length long
  same : (n : ℕ) → n < length short → clause_at long (move n) ≡ clause_at short n

abbrev moved : (ℕ → ℕ) → Step → Step
moved move (Step.Input i) = Step.Input i
moved move (Step.Resolve left i f right j g) = Step.Resolve (move left) i f (move right) j g
moved move (Step.Factor parent i j f) = Step.Factor (move parent) i j f
moved move (Step.Paramodulate source i flipped f target j path g) = Step.Paramodulate (move source) i flipped f (move target) j path g

module _ (short long : List Literals) (move : ℕ → ℕ) (moves : Moves short long move) where
  turned_moved : (next : Filling) (n : ℕ) (f g : Subst) → n < length short → IsTurned next (clause_at short n) f g
      → IsTurned next (clause_at long (move n)) f g
  turned_moved next n f g below h = subst (λ (c : Literals). IsTurned next c f g) (sym (moves.same n below)) h

  are_turned_moved : (next : Filling) (first second : Step) → AreBelow (length short) first → AreTurned short next first second
      → AreTurned long next (moved move first) (moved move second)
  are_turned_moved next (Step.Resolve left i f right j g) (Step.Resolve left_2 i_2 f_2 right_2 j_2 g_2) below h =
      (turned_moved next left f f_2 below.0 h.0, turned_moved next right g g_2 below.1 h.1)
  are_turned_moved next (Step.Factor parent i j f) (Step.Factor parent_2 i_2 j_2 f_2) below h = turned_moved next parent f f_2 below h
  are_turned_moved next (Step.Paramodulate source i flipped f target j path g) (Step.Paramodulate source_2 i_2 flipped_2 f_2 target_2 j_2 path_2 g_2) below h =
      (turned_moved next source f f_2 below.0 h.0, turned_moved next target g g_2 below.1 h.1)
  are_turned_moved next _ _ below h = absurd h

  site_moved : (step : Step) → site_of (moved move step) ≡ moved move (site_of step)
  site_moved (Step.Input i) = refl
  site_moved (Step.Resolve left i f right j g) = refl
  site_moved (Step.Factor parent i j f) = refl
  site_moved (Step.Paramodulate source i flipped f target j path g) = refl

  below_moved : (step : Step) → AreBelow (length short) step → AreBelow (length long) (moved move step)
  below_moved (Step.Input i) h = tt
  below_moved (Step.Resolve left i f right j g) h = (moves.within left h.0, moves.within right h.1)
  below_moved (Step.Factor parent i j f) h = moves.within parent h
  below_moved (Step.Paramodulate source i flipped f target j path g) h = (moves.within source h.0, moves.within target h.1)

  variants_moved : (first second : Step) → AreBelow (length short) first → AreBelow (length short) second → AreVariants short first second
      → AreVariants long (moved move first) (moved move second)
  variants_moved first second below below_2 h = record {
    site = site_moved first ∙ ap (moved move) h.site ∙ sym (site_moved second);
    there = record { next = h.there.next; turned = are_turned_moved h.there.next first second below h.there.turned };
    back = record { next = h.back.next; turned = are_turned_moved h.back.next second first below_2 h.back.turned };
  }

-- the same step, or variants whose parents stand in the list
pub record VariesWithin (list : List Literals) (first second : Step) : Type 0 where
  pub variants : AreVariants list first second
  pub below : AreBelow (length list) first
  pub second_below : AreBelow (length list) second

abbrev pub AreSame : List Literals → Step → Step → Type 0
AreSame list first second = (first ≡ second) ⊎ VariesWithin list first second

same_step : (list : List Literals) (first second : Step) → AreSame list first second → AreSameSteps list first second
same_step list first second (inl h) = inl h
same_step list first second (inr h) = inr h.variants

varies_moved : (short long : List Literals) (move : ℕ → ℕ) → Moves short long move → (first second : Step) → VariesWithin short first second
    → VariesWithin long (moved move first) (moved move second)
varies_moved short long move moves first second h = record {
  variants = variants_moved short long move moves first second h.below h.second_below h.variants;
  below = below_moved short long move moves first h.below;
  second_below = below_moved short long move moves second h.second_below;
}

-- when clauses are added
stays_put : (step : Step) → moved (λ n. n) step ≡ step
stays_put (Step.Input i) = refl
stays_put (Step.Resolve left i f right j g) = refl
stays_put (Step.Factor parent i j f) = refl
stays_put (Step.Paramodulate source i flipped f target j path g) = refl

grows : (list more : List Literals) → Moves list (list ++ more) (λ n. n)
grows list more = record { within = λ n h. omega (arith, length-append list more, h); same = λ n h. clause_at_append list more n h }

pub same_more : (list more : List Literals) (first second : Step) → AreSame list first second → AreSame (list ++ more) first second
same_more list more first second (inl h) = inl h
same_more list more first second (inr h) =
    inr (subst (λ (s : Step). VariesWithin (list ++ more) s second) (stays_put first)
    (subst (λ (s : Step). VariesWithin (list ++ more) (moved (λ n. n) first) s) (stays_put second)
    (varies_moved list (list ++ more) (λ n. n) (grows list more) first second h)))

-- when the given clause and its partner get their numbers
renumbers : (given partner : ℕ) (step : Step) → moved (parent_number given partner) step ≡ renumbered_step given partner step
renumbers given partner (Step.Input i) = refl
renumbers given partner (Step.Resolve left i f right j g) = refl
renumbers given partner (Step.Factor parent i j f) = refl
renumbers given partner (Step.Paramodulate source i flipped f target j path g) = refl

numbers_one : (list : List Literals) (given : ℕ) → given < length list → Moves (clause_at list given ∷ []) list (parent_number given given)
numbers_one list given h = record {
  within = λ (n : ℕ). elim n as (λ (n : ℕ). n < length (clause_at list given ∷ []) → parent_number given given n < length list) [ zero ↦ (λ b. h) | suc m ↦ (λ b. h) ];
  same = λ (n : ℕ). elim n as (λ (n : ℕ). n < length (clause_at list given ∷ []) → clause_at list (parent_number given given n) ≡ clause_at (clause_at list given ∷ []) n) [ zero ↦ (λ b. refl) | suc m ↦ (λ b. absurd (omega arith)) ];
}

numbers_two : (list : List Literals) (given partner : ℕ) → given < length list → partner < length list
    → Moves (clause_at list given ∷ clause_at list partner ∷ []) list (parent_number given partner)
numbers_two list given partner h k = record { within = within; same = same }
  where
    within : (n : ℕ) → n < length (clause_at list given ∷ clause_at list partner ∷ []) → parent_number given partner n < length list
    within zero b = h
    within (suc n) b = k

    same : (n : ℕ) → n < length (clause_at list given ∷ clause_at list partner ∷ []) → clause_at list (parent_number given partner n) ≡ clause_at (clause_at list given ∷ clause_at list partner ∷ []) n
    same zero b = refl
    same (suc zero) b = refl
    same (suc (suc n)) b = absurd (omega arith)

-- ---- conclusions

pub record AreSameConclusions (list : List Literals) (first second : Conclusion) : Type 0 where
  pub clause : first.clause ≡ second.clause
  pub step : AreSame list first.step second.step

pub conclusions_more : (list more : List Literals) (first second : List Conclusion) → EachTwo (AreSameConclusions list) first second
    → EachTwo (AreSameConclusions (list ++ more)) first second
conclusions_more list more [] [] h = tt
conclusions_more list more [] (y ∷ ys) h = absurd h
conclusions_more list more (x ∷ xs) [] h = absurd h
conclusions_more list more (x ∷ xs) (y ∷ ys) h =
    (record { clause = h.0.clause; step = same_more list more x.step y.step h.0.step }, conclusions_more list more xs ys h.1)

module _ (short long : List Literals) (given partner : ℕ) (moves : Moves short long (parent_number given partner)) where
  conclusions_moved : (first second : List Conclusion) → EachTwo (AreAlikeConclusions short) first second
      → Each (λ (conclusion : Conclusion). AreBelow (length short) conclusion.step) first
      → Each (λ (conclusion : Conclusion). AreBelow (length short) conclusion.step) second
      → EachTwo (AreSameConclusions long) (map (renumbered given partner) first) (map (renumbered given partner) second)
  conclusions_moved [] [] h below below_2 = tt
  conclusions_moved [] (y ∷ ys) h below below_2 = absurd h
  conclusions_moved (x ∷ xs) [] h below below_2 = absurd h
  conclusions_moved (x ∷ xs) (y ∷ ys) h below below_2 =
      let here : VariesWithin short x.step y.step = record { variants = h.0.steps; below = below.0; second_below = below_2.0 } in
      let there = varies_moved short long (parent_number given partner) moves x.step y.step here in
      let step : VariesWithin long (renumbered_step given partner x.step) (renumbered_step given partner y.step) =
      subst (λ (s : Step). VariesWithin long s (renumbered_step given partner y.step)) (renumbers given partner x.step)
      (subst (λ (s : Step). VariesWithin long (moved (parent_number given partner) x.step) s) (renumbers given partner y.step) there) in
      (record { clause = h.0.clause; step = inr step }, conclusions_moved xs ys h.1 below.1 below_2.1)

  -- two lists of conclusions at the same sites
  one_conclusions : (sites : List Step) (first second : List Conclusion) → AreAt short sites first → AreAt short sites second
      → EachTwo (AreSameConclusions long) (map (renumbered given partner) first) (map (renumbered given partner) second)
  one_conclusions sites first second a b =
      conclusions_moved first second (one_list short sites first second a b) (at_below short sites first a) (at_below short sites second b)

pub one_factors : (list : List Literals) (given : ℕ) (first second : List Conclusion) → given < length list
    → AreFactors (clause_at list given) first → AreFactors (clause_at list given) second
    → EachTwo (AreSameConclusions list) (map (renumbered given given) first) (map (renumbered given given) second)
one_factors list given first second h a b =
    one_conclusions (clause_at list given ∷ []) list given given (numbers_one list given h) (factor_sites (clause_at list given)) first second a b

pub one_meeting : (list : List Literals) (given partner : ℕ) (same : Bool) (first second : List Conclusion) → given < length list → partner < length list
    → AreConclusions (clause_at list given) (clause_at list partner) same first → AreConclusions (clause_at list given) (clause_at list partner) same second
    → EachTwo (AreSameConclusions list) (map (renumbered given partner) first) (map (renumbered given partner) second)
one_meeting list given partner same first second h k a b =
    one_conclusions (clause_at list given ∷ clause_at list partner ∷ []) list given partner (numbers_two list given partner h k)
    (conclusion_sites (clause_at list given) (clause_at list partner) same) first second a b

-- ---- lists of steps

pub steps_same : (list : List Literals) (first second : List Step) → EachTwo (AreSame list) first second → EachTwo (AreSameSteps list) first second
steps_same list [] [] h = tt
steps_same list [] (y ∷ ys) h = absurd h
steps_same list (x ∷ xs) [] h = absurd h
steps_same list (x ∷ xs) (y ∷ ys) h = (same_step list x y h.0, steps_same list xs ys h.1)

pub steps_more : (list more : List Literals) (first second : List Step) → EachTwo (AreSame list) first second → EachTwo (AreSame (list ++ more)) first second
steps_more list more [] [] h = tt
steps_more list more [] (y ∷ ys) h = absurd h
steps_more list more (x ∷ xs) [] h = absurd h
steps_more list more (x ∷ xs) (y ∷ ys) h = (same_more list more x y h.0, steps_more list more xs ys h.1)

pub two_refl : (list : List Literals) (steps : List Step) → EachTwo (AreSame list) steps steps
two_refl list [] = tt
two_refl list (x ∷ xs) = (inl refl, two_refl list xs)

pub two_end : {X : Type 0} (P : X → X → Type 0) (first second : List X) (x y : X) → EachTwo P first second → P x y → EachTwo P (first ++ x ∷ []) (second ++ y ∷ [])
two_end P [] [] x y h k = (k, tt)
two_end P [] (z ∷ zs) x y h k = absurd h
two_end P (z ∷ zs) [] x y h k = absurd h
two_end P (z ∷ zs) (w ∷ ws) x y h k = (h.0, two_end P zs ws x y h.1 k)

pub two_length : {X : Type 0} (P : X → X → Type 0) (first second : List X) → EachTwo P first second → length first ≡ length second
two_length P [] [] h = refl
two_length P [] (z ∷ zs) h = absurd h
two_length P (z ∷ zs) [] h = absurd h
two_length P (z ∷ zs) (w ∷ ws) h = let rest = two_length P zs ws h.1 in omega (arith, rest)
