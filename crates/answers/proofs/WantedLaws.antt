-- The steps on which one rests, marked one by one, and the numbers of the marks.
use Rattle.std.proofs.Common.{◌≡◌, inl, inr, ℕ, zero, suc, ◌+◌, ◌-◌, ◌<◌, ◌≤◌, List, [], ◌∷◌, ◌++◌, length, get_or, set, replicate, nat_eq, Bool, true, false, Some, if◌then◌else◌, refl, sym, ap, ◌∙◌, subst, arith}
use Rattle.std.proofs.lemmas.Bool.{cases_order}
use Rattle.std.proofs.lemmas.List.{length-replicate}
use Rattle.std.proofs.Math.Nat.{eq-or-lt_of_le}
use Rattle.sigma_base.specs.Lists.{Each, each_map, each_append}
use Rattle.calculus.specs.declared.step.Step.{Step}
use Rattle.calculus.specs.Answers.{Among}
use Rattle.calculus.specs.Rules.{nth}
use Rattle.calculus.specs.Evidence.{list_from}
use Rattle.calculus.proofs.MemberLaws.{each_at, among-left, among-right}
use Rattle.calculus_programs.proofs.PickLaws.{nth-some}
use Rattle.infer.proofs.ParamodulateLaws.{nth_index}
use Rattle.answers.specs.Proofs.{parents, parents_at, RestsOn, AreAscending, AreRests, place_among, ParentsComeBefore, marked, all_marked, TellsRests, AreWanted, AreMarksBelow}
use Rattle.answers.proofs.RestLaws.{rests_on, rests_on_itself, leads_along}
use Rattle.answers.proofs.MarkLaws.{length-marked, marked-set, marks_it, was_marked, length-all_marked, stay_marked, marks_them, were_marked, none_marked}

-- ---- marking parents

-- the step of that number isn't marked: nothing changes
pub wanted_kept : (steps : List Step) (step from at : ℕ) (wanted : List Bool) → from ≡ at + 1 → AreWanted steps step from wanted → nth wanted at ≡ Some false
    → AreWanted steps step at wanted
wanted_kept steps step from at wanted e old not_here = record {
  counted = old.counted;
  itself = old.itself;
  rests = old.rests;
  parents = λ number late here. elim (eq-or-lt_of_le late) [
    | inl same ↦ absurd (let clash : nth wanted number ≡ Some false = subst (λ n. nth wanted n ≡ Some false) same not_here in cc)
    | inr later ↦ old.parents number (omega (arith, e, later)) here
  ];
}

-- it is marked, and its parents are marked too
pub wanted_more : (steps : List Step) → ParentsComeBefore steps → (number from at : ℕ) (step : Step) (wanted : List Bool) → from ≡ at + 1 → at ≤ number
    → AreWanted steps number from wanted → nth steps at ≡ Some step → nth wanted at ≡ Some true → AreWanted steps number at (all_marked wanted (parents step))
wanted_more steps earlier number from at step wanted e within old is here =
    let all : parents_at steps at ≡ parents step = ap (λ o. list_from o parents) is in
    let below : Each (λ parent. parent < at) (parents step) = subst (Each (λ parent. parent < at)) all (earlier at) in
    record {
      counted = length-all_marked (parents step) wanted ∙ old.counted;
      itself = stay_marked (parents step) wanted number old.itself;
      rests = λ on mark. elim (were_marked (parents step) wanted on mark) [
        | inl before ↦ old.rests on before
        | inr among ↦ rests_on steps number at on (old.rests at here) (subst (Among on) (sym all) among)
      ];
      parents = λ n late mark. elim (were_marked (parents step) wanted n mark) [
        | inl before ↦ elim (eq-or-lt_of_le late) [
          | inl same ↦
              subst (λ m. Each (λ parent. nth (all_marked wanted (parents step)) parent ≡ Some true) (parents_at steps m)) same
              (subst (Each (λ parent. nth (all_marked wanted (parents step)) parent ≡ Some true)) (sym all)
              (marks_them (parents step) wanted (each_map (λ parent. parent < at) (λ parent. parent < length wanted) (λ parent low. omega (arith, low, old.counted)) (parents step) below)))
          | inr later ↦
              each_map (λ parent. nth wanted parent ≡ Some true) (λ parent. nth (all_marked wanted (parents step)) parent ≡ Some true)
              (λ parent stays. stay_marked (parents step) wanted parent stays) (parents_at steps n) (old.parents n (omega (arith, e, later)) before)
        ]
        | inr among ↦ absurd (let low : n < at = each_at (λ parent. parent < at) (parents step) n among below in omega (arith, low, late))
      ];
    }

-- before any step is done
pub begin_wanted : (steps : List Step) (number from : ℕ) (wanted : List Bool) → from ≡ number + 1 → wanted ≡ replicate (number + 1) false
    → AreWanted steps number from (set wanted number true)
begin_wanted steps number from wanted e none =
    let marks : set wanted number true ≡ marked (replicate (number + 1) false) number = ap (λ ms. set ms number true) none ∙ marked-set (replicate (number + 1) false) number in
    let counted : length (marked (replicate (number + 1) false) number) ≡ number + 1 = length-marked (replicate (number + 1) false) number ∙ length-replicate (number + 1) false in
    subst (AreWanted steps number from) (sym marks) (record {
      counted = counted;
      itself = marks_it (replicate (number + 1) false) number (let all = length-replicate (number + 1) false in omega (arith, all));
      rests = λ on mark. elim (was_marked (replicate (number + 1) false) number on mark) [
        | inl before ↦ absurd (none_marked (number + 1) on before)
        | inr same ↦ subst (RestsOn steps number) (sym same) (rests_on_itself steps number)
      ];
      parents = λ n late mark. absurd (let within = (nth_index (marked (replicate (number + 1) false) number) n true mark).0 in omega (arith, e, late, counted, within));
    })

-- as the loop goes down
pub step_wanted : (steps : List Step) → ParentsComeBefore steps → (number back : ℕ) (step : Step) (wanted new : List Bool) (mark : Bool)
    → back ≤ number → number < length steps → AreWanted steps number (number + 1 - back) wanted → step ≡ get_or steps (number - back) step
    → mark ≡ get_or wanted (number - back) mark → mark ≡ true → new ≡ all_marked wanted (parents step) → AreWanted steps number (number + 1 - (back + 1)) new
step_wanted steps earlier number back step wanted new mark within there old is read on is_new =
    let e : number - back ≡ number + 1 - (back + 1) = omega arith in
    subst (λ n. AreWanted steps number n new) e
    (subst (AreWanted steps number (number - back)) (sym is_new)
    (wanted_more steps earlier number (number + 1 - back) (number - back) step wanted (omega arith) (omega arith) old (nth-some steps (number - back) step (omega arith) is)
    (nth-some wanted (number - back) mark (let all = old.counted in omega (arith, all)) read ∙ ap (λ b. Some b) on)))

pub skip_wanted : (steps : List Step) (number back : ℕ) (wanted new : List Bool) (mark : Bool)
    → back ≤ number → AreWanted steps number (number + 1 - back) wanted → mark ≡ get_or wanted (number - back) mark → mark ≡ false → new ≡ wanted
    → AreWanted steps number (number + 1 - (back + 1)) new
skip_wanted steps number back wanted new mark within old read off is_new =
    let e : number - back ≡ number + 1 - (back + 1) = omega arith in
    subst (λ n. AreWanted steps number n new) e
    (subst (AreWanted steps number (number - back)) (sym is_new)
    (wanted_kept steps number (number + 1 - back) (number - back) wanted (omega arith) old
    (nth-some wanted (number - back) mark (let all = old.counted in omega (arith, all)) read ∙ ap (λ b. Some b) off)))

-- all steps are done
pub tells_rests : (steps : List Step) (step from : ℕ) (wanted : List Bool) → from ≡ 0 → AreWanted steps step from wanted → TellsRests steps step wanted
tells_rests steps step from wanted e are = record {
  counted = are.counted;
  tells = λ on. (
    are.rests on,
    λ rests. leads_along (λ n. nth wanted n ≡ Some true) steps
        (λ n parent here among. each_at (λ m. nth wanted m ≡ Some true) (parents_at steps n) parent among (are.parents n (omega (arith, e)) here))
        step rests.through on rests.leads are.itself,
  );
}

-- ---- the numbers of the marks

ascending_more : (numbers : List ℕ) (number : ℕ) → AreAscending numbers → Each (λ other. other < number) numbers → AreAscending (numbers ++ number ∷ [])
ascending_more [] number rise low = (tt, tt)
ascending_more (n ∷ numbers) number rise low =
    (each_append (λ other. n < other) numbers (number ∷ []) rise.0 (low.0, tt), ascending_more numbers number rise.1 low.1)

pub marks_kept : (wanted : List Bool) (at : ℕ) (numbers : List ℕ) → AreMarksBelow wanted at numbers → nth wanted at ≡ Some false → AreMarksBelow wanted (at + 1) numbers
marks_kept wanted at numbers old not_here = record {
  ascending = old.ascending;
  lower = each_map (λ number. number < at) (λ number. number < at + 1) (λ number low. omega (arith, low)) numbers old.lower;
  marks = old.marks;
  all = λ on low mark. elim (cases_order on at) [
    | inl same ↦ absurd (let clash : nth wanted on ≡ Some false = subst (λ n. nth wanted n ≡ Some false) (sym same) not_here in cc)
    | inr (inl below) ↦ old.all on below mark
    | inr (inr above) ↦ absurd (omega (arith, low, above))
  ];
}

pub marks_more : (wanted : List Bool) (at : ℕ) (numbers : List ℕ) → AreMarksBelow wanted at numbers → nth wanted at ≡ Some true
    → AreMarksBelow wanted (at + 1) (numbers ++ at ∷ [])
marks_more wanted at numbers old here = record {
  ascending = ascending_more numbers at old.ascending old.lower;
  lower = each_append (λ number. number < at + 1) numbers (at ∷ [])
      (each_map (λ number. number < at) (λ number. number < at + 1) (λ number low. omega (arith, low)) numbers old.lower) (omega arith, tt);
  marks = each_append (λ number. nth wanted number ≡ Some true) numbers (at ∷ []) old.marks (here, tt);
  all = λ on low mark. elim (cases_order on at) [
    | inl same ↦ among-right on numbers (at ∷ []) (inl same)
    | inr (inl below) ↦ among-left on numbers (at ∷ []) (old.all on below mark)
    | inr (inr above) ↦ absurd (omega (arith, low, above))
  ];
}

-- as the loop goes up
pub step_marks : (wanted : List Bool) (at : ℕ) (numbers new : List ℕ) (mark : Bool) → at < length wanted → AreMarksBelow wanted at numbers
    → mark ≡ get_or wanted at mark → mark ≡ true → new ≡ numbers ++ at ∷ [] → AreMarksBelow wanted (at + 1) new
step_marks wanted at numbers new mark within old read on is_new =
    subst (AreMarksBelow wanted (at + 1)) (sym is_new) (marks_more wanted at numbers old (nth-some wanted at mark within read ∙ ap (λ b. Some b) on))

pub skip_marks : (wanted : List Bool) (at : ℕ) (numbers new : List ℕ) (mark : Bool) → at < length wanted → AreMarksBelow wanted at numbers
    → mark ≡ get_or wanted at mark → mark ≡ false → new ≡ numbers → AreMarksBelow wanted (at + 1) new
skip_marks wanted at numbers new mark within old read off is_new =
    subst (AreMarksBelow wanted (at + 1)) (sym is_new) (marks_kept wanted at numbers old (nth-some wanted at mark within read ∙ ap (λ b. Some b) off))

pub are_rests : (steps : List Step) (step : ℕ) (wanted : List Bool) (below : ℕ) (numbers : List ℕ) → below ≡ step + 1 → TellsRests steps step wanted
    → AreMarksBelow wanted below numbers → AreRests steps step numbers
are_rests steps step wanted below numbers e tells are = record {
  ascending = are.ascending;
  exactly = λ on. (
    λ among. (tells.tells on).0 (each_at (λ number. nth wanted number ≡ Some true) numbers on among are.marks),
    λ rests. let mark = (tells.tells on).1 rests in are.all on (let within = (nth_index wanted on true mark).0 in omega (arith, e, within, tells.counted)) mark,
  );
}

-- ---- numbers that ascend

rises : (x : ℕ) (xs : List ℕ) (p : ℕ) → Each (λ other. x < other) xs → p < length xs → x < get_or xs p 0
rises x [] p low within = absurd (omega arith)
rises x (y ∷ xs) zero low within = low.0
rises x (y ∷ xs) (suc p) low within = rises x xs p low.1 (omega arith)

-- as a search in the list wants it
pub ascends : (xs : List ℕ) → AreAscending xs → (i j : ℕ) → i ≤ j → j < length xs → get_or xs i 0 ≤ get_or xs j 0
ascends [] rise i j h within = absurd (omega arith)
ascends (x ∷ xs) rise zero zero h within = omega arith
ascends (x ∷ xs) rise zero (suc j) h within = let above = rises x xs j rise.0 (omega arith) in omega (arith, above)
ascends (x ∷ xs) rise (suc i) zero h within = absurd (omega arith)
ascends (x ∷ xs) rise (suc i) (suc j) h within = ascends xs rise.1 i j (omega arith) (omega arith)

counts : (x number : ℕ) (rest : ℕ) → x < number → suc rest ≡ (if nat_eq x number then zero else suc rest)
counts x number rest less = go (nat_eq x number) refl
  where
    go : (b : Bool) → nat_eq x number ≡ b → suc rest ≡ (if b then zero else suc rest)
    go true is = absurd (grind arith)
    go false is = refl

stops : (x number : ℕ) (rest : ℕ) → x ≡ number → zero ≡ (if nat_eq x number then zero else suc rest)
stops x number rest same = go (nat_eq x number) refl
  where
    go : (b : Bool) → nat_eq x number ≡ b → zero ≡ (if b then zero else suc rest)
    go true is = refl
    go false is = absurd (grind arith)

-- the place where it is found is its place
pub found_place : (xs : List ℕ) → AreAscending xs → (place number : ℕ) → place < length xs → get_or xs place 0 ≡ number → place ≡ place_among xs number
found_place [] rise place number within is = absurd (omega arith)
found_place (x ∷ xs) rise zero number within is = stops x number (place_among xs number) is
found_place (x ∷ xs) rise (suc place) number within is =
    let above = rises x xs place rise.0 (omega arith) in
    ap suc (found_place xs rise.1 place number (omega arith) is) ∙ counts x number (place_among xs number) (omega (arith, above, is))

pub record StandsAmong (xs : List ℕ) (number : ℕ) : Type 0 where
  pub place : ℕ
  pub within : place < length xs
  pub is : get_or xs place 0 ≡ number

pub stands_among : (xs : List ℕ) (number : ℕ) → Among number xs → StandsAmong xs number
stands_among [] number among = absurd among
stands_among (x ∷ xs) number (inl same) = record { place = 0; within = omega arith; is = sym same }
stands_among (x ∷ xs) number (inr later) =
    let rest = stands_among xs number later in record { place = suc rest.place; within = (let low = rest.within in omega (arith, low)); is = rest.is }

-- nothing stands where all before are less and all others greater
pub stands_nowhere : (xs : List ℕ) (number between place : ℕ) → place < length xs → get_or xs place 0 ≡ number
    → ((k : ℕ) → k < between → get_or xs k 0 < number) → ((k : ℕ) → between ≤ k → k < length xs → number < get_or xs k 0) → ⊥
stands_nowhere xs number between place within is less more =
    elim (cases_order place between) [
      | inl same ↦ (let over = more place (omega (arith, same)) within in omega (arith, is, over))
      | inr (inl before) ↦ (let under = less place before in omega (arith, is, under))
      | inr (inr later) ↦ (let over = more place (omega (arith, later)) within in omega (arith, is, over))
    ]

-- there are no more of them than numbers below the bound
pub few_below : (xs : List ℕ) (low bound : ℕ) → AreAscending xs → Each (λ x. low ≤ x) xs → ((i : ℕ) → i < length xs → get_or xs i 0 < bound)
    → low ≤ bound → length xs + low ≤ bound
few_below [] low bound rise above within some = omega arith
few_below (x ∷ xs) low bound rise above within some =
    let first = within 0 (omega arith) in
    let rest = few_below xs (x + 1) bound rise.1 (each_map (λ y. x < y) (λ y. x + 1 ≤ y) (λ y less. omega (arith, less)) xs rise.0)
    (λ i h. within (suc i) (omega arith)) (omega (arith, first)) in
    omega (arith, rest, above.0)
