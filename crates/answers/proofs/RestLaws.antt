-- The steps on which a step of a derivation rests: they ascend, have their parents among them, and end with the step itself.
use Rattle.std.proofs.Common.{◌≡◌, inl, inr, ◌<◌, ◌≤◌, ◌+◌, ℕ, zero, suc, nat_eq, List, [], ◌∷◌, ◌++◌, length, take, Bool, true, false, Option, Some, None, if◌then◌else◌, refl, sym, ap, ap₂, ◌∙◌, subst, arith}
use Rattle.std.proofs.lemmas.Bool.{eqb-true, eq-eqb}
use Rattle.sigma_base.specs.Lists.{Each, each_map}
use Rattle.kif_tree.specs.Subst.{lookup}
use Rattle.kif_tree.specs.Clauses.{Literals}
use Rattle.calculus.specs.declared.places.Replaced.{Replaced}
use Rattle.calculus.specs.declared.step.Step.{Step}
use Rattle.calculus.specs.Tidy.{tidy}
use Rattle.calculus.specs.Rules.{after, nth, resolved, factored, replaced, replacement, untidy, clause_of, Derivation}
use Rattle.calculus.specs.Evidence.{list_from}
use Rattle.calculus.specs.Answers.{Among}
use Rattle.calculus.proofs.TruthLaws.{false_true}
use Rattle.calculus.proofs.PlaceLaws.{some_same, through, nth_take}
use Rattle.calculus.proofs.MemberLaws.{each_at}
use Rattle.infer.proofs.ParamodulateLaws.{nth_index}
use Rattle.saturate.proofs.StepLaws.{there_below}
use Rattle.answers.specs.Proofs.{parents, parents_at, LeadsTo, RestsOn, AreAscending, AreRests, AreClosed, ParentsComeBefore, place_among}

-- ---- lists

pub each_among : {X : Type 0} (P : X → Type 0) (xs : List X) → ((x : X) → Among x xs → P x) → Each P xs
each_among P [] h = tt
each_among P (x ∷ xs) h = (h x (inl refl), each_among P xs (λ y there. h y (inr there)))

-- an item stands there
pub record HasItem {X : Type 0} (items : List X) (number : ℕ) : Type 0 where
  pub item : X
  pub at : nth items number ≡ Some item

pub has_below : {X : Type 0} (items : List X) (number : ℕ) → number < length items → HasItem items number
has_below items number below = let there = there_below items number below in record { item = there.item; at = there.at }

-- ---- places among ascending numbers

pub place_at : (numbers : List ℕ) (number : ℕ) → Among number numbers → nth numbers (place_among numbers number) ≡ Some number
place_at [] number there = absurd there
place_at (x ∷ xs) number there = go (nat_eq x number) refl there (place_at xs number)
  where
    go : (b : Bool) → nat_eq x number ≡ b → Among number (x ∷ xs) → (Among number xs → nth xs (place_among xs number) ≡ Some number)
        → nth (x ∷ xs) (if b then zero else suc (place_among xs number)) ≡ Some number
    go true e there rest = ap Some (eqb-true x number e)
    go false e (inl is) rest = absurd (false_true (sym e ∙ eq-eqb x number (sym is)))
    go false e (inr more) rest = rest more

-- a number that is less stands before
pub place_before : (numbers : List ℕ) → AreAscending numbers → (k number less : ℕ) → nth numbers k ≡ Some number → Among less numbers → less < number
    → place_among numbers less < k
place_before [] ascending k number less is there below = absurd there
place_before (x ∷ xs) ascending zero number less is (inl e) below = let same = some_same x number is in absurd (omega (arith, e, same, below))
place_before (x ∷ xs) ascending zero number less is (inr there) below =
    let same = some_same x number is in
    let later : x < less = each_at (λ other. x < other) xs less there ascending.0 in
    absurd (omega (arith, same, later, below))
place_before (x ∷ xs) ascending (suc k) number less is there below = go (nat_eq x less) refl there (place_before xs ascending.1 k number less is)
  where
    go : (b : Bool) → nat_eq x less ≡ b → Among less (x ∷ xs) → (Among less xs → less < number → place_among xs less < k)
        → (if b then zero else suc (place_among xs less)) < suc k
    go true e there rest = omega arith
    go false e (inl is) rest = absurd (false_true (sym e ∙ eq-eqb x less (sym is)))
    go false e (inr more) rest = let here = rest more below in omega (arith, here)

-- the greatest number stands last
place_last : (numbers : List ℕ) → AreAscending numbers → (most : ℕ) → Among most numbers → Each (λ number. number ≤ most) numbers
    → length numbers ≡ place_among numbers most + 1
place_last [] ascending most there below = absurd there
place_last (x ∷ xs) ascending most there below = go (nat_eq x most) refl there (λ more. place_last xs ascending.1 most more below.1)
  where
    alone : (ys : List ℕ) → Each (λ other. x < other) ys → Each (λ number. number ≤ most) ys → x ≡ most → length (x ∷ ys) ≡ 1
    alone [] later lower e = omega arith
    alone (y ∷ ys) later lower e = let one : x < y = later.0 in let other : y ≤ most = lower.0 in absurd (omega (arith, one, other, e))

    go : (b : Bool) → nat_eq x most ≡ b → Among most (x ∷ xs) → (Among most xs → length xs ≡ place_among xs most + 1)
        → length (x ∷ xs) ≡ (if b then zero else suc (place_among xs most)) + 1
    go true e there rest = alone xs ascending.0 below.1 (eqb-true x most e)
    go false e (inl is) rest = absurd (false_true (sym e ∙ eq-eqb x most (sym is)))
    go false e (inr more) rest = let here = rest more in omega (arith, here)

-- ascending numbers are told by which they are
pub one_order : (first second : List ℕ) → AreAscending first → AreAscending second
    → ((number : ℕ) → Among number first → Among number second) → ((number : ℕ) → Among number second → Among number first) → first ≡ second
one_order [] [] up other there back = refl
one_order [] (y ∷ ys) up other there back = absurd (back y (inl refl))
one_order (x ∷ xs) [] up other there back = absurd (there x (inl refl))
one_order (x ∷ xs) (y ∷ ys) up other there back =
    ap₂ ◌∷◌ same (one_order xs ys up.1 other.1 (λ z h. rest z ys same (each_at (λ o. x < o) xs z h up.0) (there z (inr h)))
    (λ z h. rest z xs (sym same) (each_at (λ o. y < o) ys z h other.0) (back z (inr h))))
  where
    meets : (a b : ℕ) (xs ys : List ℕ) → Each (λ o. a < o) xs → Each (λ o. b < o) ys → Among a (b ∷ ys) → Among b (a ∷ xs) → a ≡ b
    meets a b xs ys la lb (inl e) k = e
    meets a b xs ys la lb (inr h) (inl e) = sym e
    meets a b xs ys la lb (inr h) (inr k) =
        let one : b < a = each_at (λ o. b < o) ys a h lb in
        let two : a < b = each_at (λ o. a < o) xs b k la in
        absurd (omega (arith, one, two))

    same : x ≡ y
    same = meets x y xs ys up.0 other.0 (there x (inl refl)) (back y (inl refl))

    rest : {a b : ℕ} (z : ℕ) (bs : List ℕ) → a ≡ b → a < z → Among z (b ∷ bs) → Among z bs
    rest {a = a} {b = b} z bs e less (inl is) = absurd (omega (arith, e, less, is))
    rest z bs e less (inr more) = more

-- ---- chains of parents

leads_on : (steps : List Step) (first : ℕ) (through : List ℕ) (last next : ℕ) → LeadsTo steps first through last → Among next (parents_at steps last)
    → LeadsTo steps first (through ++ next ∷ []) next
leads_on steps first [] last next leads among = (subst (λ (n : ℕ). Among next (parents_at steps n)) (sym leads) among, refl)
leads_on steps first (n ∷ through) last next leads among = (leads.0, leads_on steps n through last next leads.1 among)

-- it rests on the parents of what it rests on
pub rests_on : (steps : List Step) (step on next : ℕ) → RestsOn steps step on → Among next (parents_at steps on) → RestsOn steps step next
rests_on steps step on next rests among = record { through = rests.through ++ next ∷ []; leads = leads_on steps step rests.through on next rests.leads among }

pub rests_on_itself : (steps : List Step) (step : ℕ) → RestsOn steps step step
rests_on_itself steps step = record { through = []; leads = refl }

leads_down : (steps : List Step) → ParentsComeBefore steps → (first : ℕ) (through : List ℕ) (last : ℕ) → LeadsTo steps first through last → last ≤ first
leads_down steps earlier first [] last leads = omega (arith, leads)
leads_down steps earlier first (n ∷ through) last leads =
    let below : n < first = each_at (λ parent. parent < first) (parents_at steps first) n leads.0 (earlier first) in
    let rest = leads_down steps earlier n through last leads.1 in omega (arith, below, rest)

-- on nothing that comes after it
pub rests_below : (steps : List Step) → ParentsComeBefore steps → (step on : ℕ) → RestsOn steps step on → on ≤ step
rests_below steps earlier step on rests = leads_down steps earlier step rests.through on rests.leads

-- what holds of the step and is handed on to parents holds of all on which it rests
pub leads_along : (P : ℕ → Type 0) (steps : List Step) → ((n parent : ℕ) → P n → Among parent (parents_at steps n) → P parent)
    → (first : ℕ) (through : List ℕ) (last : ℕ) → LeadsTo steps first through last → P first → P last
leads_along P steps hands first [] last leads here = subst P leads here
leads_along P steps hands first (n ∷ through) last leads here = leads_along P steps hands n through last leads.1 (hands first n here leads.0)

-- ---- numbers on which a step rests

-- the parents of each are some of the numbers
pub rests_closed : (steps : List Step) (step : ℕ) (numbers : List ℕ) → AreRests steps step numbers → AreClosed steps numbers
rests_closed steps step numbers rests = record {
  ascending = rests.ascending;
  closed = each_among (λ on. Each (λ parent. Among parent numbers) (parents_at steps on)) numbers (λ on there.
      each_among (λ parent. Among parent numbers) (parents_at steps on) (λ parent up. (rests.exactly parent).1 (rests_on steps step on parent ((rests.exactly on).0 there) up)));
}

-- none of them is past the steps
pub rests_within : (steps : List Step) → ParentsComeBefore steps → (step : ℕ) (numbers : List ℕ) → step < length steps → AreRests steps step numbers
    → Each (λ number. number < length steps) numbers
rests_within steps earlier step numbers there rests =
    each_among (λ number. number < length steps) numbers (λ on among. let low = rests_below steps earlier step on ((rests.exactly on).0 among) in omega (arith, low, there))

-- ---- parents

-- what a step concludes, it concludes from clauses that stand there
pub parents_there : (inputs clauses : List Literals) (step : Step) (clause : Literals) → clause_of inputs step clauses ≡ Some clause → Each (HasItem clauses) (parents step)
parents_there inputs clauses (Step.Input i) clause e = tt
parents_there inputs clauses (Step.Resolve left i f right j g) clause e =
    let raw = through (untidy (Step.Resolve left i f right j g) clauses) (λ c. Some (tidy c)) clause e in
    let l = through (nth clauses left) (λ l. after (nth clauses right) (λ r. resolved l i (lookup f.pairs) r j (lookup g.pairs))) raw.at raw.is in
    let r = through (nth clauses right) (λ r. resolved l.at i (lookup f.pairs) r j (lookup g.pairs)) raw.at l.gives in
    (record { item = l.at; at = l.is }, (record { item = r.at; at = r.is }, tt))
parents_there inputs clauses (Step.Factor parent i j f) clause e =
    let raw = through (untidy (Step.Factor parent i j f) clauses) (λ c. Some (tidy c)) clause e in
    let p = through (nth clauses parent) (λ p. factored p i j (lookup f.pairs)) raw.at raw.is in
    (record { item = p.at; at = p.is }, tt)
parents_there inputs clauses (Step.Paramodulate source i flipped f target j path g) clause e =
    let raw = through (untidy (Step.Paramodulate source i flipped f target j path g) clauses) (λ c. Some (tidy c)) clause e in
    let w = through (replacement (Step.Paramodulate source i flipped f target j path g) clauses) (λ (w : Replaced). Some w.conclusion) raw.at raw.is in
    let s = through (nth clauses source) (λ s. after (nth clauses target) (λ t. replaced s i flipped (lookup f.pairs) t j path (lookup g.pairs))) w.at w.is in
    let t = through (nth clauses target) (λ t. replaced s.at i flipped (lookup f.pairs) t j path (lookup g.pairs)) w.at s.gives in
    (record { item = s.at; at = s.is }, (record { item = t.at; at = t.is }, tt))

-- the step of a clause, and what it concludes
pub record Follows (inputs : List Literals) (steps : List Step) (clauses : List Literals) (number : ℕ) (clause : Literals) : Type 0 where
  pub step : Step
  pub at : nth steps number ≡ Some step
  pub concludes : clause_of inputs step (take number clauses) ≡ Some clause

-- each step has its parents before it
pub parents_come_before : (inputs : List Literals) (steps : List Step) (clauses : List Literals) → Derivation inputs steps clauses → ParentsComeBefore steps
parents_come_before inputs steps clauses derivation number = go (nth steps number) refl
  where
    go : (o : Option Step) → nth steps number ≡ o → Each (λ parent. parent < number) (list_from o parents)
    go None at = tt
    go (Some step) at =
        let low = (nth_index steps number step at).0 in
        let has = has_below clauses number (let count = derivation.same_length in omega (arith, low, count)) in
        each_map (HasItem (take number clauses)) (λ parent. parent < number) (λ parent item. (nth_take number clauses parent item.item item.at).1) (parents step)
        (parents_there inputs (take number clauses) step has.item
        (ap (λ (o : Option Step). after o (λ s. clause_of inputs s (take number clauses))) (sym at) ∙ sym (derivation.each number) ∙ has.at))

module _ (inputs : List Literals) (steps : List Step) (clauses : List Literals) (derivation : Derivation inputs steps clauses) where
  pub follows : (number : ℕ) (clause : Literals) → nth clauses number ≡ Some clause → Follows inputs steps clauses number clause
  follows number clause is =
      let s = through (nth steps number) (λ step. clause_of inputs step (take number clauses)) clause (sym (derivation.each number) ∙ is) in
      record { step = s.at; at = s.is; concludes = s.gives }

  module _ (number : ℕ) (has : HasItem clauses number) (numbers : List ℕ) (rests : AreRests steps number numbers) where
    earlier : ParentsComeBefore steps
    earlier = parents_come_before inputs steps clauses derivation

    within : Each (λ on. on < length steps) numbers
    within =
        let low = (nth_index clauses number has.item has.at).0 in
        let count = derivation.same_length in
        rests_within steps earlier number numbers (omega (arith, low, count)) rests

    pub rests_there : Each (HasItem clauses) numbers
    rests_there =
        each_map (λ on. on < length steps) (HasItem clauses) (λ on low. has_below clauses on (let count = derivation.same_length in omega (arith, low, count))) numbers within

    pub rests_itself : Among number numbers
    rests_itself = (rests.exactly number).1 (rests_on_itself steps number)

    pub rests_last : length numbers ≡ place_among numbers number + 1
    rests_last = place_last numbers rests.ascending number rests_itself
        (each_among (λ on. on ≤ number) numbers (λ on there. rests_below steps earlier number on ((rests.exactly on).0 there)))
