-- What is covered stays covered, and what came is covered.
use Rattle.std.proofs.Common.{◌≡◌, ℕ, zero, suc, ◌+◌, ◌<◌, nat_eq, List, [], ◌∷◌, ◌++◌, map, length, not, Option, Some, None, MatchOption, inl, inr, ◌⊎◌, refl, sym, ap, ap₂, ◌∙◌, subst, arith, append_assoc, length-append}
use Rattle.std.proofs.lemmas.List.{append-nil}
use Rattle.std.proofs.lemmas.Bool.Decides.{eqb_tells}
use Rattle.sigma_base.specs.Lists.{Each, each_map}
use Rattle.kif_tree.specs.declared.clause.InputClause.{InputClause}
use Rattle.kif_tree.specs.Clauses.{Literals}
use Rattle.calculus.specs.Rules.{nth}
use Rattle.calculus.specs.Evidence.{list_from}
use Rattle.calculus.specs.Answers.{Among}
use Rattle.calculus.proofs.PlaceLaws.{none_some}
use Rattle.calculus.proofs.MemberLaws.{among-left, among-right, among-parted, among-filter, each_at}
use Rattle.infer.specs.declared.conclusion.Conclusion.{Conclusion}
use Rattle.infer.specs.Conclusions.{clause_at, AreConclusions, AreFactors}
use Rattle.saturate.specs.declared.arrival.Arrival.{Arrival}
use Rattle.saturate.specs.declared.arrival.Arrival.TheVariants as arrival
use Rattle.saturate.specs.declared.ended.Ended.{Ended}
use Rattle.saturate.specs.declared.limits.Limits.{Limits}
use Rattle.saturate.specs.declared.reached.Reached.{Reached}
use Rattle.saturate.specs.Covered.{IsNeedless}
use Rattle.saturate.specs.Runs.{clauses, known, IsCovered, IsArrival, grown, with_waiting, with_aside, with_found, arrived, end_with, Comes, Way, Stays, Then, Come, renumbered, Factors, Meets, MeetsEach, without}
use Rattle.saturate.specs.Ends.{HasFactorsCovered, HasConclusionsCovered}
use Rattle.saturate.proofs.StepLaws.{nth-append, nth-last, clauses_grown, IsNumber, Stands, stands_arrived}
use Rattle.saturate.proofs.SubsumptionLaws.{subsumes_itself}

-- ---- lists that grow at the end

pub nth_left : {X : Type 0} (xs ys : List X) (n : ℕ) (x : X) → nth xs n ≡ Some x → nth (xs ++ ys) n ≡ Some x
nth_left [] ys n x e = absurd (none_some x e)
nth_left (y ∷ xs) ys zero x e = e
nth_left (y ∷ xs) ys (suc n) x e = nth_left xs ys n x e

pub each_unmap : {X Y : Type 0} (P : Y → Type 0) (f : X → Y) (xs : List X) → Each P (map f xs) → Each (λ x. P (f x)) xs
each_unmap P f [] h = tt
each_unmap P f (x ∷ xs) h = (h.0, each_unmap P f xs h.1)

-- ---- numbers that wait no longer

pub among_without : (number other : ℕ) (numbers : List ℕ) → Among other numbers → (other ≡ number) ⊎ Among other (without number numbers)
among_without number other numbers there = elim (eqb_tells number other) [
  | inl h ↦ inl (sym h.1)
  | inr h ↦ inr (among-filter (λ (n : ℕ). not (nat_eq number n)) other (ap not h.0) numbers there)
]

-- ---- the numbers that a standing knows

abbrev pub Knows : Reached → ℕ → Type 0
Knows r n = Among n r.processed ⊎ (Among n r.waiting ⊎ (Among n r.aside ⊎ Among n r.found))

pub known_parts : (r : Reached) (n : ℕ) → Among n (known r) → Knows r n
known_parts r n there = elim (among-parted n r.processed (r.waiting ++ (r.aside ++ r.found)) there) [
  | inl h ↦ inl h
  | inr h ↦ elim (among-parted n r.waiting (r.aside ++ r.found) h) [
    | inl k ↦ inr (inl k)
    | inr k ↦ inr (inr (among-parted n r.aside r.found k))
  ]
]

pub known_joined : (r : Reached) (n : ℕ) → Knows r n → Among n (known r)
known_joined r n (inl h) = among-left n r.processed (r.waiting ++ (r.aside ++ r.found)) h
known_joined r n (inr (inl h)) = among-right n r.processed (r.waiting ++ (r.aside ++ r.found)) (among-left n r.waiting (r.aside ++ r.found) h)
known_joined r n (inr (inr (inl h))) =
    among-right n r.processed (r.waiting ++ (r.aside ++ r.found)) (among-right n r.waiting (r.aside ++ r.found) (among-left n r.aside r.found h))
known_joined r n (inr (inr (inr h))) =
    among-right n r.processed (r.waiting ++ (r.aside ++ r.found)) (among-right n r.waiting (r.aside ++ r.found) (among-right n r.aside r.found h))

-- ---- a later standing

-- clauses are added at the end
pub record Grows (old new : Reached) : Type 0 where
  pub inputs : new.inputs ≡ old.inputs
  pub more : List Literals
  pub longer : clauses new ≡ clauses old ++ more

pub grows_same : (old new : Reached) → new.inputs ≡ old.inputs → clauses new ≡ clauses old → Grows old new
grows_same old new inputs same = record { inputs = inputs; more = []; longer = same ∙ sym (append-nil (clauses old)) }

pub grows_then : (old middle new : Reached) → Grows old middle → Grows middle new → Grows old new
grows_then old middle new first second = record {
  inputs = second.inputs ∙ first.inputs;
  more = first.more ++ second.more;
  longer = second.longer ∙ ap (λ (xs : List Literals). xs ++ second.more) first.longer ∙ append_assoc (clauses old) first.more second.more;
}

pub longer_still : (old new : Reached) → Grows old new → (n : ℕ) → n < length (clauses old) → n < length (clauses new)
longer_still old new grows n below =
    let e : length (clauses new) ≡ length (clauses old) + length grows.more = ap length grows.longer ∙ length-append (clauses old) grows.more in
    omega (arith, e)

-- a clause stays what it was
pub clause_stays : (old new : Reached) → Grows old new → (n : ℕ) → n < length (clauses old) → clause_at (clauses new) n ≡ clause_at (clauses old) n
clause_stays old new grows n below =
    ap (λ (o : Option Literals). list_from o (λ clause. clause))
    (ap (λ (xs : List Literals). nth xs n) grows.longer ∙ nth-append (clauses old) grows.more n below)

-- needless with more clauses and by more numbers
pub needless_still : (old new : Reached) → Grows old new → (numbers others : List ℕ) → ((n : ℕ) → Among n numbers → Among n others) → (clause : Literals)
    → IsNeedless (clauses old) numbers clause → IsNeedless (clauses new) others clause
needless_still old new grows numbers others all clause (inl h) = inl h
needless_still old new grows numbers others all clause (inr h) = inr (record {
  number = h.number;
  among = all h.number h.among;
  general = h.general;
  at = ap (λ (xs : List Literals). nth xs h.number) grows.longer ∙ nth_left (clauses old) grows.more h.number h.general h.at;
  subsumes = h.subsumes;
})

-- numbers are added, and those processed stay what they were
pub record Extends (old new : Reached) : Type 0 where
  pub grows : Grows old new
  pub processed : new.processed ≡ old.processed
  pub waiting : (n : ℕ) → Among n old.waiting → Among n new.waiting
  pub aside : (n : ℕ) → Among n old.aside → Among n new.aside
  pub found : (n : ℕ) → Among n old.found → Among n new.found

pub extends_then : (old middle new : Reached) → Extends old middle → Extends middle new → Extends old new
extends_then old middle new first second = record {
  grows = grows_then old middle new first.grows second.grows;
  processed = second.processed ∙ first.processed;
  waiting = λ n h. second.waiting n (first.waiting n h);
  aside = λ n h. second.aside n (first.aside n h);
  found = λ n h. second.found n (first.found n h);
}

pub extends_itself : (r : Reached) → Extends r r
extends_itself r = record { grows = grows_same r r refl refl; processed = refl; waiting = λ n h. h; aside = λ n h. h; found = λ n h. h }

-- what was covered is covered
pub record Follows (old new : Reached) : Type 0 where
  pub grows : Grows old new
  pub covers : (clause : Literals) → IsCovered old clause → IsCovered new clause

pub follows_then : (old middle new : Reached) → Follows old middle → Follows middle new → Follows old new
follows_then old middle new first second = record {
  grows = grows_then old middle new first.grows second.grows;
  covers = λ clause h. second.covers clause (first.covers clause h);
}

pub follows_known : (old new : Reached) → Grows old new → ((n : ℕ) → Among n (known old) → Among n (known new)) → Follows old new
follows_known old new grows all = record { grows = grows; covers = needless_still old new grows (known old) (known new) all }

knows_still : (old new : Reached) → Extends old new → (n : ℕ) → Knows old n → Knows new n
knows_still old new e n (inl h) = inl (subst (Among n) (sym e.processed) h)
knows_still old new e n (inr (inl h)) = inr (inl (e.waiting n h))
knows_still old new e n (inr (inr (inl h))) = inr (inr (inl (e.aside n h)))
knows_still old new e n (inr (inr (inr h))) = inr (inr (inr (e.found n h)))

pub extends_follows : (old new : Reached) → Extends old new → Follows old new
extends_follows old new e =
    follows_known old new e.grows (λ n there. known_joined new n (knows_still old new e n (known_parts old n there)))

-- ---- one clause that comes

pub names_known : (inputs : List InputClause) (r : Reached) → Stands inputs r → (n : ℕ) → Knows r n → IsNumber r n
names_known inputs r stands n (inl h) = each_at (IsNumber r) r.processed n h stands.processed
names_known inputs r stands n (inr (inl h)) = each_at (IsNumber r) r.waiting n h stands.waiting
names_known inputs r stands n (inr (inr (inl h))) = each_at (IsNumber r) r.aside n h stands.aside
names_known inputs r stands n (inr (inr (inr h))) = each_at (IsNumber r) r.found n h stands.found

pub record Passes (inputs : List InputClause) (old new : Reached) : Type 0 where
  pub extends : Extends old new
  pub stands : Stands inputs new

pub passes_then : (inputs : List InputClause) (old middle new : Reached) → Passes inputs old middle → Passes inputs middle new → Passes inputs old new
passes_then inputs old middle new first second = record {
  extends = extends_then old middle new first.extends second.extends;
  stands = second.stands;
}

module _ (old : Reached) (conclusion : Conclusion) where
  arrived_extends : (a : Arrival) → Extends old (arrived old conclusion a)
  arrived_extends arrival.Contradiction = record {
    grows = record { inputs = refl; more = conclusion.clause ∷ []; longer = clauses_grown old conclusion };
    processed = refl;
    waiting = λ n h. h;
    aside = λ n h. h;
    found = λ n h. h;
  }
  arrived_extends arrival.Dropped = extends_itself old
  arrived_extends arrival.Found = record {
    grows = record { inputs = refl; more = conclusion.clause ∷ []; longer = clauses_grown old conclusion };
    processed = refl;
    waiting = λ n h. h;
    aside = λ n h. h;
    found = λ n h. among-left n old.found (length old.steps ∷ []) h;
  }
  arrived_extends arrival.Aside = record {
    grows = record { inputs = refl; more = conclusion.clause ∷ []; longer = clauses_grown old conclusion };
    processed = refl;
    waiting = λ n h. h;
    aside = λ n h. among-left n old.aside (length old.steps ∷ []) h;
    found = λ n h. h;
  }
  arrived_extends arrival.Waits = record {
    grows = record { inputs = refl; more = conclusion.clause ∷ []; longer = clauses_grown old conclusion };
    processed = refl;
    waiting = λ n h. among-left n old.waiting (length old.steps ∷ []) h;
    aside = λ n h. h;
    found = λ n h. h;
  }

module _ (inputs : List InputClause) (old : Reached) (conclusion : Conclusion) (stands : Stands inputs old) where
  -- the new clause subsumes itself
  new_covered : (numbers : List ℕ) → Among (length old.steps) numbers → IsNeedless (clauses (grown old conclusion)) numbers conclusion.clause
  new_covered numbers among = inr (record {
    number = length old.steps;
    among = among;
    general = conclusion.clause;
    at = ap₂ nth (clauses_grown old conclusion) stands.counted ∙ nth-last (clauses old) conclusion.clause;
    subsumes = subsumes_itself conclusion.clause;
  })

  at_end : (numbers : List ℕ) → Among (length old.steps) (numbers ++ length old.steps ∷ [])
  at_end numbers = among-right (length old.steps) numbers (length old.steps ∷ []) (inl refl)

  -- what came is covered, where it didn't end the search
  pub arrived_covered : (limits : Limits) (a : Arrival) → IsArrival old conclusion.clause a → end_with limits (arrived old conclusion a) a ≡ None
      → IsCovered (arrived old conclusion a) conclusion.clause
  arrived_covered limits arrival.Contradiction is ends = absurd (none_some _ (sym ends))
  arrived_covered limits arrival.Dropped is ends = is.1
  arrived_covered limits arrival.Found is ends =
      let new = with_found (grown old conclusion) (old.found ++ length old.steps ∷ []) in
      new_covered (known new) (known_joined new (length old.steps) (inr (inr (inr (at_end old.found)))))
  arrived_covered limits arrival.Aside is ends =
      let new = with_aside (grown old conclusion) (old.aside ++ length old.steps ∷ []) in
      new_covered (known new) (known_joined new (length old.steps) (inr (inr (inl (at_end old.aside)))))
  arrived_covered limits arrival.Waits is ends =
      let new = with_waiting (grown old conclusion) (old.waiting ++ length old.steps ∷ []) in
      new_covered (known new) (known_joined new (length old.steps) (inr (inl (at_end old.waiting))))

pub comes_passes : (inputs : List InputClause) (limits : Limits) (conclusion : Conclusion) (old new : Reached) (end : Option Ended) → Stands inputs old → Comes limits conclusion old new end
    → Passes inputs old new
comes_passes inputs limits conclusion old new end stands c =
    subst (Passes inputs old) (sym c.reached)
    (record { extends = arrived_extends old conclusion c.arrival; stands = stands_arrived inputs old stands conclusion c.arrival })

pub comes_covered : (inputs : List InputClause) (limits : Limits) (conclusion : Conclusion) (old new : Reached) → Stands inputs old → Comes limits conclusion old new None
    → IsCovered new conclusion.clause
comes_covered inputs limits conclusion old new stands c =
    let none : end_with limits (arrived old conclusion c.arrival) c.arrival ≡ None = ap (λ (r : Reached). end_with limits r c.arrival) (sym c.reached) ∙ sym c.ends in
    subst (λ (r : Reached). IsCovered r conclusion.clause) (sym c.reached) (arrived_covered inputs old conclusion stands limits c.arrival c.is none)

-- ---- one thing after another

-- the search went on
pub record Both (First Second : Way) (old new : Reached) (end : Option Ended) : Type 0 where
  pub middle : Reached
  pub first : First old middle None
  pub second : Second middle new end

-- or ended with the first
pub record Stopped (First : Way) (old new : Reached) (end : Option Ended) : Type 0 where
  pub ending : Ended
  pub first : First old new (Some ending)
  pub ends : end ≡ Some ending

pub then_parts : (First Second : Way) (old new : Reached) (end : Option Ended) → Then First Second old new end
    → Both First Second old new end ⊎ Stopped First old new end
then_parts First Second old new end t = go t.stop t.first t.second
  where
    go : (stop : Option Ended) → First old t.middle stop → MatchOption stop (Second t.middle new end) (λ (ending : Ended). (new ≡ t.middle) × (end ≡ Some ending))
        → Both First Second old new end ⊎ Stopped First old new end
    go None first second = inl (record { middle = t.middle; first = first; second = second })
    go (Some ending) first second = inr (record {
      ending = ending;
      first = subst (λ (r : Reached). First old r (Some ending)) (sym second.0) first;
      ends = second.1;
    })

pub then_on : (First Second : Way) (old new : Reached) → Then First Second old new None → Both First Second old new None
then_on First Second old new t = elim (then_parts First Second old new None t) [
  | inl b ↦ b
  | inr s ↦ absurd (none_some s.ending s.ends)
]

-- the way leads to a later standing
abbrev pub Carries : List InputClause → Way → Type 0
Carries inputs Way = (old new : Reached) (end : Option Ended) → Stands inputs old → Way old new end → Passes inputs old new

pub then_passes : (inputs : List InputClause) (First Second : Way) → Carries inputs First → Carries inputs Second → Carries inputs (Then First Second)
then_passes inputs First Second keeps also old new end stands t = elim (then_parts First Second old new end t) [
  | inl b ↦
      let one = keeps old b.middle None stands b.first in
      passes_then inputs old b.middle new one (also b.middle new end one.stands b.second)
  | inr s ↦ keeps old new (Some s.ending) stands s.first
]

pub stays_passes : (inputs : List InputClause) → Carries inputs Stays
stays_passes inputs old new end stands s = subst (Passes inputs old) (sym s.0) (record { extends = extends_itself old; stands = stands })

pub come_passes : (inputs : List InputClause) (limits : Limits) (conclusions : List Conclusion) → Carries inputs (Come limits conclusions)
come_passes inputs limits [] = stays_passes inputs
come_passes inputs limits (conclusion ∷ conclusions) =
    then_passes inputs (Comes limits conclusion) (Come limits conclusions) (comes_passes inputs limits conclusion) (come_passes inputs limits conclusions)

pub factors_passes : (inputs : List InputClause) (limits : Limits) (given : ℕ) → Carries inputs (Factors limits given)
factors_passes inputs limits given old new end stands f = come_passes inputs limits (map (renumbered given given) f.list) old new end stands f.come

pub meets_passes : (inputs : List InputClause) (limits : Limits) (given partner : ℕ) → Carries inputs (Meets limits given partner)
meets_passes inputs limits given partner old new end stands m = come_passes inputs limits (map (renumbered given partner) m.list) old new end stands m.come

pub meets_each_passes : (inputs : List InputClause) (limits : Limits) (given : ℕ) (partners : List ℕ) → Carries inputs (MeetsEach limits given partners)
meets_each_passes inputs limits given [] = stays_passes inputs
meets_each_passes inputs limits given (partner ∷ partners) =
    then_passes inputs (Meets limits given partner) (MeetsEach limits given partners) (meets_passes inputs limits given partner) (meets_each_passes inputs limits given partners)

-- ---- all that came is covered

abbrev pub CoveredIn : Reached → Conclusion → Type 0
CoveredIn r conclusion = IsCovered r conclusion.clause

pub come_covered : (inputs : List InputClause) (limits : Limits) (conclusions : List Conclusion) (old new : Reached) → Stands inputs old → Come limits conclusions old new None
    → Each (CoveredIn new) conclusions
come_covered inputs limits [] old new stands s = tt
come_covered inputs limits (conclusion ∷ conclusions) old new stands t =
    let b = then_on (Comes limits conclusion) (Come limits conclusions) old new t in
    let one = comes_passes inputs limits conclusion old b.middle None stands b.first in
    let rest = come_passes inputs limits conclusions b.middle new None one.stands b.second in (
      (extends_follows b.middle new rest.extends).covers conclusion.clause (comes_covered inputs limits conclusion old b.middle stands b.first),
      come_covered inputs limits conclusions b.middle new one.stands b.second,
    )

pub factors_covered : (inputs : List InputClause) (limits : Limits) (given : ℕ) (old new : Reached) → Stands inputs old → given < length (clauses old) → Factors limits given old new None
    → HasFactorsCovered new given
factors_covered inputs limits given old new stands below f =
    let passes = factors_passes inputs limits given old new None stands f in record {
      list = f.list;
      are = subst (λ (clause : Literals). AreFactors clause f.list) (sym (clause_stays old new passes.extends.grows given below)) f.are;
      covered = each_unmap (CoveredIn new) (renumbered given given) f.list (come_covered inputs limits (map (renumbered given given) f.list) old new stands f.come);
    }

pub factors_still : (old new : Reached) → Follows old new → (given : ℕ) → given < length (clauses old) → HasFactorsCovered old given → HasFactorsCovered new given
factors_still old new follows given below h = record {
  list = h.list;
  are = subst (λ (clause : Literals). AreFactors clause h.list) (sym (clause_stays old new follows.grows given below)) h.are;
  covered = each_map (CoveredIn old) (CoveredIn new) (λ conclusion k. follows.covers conclusion.clause k) h.list h.covered;
}

module _ (given partner : ℕ) (old new : Reached) (list : List Conclusion) where
  conclusions_stay : Grows old new → given < length (clauses old) → partner < length (clauses old)
      → AreConclusions (clause_at (clauses old) given) (clause_at (clauses old) partner) (nat_eq given partner) list
      → AreConclusions (clause_at (clauses new) given) (clause_at (clauses new) partner) (nat_eq given partner) list
  conclusions_stay grows first second are =
      subst (λ (clause : Literals). AreConclusions clause (clause_at (clauses new) partner) (nat_eq given partner) list) (sym (clause_stays old new grows given first))
      (subst (λ (clause : Literals). AreConclusions (clause_at (clauses old) given) clause (nat_eq given partner) list) (sym (clause_stays old new grows partner second)) are)

pub meets_covered : (inputs : List InputClause) (limits : Limits) (given partner : ℕ) (old new : Reached) → Stands inputs old → given < length (clauses old) → partner < length (clauses old)
    → Meets limits given partner old new None → HasConclusionsCovered new given partner
meets_covered inputs limits given partner old new stands first second m =
    let passes = meets_passes inputs limits given partner old new None stands m in record {
      list = m.list;
      are = conclusions_stay given partner old new m.list passes.extends.grows first second m.are;
      covered = each_unmap (CoveredIn new) (renumbered given partner) m.list (come_covered inputs limits (map (renumbered given partner) m.list) old new stands m.come);
    }

pub conclusions_still : (old new : Reached) → Follows old new → (given partner : ℕ) → given < length (clauses old) → partner < length (clauses old)
    → HasConclusionsCovered old given partner → HasConclusionsCovered new given partner
conclusions_still old new follows given partner first second h = record {
  list = h.list;
  are = conclusions_stay given partner old new h.list follows.grows first second h.are;
  covered = each_map (CoveredIn old) (CoveredIn new) (λ conclusion k. follows.covers conclusion.clause k) h.list h.covered;
}

pub meets_each_covered : (inputs : List InputClause) (limits : Limits) (given : ℕ) (partners : List ℕ) (old new : Reached) → Stands inputs old → given < length (clauses old)
    → Each (λ (partner : ℕ). partner < length (clauses old)) partners → MeetsEach limits given partners old new None
    → Each (HasConclusionsCovered new given) partners
meets_each_covered inputs limits given [] old new stands below each s = tt
meets_each_covered inputs limits given (partner ∷ partners) old new stands below each t =
    let b = then_on (Meets limits given partner) (MeetsEach limits given partners) old new t in
    let one = meets_passes inputs limits given partner old b.middle None stands b.first in
    let rest = meets_each_passes inputs limits given partners b.middle new None one.stands b.second in
    let still = longer_still old b.middle one.extends.grows in (
      conclusions_still b.middle new (extends_follows b.middle new rest.extends) given partner (still given below) (still partner each.0)
          (meets_covered inputs limits given partner old b.middle stands below each.0 b.first),
      meets_each_covered inputs limits given partners b.middle new one.stands (still given below)
          (each_map (λ (n : ℕ). n < length (clauses old)) (λ (n : ℕ). n < length (clauses b.middle)) still partners each.1) b.second,
    )
