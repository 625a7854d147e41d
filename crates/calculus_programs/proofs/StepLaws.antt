-- The evidence of a clause by the kind of its step.
use Rattle.std.proofs.Common.{◌≡◌, ℕ, ◌<◌, ◌≤◌, List, [], ◌∷◌, ◌++◌, take, length, Bool, Option, Some, None, MatchOption, Result, Ok, Err, OnOk, append_assoc, refl, sym, ap, ap₂, ◌∙◌, subst}
use Rattle.kif_tree.specs.declared.subst.Subst.{Subst}
use Rattle.kif_tree.specs.Subst.{Filling, lookup, value_of, via}
use Rattle.kif_tree.specs.Clauses.{Literals, bare}
use Rattle.calculus.specs.declared.places.Replaced.{Replaced}
use Rattle.calculus.specs.declared.step.Step.{Step}
use Rattle.calculus.specs.Tidy.{turned_back}
use Rattle.calculus.specs.Rules.{after, nth, untidy, replacement, resolved, factored, replaced}
use Rattle.calculus.specs.Evidence.{list_from, equalities, step_evidence, evidence}
use Rattle.calculus.proofs.PlaceLaws.{through, nth_take, some_same}
use Rattle.kif_tree.specs.declared.subst.Pair.{Pair}
use Rattle.calculus_programs.specs.Pairs.{Turned}
use Rattle.calculus.proofs.StepLaws.{evidence_steps}
use Rattle.calculus_programs.proofs.PickLaws.{nth-none}

module _ (inputs : List Literals) (steps : List Step) (clauses : List Literals) (n : ℕ) (g : Filling) where
  from_step : (step : Step) → nth steps n ≡ Some step → evidence inputs steps clauses n g ≡ step_evidence inputs (take n clauses) (evidence inputs steps clauses) step g
  from_step step e = evidence_steps inputs steps clauses n g ∙ ap (λ o. list_from o (λ s. step_evidence inputs (take n clauses) (evidence inputs steps clauses) s g)) e

  pub no_step : length steps ≤ n → evidence inputs steps clauses n g ≡ []
  no_step h = evidence_steps inputs steps clauses n g ∙ ap (λ o. list_from o (λ s. step_evidence inputs (take n clauses) (evidence inputs steps clauses) s g)) (nth-none steps n h)

  pub of_input : (i : ℕ) → nth steps n ≡ Some (Step.Input i) → evidence inputs steps clauses n g ≡ list_from (nth inputs i) (λ c. bare c g ∷ [])
  of_input i e = from_step (Step.Input i) e

  pub of_resolve : (left i : ℕ) (f : Subst) (right j : ℕ) (h : Subst) (raw : Literals) → nth steps n ≡ Some (Step.Resolve left i f right j h) → untidy (Step.Resolve left i f right j h) (take n clauses) ≡ Some raw
      → evidence inputs steps clauses n g ≡ evidence inputs steps clauses left (via (lookup f.pairs) (turned_back raw g)) ++ evidence inputs steps clauses right (via (lookup h.pairs) (turned_back raw g))
  of_resolve left i f right j h raw e is =
      from_step (Step.Resolve left i f right j h) e
      ∙ ap (λ o. list_from o (λ c. evidence inputs steps clauses left (via (lookup f.pairs) (turned_back c g)) ++ evidence inputs steps clauses right (via (lookup h.pairs) (turned_back c g)))) is

  pub no_resolve : (left i : ℕ) (f : Subst) (right j : ℕ) (h : Subst) → nth steps n ≡ Some (Step.Resolve left i f right j h) → untidy (Step.Resolve left i f right j h) (take n clauses) ≡ None → evidence inputs steps clauses n g ≡ []
  no_resolve left i f right j h e is =
      from_step (Step.Resolve left i f right j h) e
      ∙ ap (λ o. list_from o (λ c. evidence inputs steps clauses left (via (lookup f.pairs) (turned_back c g)) ++ evidence inputs steps clauses right (via (lookup h.pairs) (turned_back c g)))) is

  pub of_factor : (parent i j : ℕ) (f : Subst) (raw : Literals) → nth steps n ≡ Some (Step.Factor parent i j f) → untidy (Step.Factor parent i j f) (take n clauses) ≡ Some raw
      → evidence inputs steps clauses n g ≡ evidence inputs steps clauses parent (via (lookup f.pairs) (turned_back raw g))
  of_factor parent i j f raw e is =
      from_step (Step.Factor parent i j f) e ∙ ap (λ o. list_from o (λ c. evidence inputs steps clauses parent (via (lookup f.pairs) (turned_back c g)))) is

  pub no_factor : (parent i j : ℕ) (f : Subst) → nth steps n ≡ Some (Step.Factor parent i j f) → untidy (Step.Factor parent i j f) (take n clauses) ≡ None → evidence inputs steps clauses n g ≡ []
  no_factor parent i j f e is =
      from_step (Step.Factor parent i j f) e ∙ ap (λ o. list_from o (λ c. evidence inputs steps clauses parent (via (lookup f.pairs) (turned_back c g)))) is

  pub of_paramodulate : (source i : ℕ) (flipped : Bool) (f : Subst) (target j : ℕ) (path : List ℕ) (h : Subst) (w : Replaced) → nth steps n ≡ Some (Step.Paramodulate source i flipped f target j path h)
      → replacement (Step.Paramodulate source i flipped f target j path h) (take n clauses) ≡ Some w
      → evidence inputs steps clauses n g
      ≡ (evidence inputs steps clauses source (via (lookup f.pairs) (turned_back w.conclusion g)) ++ evidence inputs steps clauses target (via (lookup h.pairs) (turned_back w.conclusion g))) ++ equalities w (turned_back w.conclusion g)
  of_paramodulate source i flipped f target j path h w e is =
      from_step (Step.Paramodulate source i flipped f target j path h) e
      ∙ ap (λ o. list_from o (λ v.
      (evidence inputs steps clauses source (via (lookup f.pairs) (turned_back v.conclusion g)) ++ evidence inputs steps clauses target (via (lookup h.pairs) (turned_back v.conclusion g))) ++ equalities v (turned_back v.conclusion g))) is

  pub no_paramodulate : (source i : ℕ) (flipped : Bool) (f : Subst) (target j : ℕ) (path : List ℕ) (h : Subst) → nth steps n ≡ Some (Step.Paramodulate source i flipped f target j path h)
      → replacement (Step.Paramodulate source i flipped f target j path h) (take n clauses) ≡ None → evidence inputs steps clauses n g ≡ []
  no_paramodulate source i flipped f target j path h e is =
      from_step (Step.Paramodulate source i flipped f target j path h) e
      ∙ ap (λ o. list_from o (λ v.
      (evidence inputs steps clauses source (via (lookup f.pairs) (turned_back v.conclusion g)) ++ evidence inputs steps clauses target (via (lookup h.pairs) (turned_back v.conclusion g))) ++ equalities v (turned_back v.conclusion g))) is

-- ---- parents come earlier

module _ (clauses : List Literals) (n : ℕ) where
  earlier : (p : ℕ) (c : Literals) → nth (take n clauses) p ≡ Some c → p < n
  earlier p c e = (nth_take n clauses p c e).1

  pub below_resolve : (left i : ℕ) (f : Subst) (right j : ℕ) (h : Subst) (raw : Literals) → untidy (Step.Resolve left i f right j h) (take n clauses) ≡ Some raw → (left < n) × (right < n)
  below_resolve left i f right j h raw e =
      let l = through (nth (take n clauses) left) (λ l. after (nth (take n clauses) right) (λ r. resolved l i (lookup f.pairs) r j (lookup h.pairs))) raw e in
      let r = through (nth (take n clauses) right) (λ r. resolved l.at i (lookup f.pairs) r j (lookup h.pairs)) raw l.gives in
      (earlier left l.at l.is, earlier right r.at r.is)

  pub below_factor : (parent i j : ℕ) (f : Subst) (raw : Literals) → untidy (Step.Factor parent i j f) (take n clauses) ≡ Some raw → parent < n
  below_factor parent i j f raw e =
      let p = through (nth (take n clauses) parent) (λ p. factored p i j (lookup f.pairs)) raw e in earlier parent p.at p.is

  pub below_paramodulate : (source i : ℕ) (flipped : Bool) (f : Subst) (target j : ℕ) (path : List ℕ) (h : Subst) (w : Replaced)
      → replacement (Step.Paramodulate source i flipped f target j path h) (take n clauses) ≡ Some w → (source < n) × (target < n)
  below_paramodulate source i flipped f target j path h w e =
      let s = through (nth (take n clauses) source) (λ s. after (nth (take n clauses) target) (λ t. replaced s i flipped (lookup f.pairs) t j path (lookup h.pairs))) w e in
      let t = through (nth (take n clauses) target) (λ t. replaced s.at i flipped (lookup f.pairs) t j path (lookup h.pairs)) w s.gives in
      (earlier source s.at s.is, earlier target t.at t.is)

-- ---- as the code comes to them

module _ (inputs : List Literals) (steps : List Step) (clauses : List Literals) (n : ℕ) (g : Filling) (step : Step) (before : List Literals) (at : nth steps n ≡ Some step) (first : before ≡ take n clauses) where
  made : (other : Step) (raw : Literals) → step ≡ other → untidy step before ≡ Some raw → untidy other (take n clauses) ≡ Some raw
  made other raw e is = sym (ap₂ untidy e first) ∙ is

  unmade : (other : Step) → step ≡ other → untidy step before ≡ None → untidy other (take n clauses) ≡ None
  unmade other e is = sym (ap₂ untidy e first) ∙ is

  module _ (left i : ℕ) (f : Subst) (right j : ℕ) (h : Subst) (is : step ≡ Step.Resolve left i f right j h) where
    pub resolve_below : (pairs : List Pair) → Turned step before g pairs → (left < n) × (right < n)
    resolve_below pairs t = below_resolve clauses n left i f right j h t.raw (made (Step.Resolve left i f right j h) t.raw is t.is)

    pub resolve_none : untidy step before ≡ None → evidence inputs steps clauses n g ≡ []
    resolve_none none = no_resolve inputs steps clauses n g left i f right j h (at ∙ ap Some is) (unmade (Step.Resolve left i f right j h) is none)

    pub resolve_some : (pairs : List Pair) → Turned step before g pairs
        → evidence inputs steps clauses n g ≡ evidence inputs steps clauses left (via (lookup f.pairs) (value_of pairs)) ++ evidence inputs steps clauses right (via (lookup h.pairs) (value_of pairs))
    resolve_some pairs t =
        of_resolve inputs steps clauses n g left i f right j h t.raw (at ∙ ap Some is) (made (Step.Resolve left i f right j h) t.raw is t.is)
        ∙ ap (λ (b : Filling). evidence inputs steps clauses left (via (lookup f.pairs) b) ++ evidence inputs steps clauses right (via (lookup h.pairs) b)) (sym t.back)

  module _ (parent i j : ℕ) (f : Subst) (is : step ≡ Step.Factor parent i j f) where
    pub factor_below : (pairs : List Pair) → Turned step before g pairs → parent < n
    factor_below pairs t = below_factor clauses n parent i j f t.raw (made (Step.Factor parent i j f) t.raw is t.is)

    pub factor_none : untidy step before ≡ None → evidence inputs steps clauses n g ≡ []
    factor_none none = no_factor inputs steps clauses n g parent i j f (at ∙ ap Some is) (unmade (Step.Factor parent i j f) is none)

    pub factor_some : (pairs : List Pair) → Turned step before g pairs → evidence inputs steps clauses n g ≡ evidence inputs steps clauses parent (via (lookup f.pairs) (value_of pairs))
    factor_some pairs t =
        of_factor inputs steps clauses n g parent i j f t.raw (at ∙ ap Some is) (made (Step.Factor parent i j f) t.raw is t.is)
        ∙ ap (λ (b : Filling). evidence inputs steps clauses parent (via (lookup f.pairs) b)) (sym t.back)

  module _ (source i : ℕ) (flipped : Bool) (f : Subst) (target j : ℕ) (path : List ℕ) (h : Subst) (is : step ≡ Step.Paramodulate source i flipped f target j path h) where
    pub paramodulate_below : (w : Replaced) → replacement step before ≡ Some w → (source < n) × (target < n)
    paramodulate_below w made_is = below_paramodulate clauses n source i flipped f target j path h w (sym (ap₂ replacement is first) ∙ made_is)

    pub paramodulate_none : replacement step before ≡ None → evidence inputs steps clauses n g ≡ []
    paramodulate_none none = no_paramodulate inputs steps clauses n g source i flipped f target j path h (at ∙ ap Some is) (sym (ap₂ replacement is first) ∙ none)

    pub paramodulate_some : (w : Replaced) (pairs : List Pair) → replacement step before ≡ Some w → value_of pairs ≡ turned_back w.conclusion g
        → evidence inputs steps clauses n g
        ≡ (evidence inputs steps clauses source (via (lookup f.pairs) (value_of pairs)) ++ evidence inputs steps clauses target (via (lookup h.pairs) (value_of pairs))) ++ equalities w (value_of pairs)
    paramodulate_some w pairs made_is back =
        of_paramodulate inputs steps clauses n g source i flipped f target j path h w (at ∙ ap Some is) (sym (ap₂ replacement is first) ∙ made_is)
        ∙ ap (λ (b : Filling). (evidence inputs steps clauses source (via (lookup f.pairs) b) ++ evidence inputs steps clauses target (via (lookup h.pairs) b)) ++ equalities w b) (sym back)

-- ---- options

pub option_some : {A : Type 0} (o : Option A) (P : Type 0) (Q : A → Type 0) (x : A) → MatchOption o P Q → o ≡ Some x → Q x
option_some None P Q x h e = absurd (cc)
option_some (Some y) P Q x h e = subst Q (some_same y x e) h

pub option_none : {A : Type 0} (o : Option A) (P : Type 0) (Q : A → Type 0) → MatchOption o P Q → ((x : A) → o ≡ Some x → ⊥) → P
option_none None P Q h absent = h
option_none (Some y) P Q h absent = absurd (absent y refl)

pub added_none : (out list : List Literals) → list ≡ [] → out ≡ out ++ list
added_none out list e = sym (ap (λ (l : List Literals). out ++ l) e ∙ right_unit out)
  where
    right_unit : (xs : List Literals) → xs ++ [] ≡ xs
    right_unit [] = refl
    right_unit (x ∷ xs) = ap (λ (l : List Literals). x ∷ l) (right_unit xs)

pub on_ok : {A E : Type 0} (r : Result A E) (P Q : Type 0) → (P → Q) → OnOk r P → OnOk r Q
on_ok (Ok a) P Q f h = f h
on_ok (Err e) P Q f h = tt

pub one_part : (out new a list : List Literals) → new ≡ out ++ a → list ≡ a → new ≡ out ++ list
one_part out new a list h e = h ∙ ap (λ (l : List Literals). out ++ l) (sym e)

pub two_parts : (out mid new a b list : List Literals) → mid ≡ out ++ a → new ≡ mid ++ b → list ≡ a ++ b → new ≡ out ++ list
two_parts out mid new a b list h k e = k ∙ ap (λ (l : List Literals). l ++ b) h ∙ append_assoc out a b ∙ ap (λ (l : List Literals). out ++ l) (sym e)

pub three_parts : (out first second new a b c list : List Literals) → first ≡ out ++ a → second ≡ first ++ b → new ≡ second ++ c → list ≡ (a ++ b) ++ c → new ≡ out ++ list
three_parts out first second new a b c list h k j e = two_parts out second new (a ++ b) c list (two_parts out first second a b (a ++ b) h k refl) j e
