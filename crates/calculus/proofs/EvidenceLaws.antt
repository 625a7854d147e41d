-- What satisfies the evidence of a clause satisfies the clause.
use Rattle.std.proofs.Common.{◌≡◌, ℕ, zero, suc, ◌<◌, List, [], ◌∷◌, ◌++◌, take, Bool, true, Option, Some, sym, ap, ◌∙◌, arith}
use Rattle.std.specs.List.{list_all}
use Rattle.kif_tree.specs.declared.form.Form.{Form}
use Rattle.kif_tree.specs.Subst.{lookup, Filling, via}
use Rattle.calculus.specs.declared.step.Step.{Step}
use Rattle.kif_tree.specs.Clauses.{Literals, bare}
use Rattle.calculus.specs.Truth.{satisfies}
use Rattle.calculus.specs.Tidy.{tidy, turned_back}
use Rattle.calculus.specs.Rules.{after, nth, replacement, untidy, resolved, factored, replaced, clause_of, Derivation}
use Rattle.calculus.specs.Evidence.{list_from, equalities, step_evidence, evidence_within, evidence}
use Rattle.calculus.specs.Laws.{EvidenceHolds}
use Rattle.calculus.proofs.TruthLaws.{says, says-bare, says-tidy, both}
use Rattle.calculus.proofs.PlaceLaws.{some_same, through, nth_take}
use Rattle.calculus.proofs.PathLaws.{all_parted}
use Rattle.calculus.proofs.RuleLaws.{resolved-holds, factored-holds, replaced-holds}

drawn : {A B : Type 0} (p : B → Bool) (o : Option A) (f : A → List B) (a : A) → o ≡ Some a → list_all p (list_from o f) ≡ true → list_all p (f a) ≡ true
drawn p o f a e h = ap (λ q. list_all p (list_from q f)) (sym e) ∙ h

-- the evidence of each earlier clause is good
abbrev Good : List Form → List Literals → (ℕ → Filling → List Literals) → Type 0
Good atoms clauses earlier = (p : ℕ) (c : Literals) → nth clauses p ≡ Some c → (h : Filling) → list_all (satisfies atoms) (earlier p h) ≡ true → says atoms h c ≡ true

tidied : (atoms : List Form) (g : Filling) (o : Option Literals) (c : Literals) → after o (λ raw. Some (tidy raw)) ≡ Some c
    → ((raw : Literals) → o ≡ Some raw → says atoms (turned_back raw g) raw ≡ true) → says atoms g c ≡ true
tidied atoms g o c e held =
    let t = through o (λ raw. Some (tidy raw)) c e in
    ap (says atoms g) (sym (some_same (tidy t.at) c t.gives)) ∙ says-tidy atoms g t.at (held t.at t.is)

module _ (atoms : List Form) (inputs clauses : List Literals) (earlier : ℕ → Filling → List Literals) (good : Good atoms clauses earlier) (g : Filling) where
  pub step-holds : (step : Step) (c : Literals) → clause_of inputs step clauses ≡ Some c → list_all (satisfies atoms) (step_evidence inputs clauses earlier step g) ≡ true → says atoms g c ≡ true
  step-holds (Step.Input i) c e h =
      let here = both (satisfies atoms (bare c g)) true (drawn (satisfies atoms) (nth inputs i) (λ d. bare d g ∷ []) c e h) in
      sym (says-bare atoms g c) ∙ here.0
  step-holds (Step.Resolve left i f right j k) c e h = tidied atoms g (untidy (Step.Resolve left i f right j k) clauses) c e (λ raw is.
      let t = turned_back raw g in
      let l = through (nth clauses left) (λ l. after (nth clauses right) (λ r. resolved l i (lookup f.pairs) r j (lookup k.pairs))) raw is in
      let r = through (nth clauses right) (λ r. resolved l.at i (lookup f.pairs) r j (lookup k.pairs)) raw l.gives in
      let parts = all_parted (satisfies atoms) (earlier left (via (lookup f.pairs) t)) (earlier right (via (lookup k.pairs) t))
      (drawn (satisfies atoms) (untidy (Step.Resolve left i f right j k) clauses) (λ d. earlier left (via (lookup f.pairs) (turned_back d g)) ++ earlier right (via (lookup k.pairs) (turned_back d g))) raw is h) in
      resolved-holds atoms t l.at i (lookup f.pairs) r.at j (lookup k.pairs) raw r.gives
      (good left l.at l.is (via (lookup f.pairs) t) parts.0) (good right r.at r.is (via (lookup k.pairs) t) parts.1))
  step-holds (Step.Factor parent i j f) c e h = tidied atoms g (untidy (Step.Factor parent i j f) clauses) c e (λ raw is.
      let t = turned_back raw g in
      let p = through (nth clauses parent) (λ p. factored p i j (lookup f.pairs)) raw is in
      factored-holds atoms t p.at i j (lookup f.pairs) raw p.gives
      (good parent p.at p.is (via (lookup f.pairs) t)
      (drawn (satisfies atoms) (untidy (Step.Factor parent i j f) clauses) (λ d. earlier parent (via (lookup f.pairs) (turned_back d g))) raw is h)))
  step-holds (Step.Paramodulate source i flipped f target j path k) c e h = tidied atoms g (untidy (Step.Paramodulate source i flipped f target j path k) clauses) c e (λ raw is.
      let w = through (replacement (Step.Paramodulate source i flipped f target j path k) clauses) (λ w. Some w.conclusion) raw is in
      let raw_is = some_same w.at.conclusion raw w.gives in
      let t = turned_back w.at.conclusion g in
      let s = through (nth clauses source) (λ s. after (nth clauses target) (λ m. replaced s i flipped (lookup f.pairs) m j path (lookup k.pairs))) w.at w.is in
      let m = through (nth clauses target) (λ m. replaced s.at i flipped (lookup f.pairs) m j path (lookup k.pairs)) w.at s.gives in
      let drawn_ones = drawn (satisfies atoms) (replacement (Step.Paramodulate source i flipped f target j path k) clauses)
      (λ v. (earlier source (via (lookup f.pairs) (turned_back v.conclusion g)) ++ earlier target (via (lookup k.pairs) (turned_back v.conclusion g))) ++ equalities v (turned_back v.conclusion g)) w.at w.is h in
      let outer = all_parted (satisfies atoms) (earlier source (via (lookup f.pairs) t) ++ earlier target (via (lookup k.pairs) t)) (equalities w.at t) drawn_ones in
      let parts = all_parted (satisfies atoms) (earlier source (via (lookup f.pairs) t)) (earlier target (via (lookup k.pairs) t)) outer.0 in
      ap (λ (d : Literals). says atoms (turned_back d g) d) (sym raw_is)
      ∙ replaced-holds atoms t s.at i flipped (lookup f.pairs) m.at j path (lookup k.pairs) w.at m.gives outer.1
      (good source s.at s.is (via (lookup f.pairs) t) parts.0) (good target m.at m.is (via (lookup k.pairs) t) parts.1))

module _ (inputs : List Literals) (steps : List Step) (clauses : List Literals) (derivation : Derivation inputs steps clauses) (atoms : List Form) where
  within-holds : (k n : ℕ) → n < k → (c : Literals) → nth clauses n ≡ Some c → (g : Filling)
      → list_all (satisfies atoms) (evidence_within inputs steps clauses k n g) ≡ true → says atoms g c ≡ true
  within-holds zero n below c is g h = absurd (omega arith)
  within-holds (suc k) n below c is g h =
      let s = through (nth steps n) (λ step. clause_of inputs step (take n clauses)) c (sym (derivation.each n) ∙ is) in
      step-holds atoms inputs (take n clauses) (evidence_within inputs steps clauses k)
      (λ p d found f held. let found_at = nth_take n clauses p d found in within-holds k p (let less : p < n = found_at.1 in omega arith) d found_at.0 f held)
      g s.at c s.gives
      (drawn (satisfies atoms) (nth steps n) (λ step. step_evidence inputs (take n clauses) (evidence_within inputs steps clauses k) step g) s.at s.is h)

pub evidence_holds : EvidenceHolds
unfolding evidence
evidence_holds inputs steps clauses derivation n c is g atoms h =
    says-bare atoms g c ∙ within-holds inputs steps clauses derivation atoms (suc n) n (omega arith) c is g h
