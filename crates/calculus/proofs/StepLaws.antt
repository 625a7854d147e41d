-- The evidence of a clause in terms of that of earlier clauses.
use Rattle.std.proofs.Common.{◌≡◌, ℕ, zero, suc, ◌<◌, List, ◌++◌, take, Option, Some, None, refl, ap, ap₂, arith}
use Rattle.kif_tree.specs.Subst.{lookup, Filling, via}
use Rattle.calculus.specs.declared.step.Step.{Step}
use Rattle.kif_tree.specs.Clauses.{Literals}
use Rattle.calculus.specs.Tidy.{turned_back}
use Rattle.calculus.specs.Rules.{after, nth, replacement, untidy, resolved, factored, replaced}
use Rattle.calculus.specs.Evidence.{list_from, equalities, step_evidence, evidence_within, evidence}
use Rattle.calculus.specs.Laws.{EvidenceSteps}
use Rattle.calculus.proofs.PlaceLaws.{through, nth_take}

pub alike_from : {A B : Type 0} (o : Option A) (f g : A → List B) → ((a : A) → o ≡ Some a → f a ≡ g a) → list_from o f ≡ list_from o g
alike_from None f g h = refl
alike_from (Some a) f g h = h a refl

module _ (inputs clauses : List Literals) (e d : ℕ → Filling → List Literals) (same : (p : ℕ) (c : Literals) → nth clauses p ≡ Some c → (g : Filling) → e p g ≡ d p g) (g : Filling) where
  step-alike : (step : Step) → step_evidence inputs clauses e step g ≡ step_evidence inputs clauses d step g
  step-alike (Step.Input i) = refl
  step-alike (Step.Resolve left i f right j k) =
      alike_from (untidy (Step.Resolve left i f right j k) clauses) (λ c. e left (via (lookup f.pairs) (turned_back c g)) ++ e right (via (lookup k.pairs) (turned_back c g)))
      (λ c. d left (via (lookup f.pairs) (turned_back c g)) ++ d right (via (lookup k.pairs) (turned_back c g))) (λ raw is.
      let l = through (nth clauses left) (λ l. after (nth clauses right) (λ r. resolved l i (lookup f.pairs) r j (lookup k.pairs))) raw is in
      let r = through (nth clauses right) (λ r. resolved l.at i (lookup f.pairs) r j (lookup k.pairs)) raw l.gives in
      ap₂ ◌++◌ (same left l.at l.is (via (lookup f.pairs) (turned_back raw g))) (same right r.at r.is (via (lookup k.pairs) (turned_back raw g))))
  step-alike (Step.Factor parent i j f) =
      alike_from (untidy (Step.Factor parent i j f) clauses) (λ c. e parent (via (lookup f.pairs) (turned_back c g))) (λ c. d parent (via (lookup f.pairs) (turned_back c g))) (λ raw is.
      let p = through (nth clauses parent) (λ p. factored p i j (lookup f.pairs)) raw is in
      same parent p.at p.is (via (lookup f.pairs) (turned_back raw g)))
  step-alike (Step.Paramodulate source i flipped f target j path k) =
      alike_from (replacement (Step.Paramodulate source i flipped f target j path k) clauses)
      (λ v. (e source (via (lookup f.pairs) (turned_back v.conclusion g)) ++ e target (via (lookup k.pairs) (turned_back v.conclusion g))) ++ equalities v (turned_back v.conclusion g))
      (λ v. (d source (via (lookup f.pairs) (turned_back v.conclusion g)) ++ d target (via (lookup k.pairs) (turned_back v.conclusion g))) ++ equalities v (turned_back v.conclusion g)) (λ w is.
      let s = through (nth clauses source) (λ s. after (nth clauses target) (λ m. replaced s i flipped (lookup f.pairs) m j path (lookup k.pairs))) w is in
      let m = through (nth clauses target) (λ m. replaced s.at i flipped (lookup f.pairs) m j path (lookup k.pairs)) w s.gives in
      ap (λ xs. xs ++ equalities w (turned_back w.conclusion g))
      (ap₂ ◌++◌ (same source s.at s.is (via (lookup f.pairs) (turned_back w.conclusion g))) (same target m.at m.is (via (lookup k.pairs) (turned_back w.conclusion g)))))

module _ (inputs : List Literals) (steps : List Step) (clauses : List Literals) where
  enough : (k m n : ℕ) → n < k → n < m → (g : Filling) → evidence_within inputs steps clauses k n g ≡ evidence_within inputs steps clauses m n g
  enough zero m n below other g = absurd (omega arith)
  enough (suc k) zero n below other g = absurd (omega arith)
  enough (suc k) (suc m) n below other g =
      alike_from (nth steps n) (λ step. step_evidence inputs (take n clauses) (evidence_within inputs steps clauses k) step g)
      (λ step. step_evidence inputs (take n clauses) (evidence_within inputs steps clauses m) step g) (λ step is.
      step-alike inputs (take n clauses) (evidence_within inputs steps clauses k) (evidence_within inputs steps clauses m)
      (λ p c found h. let less : p < n = (nth_take n clauses p c found).1 in enough k m p (omega arith) (omega arith) h) g step)

pub evidence_steps : EvidenceSteps
unfolding evidence
evidence_steps inputs steps clauses n g =
    alike_from (nth steps n) (λ step. step_evidence inputs (take n clauses) (evidence_within inputs steps clauses n) step g)
    (λ step. step_evidence inputs (take n clauses) (λ p h. evidence_within inputs steps clauses (suc p) p h) step g) (λ step is.
    step-alike inputs (take n clauses) (evidence_within inputs steps clauses n) (λ p h. evidence_within inputs steps clauses (suc p) p h)
    (λ p c found h. let less : p < n = (nth_take n clauses p c found).1 in enough inputs steps clauses n (suc p) p (omega arith) (omega arith) h) g step)
