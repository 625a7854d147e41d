-- The ground evidence of a derivation's clauses.
use Rattle.std.specs.Prelude.{ℕ, zero, suc, List, [], ◌∷◌, ◌++◌, map, take, Option, Some, None}
use Rattle.kif_tree.specs.Subst.{lookup, Filling, bind, via}
use Rattle.calculus.specs.declared.step.Step.{Step}
use Rattle.kif_tree.specs.Clauses.{Literals, bare}
use Rattle.calculus.specs.Tidy.{turned_back}
use Rattle.calculus.specs.declared.places.Replaced.{Replaced}
use Rattle.calculus.specs.Rules.{nth, bind_frame, replacement, untidy}
use Rattle.calculus.specs.Equality.{symmetry, congruences}

abbrev pub list_from : {A B : Type 0} → Option A → (A → List B) → List B
list_from None f = []
list_from (Some a) f = f a

-- ---- evidence

-- the instances of equality that a paramodulation needs, where its conclusion before tidying is under t
abbrev pub equalities : Replaced → Filling → List Literals
equalities w t = symmetry (bind t w.left) (bind t w.right) ∷ congruences (map (bind_frame t) w.frames) (bind t w.left) (bind t w.right)

-- Of one step, given the evidence of earlier ones. Each parent is under its own substitution and then under what the conclusion before tidying is under.
abbrev pub step_evidence : List Literals → List Literals → (ℕ → Filling → List Literals) → Step → Filling → List Literals
step_evidence inputs clauses earlier (Step.Input i) g = list_from (nth inputs i) (λ c. bare c g ∷ [])
step_evidence inputs clauses earlier (Step.Resolve left i f right j h) g =
    list_from (untidy (Step.Resolve left i f right j h) clauses) (λ c.
    earlier left (via (lookup f.pairs) (turned_back c g)) ++ earlier right (via (lookup h.pairs) (turned_back c g)))
step_evidence inputs clauses earlier (Step.Factor parent i j f) g =
    list_from (untidy (Step.Factor parent i j f) clauses) (λ c. earlier parent (via (lookup f.pairs) (turned_back c g)))
step_evidence inputs clauses earlier (Step.Paramodulate source i flipped f target j path h) g =
    list_from (replacement (Step.Paramodulate source i flipped f target j path h) clauses) (λ w.
    (earlier source (via (lookup f.pairs) (turned_back w.conclusion g)) ++ earlier target (via (lookup h.pairs) (turned_back w.conclusion g)))
    ++ equalities w (turned_back w.conclusion g))

-- over at most so many steps back
abbrev pub evidence_within : List Literals → List Step → List Literals → ℕ → ℕ → Filling → List Literals
evidence_within inputs steps clauses zero n g = []
evidence_within inputs steps clauses (suc k) n g =
    list_from (nth steps n) (λ step. step_evidence inputs (take n clauses) (evidence_within inputs steps clauses k) step g)

unfoldable pub evidence : List Literals → List Step → List Literals → ℕ → Filling → List Literals
evidence inputs steps clauses n g = evidence_within inputs steps clauses (suc n) n g

-- ---- which inputs the evidence uses, and under which fillings

pub record Use : Type 0 where
  pub input : ℕ
  pub filling : Filling

abbrev pub step_uses : List Literals → (ℕ → Filling → List Use) → Step → Filling → List Use
step_uses clauses earlier (Step.Input i) g = record { input = i; filling = g } ∷ []
step_uses clauses earlier (Step.Resolve left i f right j h) g =
    list_from (untidy (Step.Resolve left i f right j h) clauses) (λ c.
    earlier left (via (lookup f.pairs) (turned_back c g)) ++ earlier right (via (lookup h.pairs) (turned_back c g)))
step_uses clauses earlier (Step.Factor parent i j f) g =
    list_from (untidy (Step.Factor parent i j f) clauses) (λ c. earlier parent (via (lookup f.pairs) (turned_back c g)))
step_uses clauses earlier (Step.Paramodulate source i flipped f target j path h) g =
    list_from (replacement (Step.Paramodulate source i flipped f target j path h) clauses) (λ w.
    earlier source (via (lookup f.pairs) (turned_back w.conclusion g)) ++ earlier target (via (lookup h.pairs) (turned_back w.conclusion g)))

abbrev pub uses_within : List Step → List Literals → ℕ → ℕ → Filling → List Use
uses_within steps clauses zero n g = []
uses_within steps clauses (suc k) n g = list_from (nth steps n) (λ step. step_uses (take n clauses) (uses_within steps clauses k) step g)

unfoldable pub uses : List Step → List Literals → ℕ → Filling → List Use
uses steps clauses n g = uses_within steps clauses (suc n) n g
