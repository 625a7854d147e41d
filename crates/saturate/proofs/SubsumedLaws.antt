-- Subsumption by one of some clauses, number by number.
use Rattle.std.proofs.Common.{◌≡◌, ◌⊎◌, inl, inr, ℕ, zero, suc, ◌+◌, ◌<◌, List, [], ◌∷◌, ◌++◌, take, length, get_or, Some, refl, sym, subst, arith}
use Rattle.std.proofs.lemmas.List.{take_more}
use Rattle.kif_tree.specs.Clauses.{Literals}
use Rattle.calculus.specs.Rules.{nth}
use Rattle.calculus.specs.Answers.{Among}
use Rattle.calculus.proofs.MemberLaws.{among-left, among-parted}
use Rattle.unify.specs.Subsumption.{Subsumes}
use Rattle.saturate.specs.Covered.{IsSubsumed, IsNeedless}
use Rattle.saturate.specs.declared.reached.Reached.{Reached}
use Rattle.saturate.specs.Runs.{clauses, IsCovered}

pub among_at : (numbers : List ℕ) (i : ℕ) → i < length numbers → Among (get_or numbers i 0) numbers
among_at [] i below = absurd (omega arith)
among_at (x ∷ numbers) zero below = inl refl
among_at (x ∷ numbers) (suc i) below = inr (among_at numbers i (omega arith))

module _ (all : List Literals) (clause : Literals) where
  pub subsumed_left : (xs ys : List ℕ) → IsSubsumed all xs clause → IsSubsumed all (xs ++ ys) clause
  subsumed_left xs ys s = record { number = s.number; among = among-left s.number xs ys s.among; general = s.general; at = s.at; subsumes = s.subsumes }

  pub subsumed_either : (xs ys : List ℕ) → IsSubsumed all (xs ++ ys) clause → IsSubsumed all xs clause ⊎ IsSubsumed all ys clause
  subsumed_either xs ys s = go (among-parted s.number xs ys s.among)
    where
      go : Among s.number xs ⊎ Among s.number ys → IsSubsumed all xs clause ⊎ IsSubsumed all ys clause
      go (inl h) = inl (record { number = s.number; among = h; general = s.general; at = s.at; subsumes = s.subsumes })
      go (inr h) = inr (record { number = s.number; among = h; general = s.general; at = s.at; subsumes = s.subsumes })

  pub unless_one : (number : ℕ) → ((general : Literals) → nth all number ≡ Some general → Subsumes general clause → ⊥) → IsSubsumed all (number ∷ []) clause → ⊥
  unless_one number never s = go s.among
    where
      go : Among s.number (number ∷ []) → ⊥
      go (inl e) = never s.general (subst (λ (n : ℕ). nth all n ≡ Some s.general) e s.at) s.subsumes
      go (inr e) = e

  pub subsumed_at : (numbers : List ℕ) (i : ℕ) → i < length numbers → IsSubsumed all (get_or numbers i 0 ∷ []) clause → IsSubsumed all numbers clause
  subsumed_at numbers i below s = go s.among
    where
      go : Among s.number (get_or numbers i 0 ∷ []) → IsSubsumed all numbers clause
      go (inl e) =
          record { number = s.number; among = subst (λ (n : ℕ). Among n numbers) (sym e) (among_at numbers i below); general = s.general; at = s.at; subsumes = s.subsumes }
      go (inr e) = absurd e

  pub not_yet : (numbers : List ℕ) (i : ℕ) → i < length numbers → (IsSubsumed all (take i numbers) clause → ⊥)
      → (IsSubsumed all (get_or numbers i 0 ∷ []) clause → ⊥) → IsSubsumed all (take (i + 1) numbers) clause → ⊥
  not_yet numbers i below before here s =
      go (subsumed_either (take i numbers) (get_or numbers i 0 ∷ []) (subst (λ (ns : List ℕ). IsSubsumed all ns clause) (take_more numbers i 0 below) s))
    where
      go : IsSubsumed all (take i numbers) clause ⊎ IsSubsumed all (get_or numbers i 0 ∷ []) clause → ⊥
      go (inl h) = before h
      go (inr h) = here h

-- what a processed clause subsumes is covered
pub covered_processed : (r : Reached) (clause : Literals) → IsNeedless (clauses r) r.processed clause → IsCovered r clause
covered_processed r clause (inl h) = inl h
covered_processed r clause (inr s) = inr (subsumed_left (clauses r) clause r.processed (r.waiting ++ (r.aside ++ r.found)) s)
