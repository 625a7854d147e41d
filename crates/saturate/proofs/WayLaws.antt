-- Ways that lead from one standing to another, one after another.
use Rattle.std.proofs.Common.{◌≡◌, ℕ, suc, ◌+◌, ◌<◌, List, ◌∷◌, map, drop, length, get_or, Option, Some, None, refl, sym, ap, ◌∙◌, subst, arith, add-one, drop-cons}
use Rattle.sigma_base.specs.Lists.{Each}
use Rattle.kif_tree.specs.declared.clause.InputClause.{InputClause}
use Rattle.infer.specs.declared.conclusion.Conclusion.{Conclusion}
use Rattle.saturate.specs.declared.ended.Ended.{Ended}
use Rattle.saturate.specs.declared.limits.Limits.{Limits}
use Rattle.saturate.specs.declared.reached.Reached.{Reached}
use Rattle.saturate.specs.Runs.{Way, Then, Comes, Come, Meets, MeetsEach, renumbered, Ran, Turn}

pub goes_on : (First Second : Way) (old middle new : Reached) (end : Option Ended) → First old middle None → Second middle new end → Then First Second old new end
goes_on First Second old middle new end first second = record { middle = middle; stop = None; first = first; second = second }

pub ends_there : (First Second : Way) (old new : Reached) (end : Ended) → First old new (Some end) → Then First Second old new (Some end)
ends_there First Second old new end first = record { middle = new; stop = Some end; first = first; second = (refl, refl) }

-- ---- conclusions one after another

-- what the rest leads to from here is what the whole list leads to from the start
pub record ComesFrom (limits : Limits) (given partner : ℕ) (list rest : List Conclusion) (start here : Reached) : Type 0 where
  pub leads : (new : Reached) (end : Option Ended) → Come limits (map (renumbered given partner) rest) here new end
      → Come limits (map (renumbered given partner) list) start new end

module _ (limits : Limits) (given partner : ℕ) (list : List Conclusion) (start : Reached) where
  pub one_came : (conclusion : Conclusion) (rest more : List Conclusion) (here new : Reached) → ComesFrom limits given partner list rest start here
      → rest ≡ conclusion ∷ more → Comes limits (renumbered given partner conclusion) here new None → ComesFrom limits given partner list more start new
  one_came conclusion rest more here new from is comes = record {
    leads = λ last end h. from.leads last end
        (subst (λ (cs : List Conclusion). Come limits (map (renumbered given partner) cs) here last end) (sym is)
        (goes_on (Comes limits (renumbered given partner conclusion)) (Come limits (map (renumbered given partner) more)) here new last end comes h));
  }

  pub one_ended : (conclusion : Conclusion) (rest more : List Conclusion) (here new : Reached) (end : Ended) → ComesFrom limits given partner list rest start here
      → rest ≡ conclusion ∷ more → Comes limits (renumbered given partner conclusion) here new (Some end)
      → Come limits (map (renumbered given partner) list) start new (Some end)
  one_ended conclusion rest more here new end from is comes = from.leads new (Some end)
      (subst (λ (cs : List Conclusion). Come limits (map (renumbered given partner) cs) here new (Some end)) (sym is)
      (ends_there (Comes limits (renumbered given partner conclusion)) (Come limits (map (renumbered given partner) more)) here new end comes))

-- ---- partners one after another

pub record MeetsFrom (limits : Limits) (given : ℕ) (partners : List ℕ) (met : ℕ) (start here : Reached) : Type 0 where
  pub leads : (new : Reached) (end : Option Ended) → MeetsEach limits given (drop met partners) here new end → MeetsEach limits given partners start new end

drop_next : (xs : List ℕ) (i : ℕ) → i < length xs → drop i xs ≡ get_or xs i 0 ∷ drop (i + 1) xs
drop_next xs i below = drop-cons xs i 0 below ∙ ap (λ (n : ℕ). get_or xs i 0 ∷ drop n xs) (sym (add-one i))

module _ (limits : Limits) (given : ℕ) (partners : List ℕ) (start : Reached) where
  pub one_met : (met : ℕ) (here new : Reached) → met < length partners → MeetsFrom limits given partners met start here
      → Meets limits given (get_or partners met 0) here new None → MeetsFrom limits given partners (met + 1) start new
  one_met met here new below from meets = record {
    leads = λ last end h. from.leads last end
        (subst (λ (ps : List ℕ). MeetsEach limits given ps here last end) (sym (drop_next partners met below))
        (goes_on (Meets limits given (get_or partners met 0)) (MeetsEach limits given (drop (met + 1) partners)) here new last end meets h));
  }

  pub met_ended : (met : ℕ) (here new : Reached) (end : Ended) → met < length partners → MeetsFrom limits given partners met start here
      → Meets limits given (get_or partners met 0) here new (Some end) → MeetsEach limits given partners start new (Some end)
  met_ended met here new end below from meets = from.leads new (Some end)
      (subst (λ (ps : List ℕ). MeetsEach limits given ps here new (Some end)) (sym (drop_next partners met below))
      (ends_there (Meets limits given (get_or partners met 0)) (MeetsEach limits given (drop (met + 1) partners)) here new end meets))

-- ---- turns

pub ran_more : (inputs : List InputClause) (limits : Limits) (turns : ℕ) (old r : Reached) → Ran inputs limits turns old → turns < limits.turns
    → Turn limits (turns + 1) old r None → Ran inputs limits (turns + 1) r
ran_more inputs limits turns old r ran left takes =
    let e : turns + 1 ≡ suc turns = omega arith in
    subst (λ (n : ℕ). Ran inputs limits n r) (sym e)
    (record { old = old; before = ran; left = left; takes = subst (λ (n : ℕ). Turn limits n old r None) e takes })

pub each_next : {X : Type 0} (P : X → Type 0) (x : X) (xs rest : List X) → xs ≡ x ∷ rest → Each P xs → Each P rest
each_next {X = X} P x xs rest is each = let all : Each P (x ∷ rest) = subst (λ (ys : List X). Each P ys) is each in all.1
